use Rattle.std.specs.Prelude.{◌≡◌, ℕ, ◌+◌, ◌<◌, [], get_or, vec_items, vec_len}
use Rattle.std.specs.Vec.Iter.{into_iter_items, into_iter_len}
use Rattle.st_hall.specs.Views.{opening_seat}
use Rattle.st_server.specs.Attending.{AreNew}
use Rattle.st_server.proofs.stations.stations_at.Given as goal

-- The desks that are left are new, and so are the stations, which are as many as the desks that were taken.
abbrev pub invariant-loop-desk : goal.invariant-loop-desk
invariant-loop-desk g l =
    ((k : ℕ) (d : _) → k < into_iter_len l.desk-iterator → get_or (into_iter_items l.desk-iterator) k d ≡ opening_seat [])
    × AreNew (vec_items l.stations)
    × (vec_len l.stations + into_iter_len l.desk-iterator ≡ into_iter_len l.initial.desk-iterator)
