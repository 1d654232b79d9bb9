use Rattle.std.specs.Prelude.{◌≡◌, ◌++◌, map}
use Rattle.std.specs.Vec.Iter.{into_iter_items}
use Rattle.st_server.specs.Attending.{desk_of, synced_of}
use Rattle.st_server.proofs.leaving.desks_of.Given as goal

-- The desks so far are those of the first workers, and so is what these had synced.
abbrev pub invariant-loop-worker : goal.invariant-loop-worker
invariant-loop-worker g l =
    (l.desks.items ++ map (desk_of g.T.AtDesk.standing) (into_iter_items l.worker-iterator)
    ≡ map (desk_of g.T.AtDesk.standing) (into_iter_items l.initial.worker-iterator))
    × (l.synced.items ++ map (synced_of g.T.AtDesk.standing) (into_iter_items l.worker-iterator)
    ≡ map (synced_of g.T.AtDesk.standing) (into_iter_items l.initial.worker-iterator))
