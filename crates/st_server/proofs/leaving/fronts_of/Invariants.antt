use Rattle.std.specs.Prelude.{◌≡◌, map, take}
use Rattle.st_server.proofs.leaving.fronts_of.Given as goal

abbrev pub invariant-loop-desk : goal.invariant-loop-desk
invariant-loop-desk g l = l.fronts.items ≡ map (λ desk. desk.seen) (take l.desk-index l.desks)
