use Rattle.std.proofs.Common.{◌≡◌, ℕ, ◌<◌, map, take}
use Rattle.st_auth.specs.inner.Order.{name_at}
use Rattle.st_auth.specs.inner.Fronts.{AreBytes, front}
use Rattle.st_auth.proofs.order.Fronts.new.Given as goal

abbrev pub invariant-loop-name : goal.invariant-loop-name
invariant-loop-name g l =
    (l.fronts.items ≡ map front (take l.name-index l.names)) × ((place : ℕ) → place < l.name-index → AreBytes (name_at l.names place))
