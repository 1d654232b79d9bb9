use Rattle.std.proofs.Common.{◌≡◌, drop}
use Rattle.std.specs.List.{list_any}
use Rattle.st_scan.specs.inner.Steps.{has_exact}
use Rattle.st_scan.proofs.exact.is_exact.Given as goal

-- a part has the key in an exact range if one of those that are left has
abbrev pub invariant-loop-part : goal.invariant-loop-part
invariant-loop-part l = list_any (has_exact l.key) (drop l.part-index l.parts) ≡ list_any (has_exact l.key) l.parts
