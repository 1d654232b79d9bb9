use Rattle.std.proofs.Common.{◌≡◌, drop, false}
use Rattle.std.specs.Cmp.Lexicographic.{slice_cmp}
use Rattle.std.specs.Ordering.{nat_cmp}
use Rattle.st_label.specs.inner.Terms.{unescaped_from}
use Rattle.st_label.proofs.term.compare_unescaped.Given as goal

-- what is left of both decides
abbrev pub invariant-loop-b : goal.invariant-loop-b
invariant-loop-b l =
    slice_cmp nat_cmp l.name (unescaped_from false l.quoted) ≡ slice_cmp nat_cmp l.rest (unescaped_from l.behind (drop l.b-index l.quoted))
