use Rattle.std.proofs.Common.{rules, ◌≡◌, sym}
use Rattle.std.specs.Cmp.Lexicographic.{slice_cmp}
use Rattle.std.specs.Ordering.{nat_cmp}
use Rattle.std.specs.declared.cmp.Ordering.TheVariants.{Less, Equal, Greater}
use Rattle.st_auth.specs.inner.Order.{name_at}
use Rattle.st_auth.proofs.Merge.{at_first, after_step}
use Rattle.st_auth.proofs.auths.Auths.has_all.Goals as goal

pub theirs-init : goal.theirs-init
theirs-init g c = rw (c.as_slice-ours.ensures.value, c.as_slice-theirs.ensures.value)
    (at_first c.self.inside.names.items c.other.inside.names.items c.self.inside.order.items c.other.inside.order.items c.self.invariant.0
    c.other.invariant.0)

pub theirs-preserved-in-Less : goal.theirs-preserved-in-Less
theirs-preserved-in-Less g c =
    let found : slice_cmp nat_cmp (name_at c.self.inside.names.items c.in-Some-split_first.our.now) (name_at c.other.inside.names.items c.in-Some.their.now) ≡ Less = search rules in
    after_step _ _ _ _ _ _ _ _ c.in-Some-split_first.ensures.cases.0 c.in-Some.ensures.cases.0 Less found c.theirs.invariant

pub theirs-preserved : goal.theirs-preserved
theirs-preserved g c =
    let found : slice_cmp nat_cmp (name_at c.self.inside.names.items c.in-Some-split_first.our.now) (name_at c.other.inside.names.items c.in-Some.their.now) ≡ Equal = search rules in
    after_step _ _ _ _ _ _ _ _ c.in-Some-split_first.ensures.cases.0 c.in-Some.ensures.cases.0 Equal found c.theirs.invariant

pub returns-in-Greater : goal.returns-in-Greater
returns-in-Greater g c =
    let found : slice_cmp nat_cmp (name_at c.self.inside.names.items c.in-Some-split_first.our.now) (name_at c.other.inside.names.items c.in-Some.their.now) ≡ Greater = search rules in
    rw (sym c.self.view_is, sym c.other.view_is) (sym (after_step _ _ _ _ _ _ _ _ c.in-Some-split_first.ensures.cases.0 c.in-Some.ensures.cases.0 Greater found c.theirs.invariant))
