use Rattle.std.proofs.Common.{◌∙◌, sym, ap, subst}
use Rattle.st_key.specs.Key.{rank}
use Rattle.st_index.specs.RowViews.{row_of_view}
use Rattle.st_index.specs.inner.Entries.{rank_of}
use Rattle.st_scan.specs.inner.Regions.{Count, Meets}
use Rattle.st_scan.specs.inner.Walks.{MeetsUpTo}
use Rattle.st_scan.specs.inner.Steps.{AreExact}
use Rattle.st_scan.proofs.Positions.{given_at, given_opened}
use Rattle.st_scan.proofs.walk.Walk.next.Goals as goal

pub forward-requires-clause-exact : goal.forward-requires-clause-exact
forward-requires-clause-exact g c = subst (AreExact c.self.inside.test.period c.self.inside.test.query) (sym c.as_slice.ensures.value) c.self.invariant.exact

pub returns-in_default-clause-none : goal.returns-in_default-clause-none
returns-in_default-clause-none g c =
    ap (λ v. v.left) (sym c.self.view_is) ∙ sym c.forward.ensures.left ∙ (c.forward.ensures.over c.in_default.ensures.none).left

pub returns-in_default-clause-end : goal.returns-in_default-clause-end
returns-in_default-clause-end g c = (c.forward.ensures.over c.in_default.ensures.none).left

pub returns-in_default-clause-opened_all : goal.returns-in_default-clause-opened_all
returns-in_default-clause-opened_all g c =
    let opened = c.forward.new.at.opened in
    let all = (c.forward.ensures.over c.in_default.ensures.none).opened in
    subst (λ v. Count (Meets v.period v.query v.start) v.regions opened) c.self.view_is
    (subst (λ k. Count (Meets c.self.inside.test.period c.self.inside.test.query (rank k)) (g.I.RowIndex.regions c.self.inside.index.now) opened) c.forward.ensures.start all)

pub invariant_of-self-2 : goal.invariant_of-self-2
invariant_of-self-2 g c = record {
  same_period = c.self.invariant.same_period;
  exact = c.self.invariant.exact;
  own_exact = c.make_after.ensures;
  follow = c.self.invariant.follow;
  few = c.self.invariant.few;
  at = given_at c.self.inside.test.period c.self.inside.test.query (g.I.RowIndex.content c.self.inside.index.now)
      (g.I.RowIndex.regions c.self.inside.index.now) c.forward.new.at _ _ c.forward.ensures.at c.in-Some.ensures.some;
}

pub returns-clause-opened : goal.returns-clause-opened
returns-clause-opened g c =
    let opened = c.forward.new.at.opened in
    let w = c.self.inside.test.period in
    let q = c.self.inside.test.query in
    let regions = g.I.RowIndex.regions c.self.inside.index.now in
    let some = given_opened w q (g.I.RowIndex.content c.self.inside.index.now) regions c.forward.new.at _ _ c.forward.ensures.at c.in-Some.ensures.some in
    subst (λ v. Count (MeetsUpTo v.period v.query v.start (rank_of v.period (row_of_view c.in-Some.row))) v.regions opened) c.self.view_is
    (subst (λ k. Count (MeetsUpTo w q (rank k) (rank_of w (row_of_view c.in-Some.row))) regions opened) c.forward.ensures.start some)
