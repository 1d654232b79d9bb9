use Rattle.std.proofs.Common.{arith, inl, inr, sym, ◌∙◌, ap}
use Rattle.std.proofs.lemmas.Grind.{common_steps}
use Rattle.std.proofs.lemmas.List.{drop_all}
use Rattle.std.specs.Cmp.Lexicographic.{slice_cmp}
use Rattle.std.specs.Ordering.{nat_cmp}
use Rattle.st_label.specs.inner.Terms.{unescaped_from}
use Rattle.st_label.proofs.Terms.{nothing_there, greater}
use Rattle.st_label.proofs.term.compare_unescaped.Goals as goal
use Rattle.st_label.proofs.term.compare_unescaped.Goals.{else-not-behind-via-then-not-behind+else-b-eq92, else-not-behind-via-else-not-behind}

pub returns-in_default : goal.returns-in_default
returns-in_default c =
    sym (c.loop-b.invariant ∙ nothing_there c.loop-b.rest.now c.args.quoted.now c.loop-b.b-index c.loop-b.behind c.loop-b-test.true (elim c.else-not-behind.branch [
      | else-not-behind-via-then-not-behind+else-b-eq92 w ↦ inr w.if-b-eq92.false
      | else-not-behind-via-else-not-behind w ↦ inl w.if-not-behind.false
    ]) c.in_default.ensures.cases)

pub returns-else-is_empty : goal.returns-else-is_empty
returns-else-is_empty c =
    sym (c.loop-b.invariant ∙ ap (λ k. slice_cmp nat_cmp c.loop-b.rest.now (unescaped_from c.loop-b.behind k)) (drop_all c.loop-b.b-index c.args.quoted.now c.loop-b-test.false)
    ∙ greater c.loop-b.rest.now c.loop-b.behind (sym c.is_empty.ensures ∙ c.if-is_empty.false))

pub loop-b-preserved : goal.loop-b-preserved
loop-b-preserved c = grind (arith, common_steps)
