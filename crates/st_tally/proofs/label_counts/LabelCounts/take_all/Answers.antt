use Rattle.std.proofs.Common.{◌<◌, Bool, length, sym, subst, arith}
use Rattle.st_text.specs.Texts.{Text}
use Rattle.st_tally.specs.declared.label_counts.LabelCount.{LabelCount}
use Rattle.st_tally.specs.inner.Sums.{CountsLess, found, total}
use Rattle.st_tally.proofs.Labels.{less_all, less_next, none_less}
use Rattle.st_tally.proofs.label_counts.LabelCounts.take_all.Goals as goal
use Rattle.st_tally.proofs.label_counts.LabelCounts.take_all.Goals.{then-other-gt0, else-other-gt0}

pub loop-other-init : goal.loop-other-init
loop-other-init g c = λ h. (h, λ judges. omega arith)

pub loop-other-preserved : goal.loop-other-preserved
loop-other-preserved g c =
    let others = c.deref-other-items.result.now in
    let i = c.loop-other.other-index in
    let below : i < length others = omega arith in
    let before = c.loop-other.self in
    let one : CountsLess before c.if-other-gt0.self (λ judges. found judges c.other-item.result) =
    elim c.if-other-gt0.branch [
      | then-other-gt0 w ↦ subst (λ s. CountsLess before s (λ judges. found judges c.other-item.result)) (sym w.self-is) w.take.ensures
      | else-other-gt0 w ↦ subst (λ s. CountsLess before s (λ judges. found judges c.other-item.result)) (sym w.self-is) (none_less before c.other-item.result (omega arith))
    ] in
    less_next (λ (judges : Text → Bool) (o : LabelCount g.row.A.Denot). found judges o) others i c.other-item.result below c.other-item.is
    c.args.self.now before c.if-other-gt0.self c.loop-other.invariant one

pub returns-clause-counts : goal.returns-clause-counts
returns-clause-counts g c =
    let all = less_all (λ (judges : Text → Bool) (o : LabelCount g.row.A.Denot). found judges o) c.deref-other-items.result.now c.loop-other.other-index
    c.loop-other-test.false c.args.self.now c.loop-other.self c.loop-other.invariant in
    subst (λ items. CountsLess c.args.self.now c.loop-other.self (λ judges. total judges items)) c.deref-other-items.ensures.value all
