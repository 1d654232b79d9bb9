use Rattle.std.proofs.Common.{◌≡◌, ◌+◌, cond, set, subst, ap, ◌∙◌, refl, arith}
use Rattle.st_tally.specs.declared.label_counts.LabelCount.{LabelCount}
use Rattle.st_tally.specs.inner.Sums.{total}
use Rattle.st_tally.proofs.Labels.{take_there, found_here}
use Rattle.st_tally.proofs.label_counts.take.Goals as goal

pub returns : goal.returns
returns g c = λ yes judges.
    let counts = c.args.counts.now.items in
    let i = c.in-Some.at in
    let kid = c.index_mut-count.result.now in
    let held = c.in-Some.ensures.1 in
    let here = found_here counts c.as_slice.result.now i held.0 kid c.as_slice.ensures.value c.in-Some.ensures.0 held.1 c.index_mut-count.ensures.value in
    let new = record kid { rows = c.in-Some-checked_sub.less } in
    let less : kid.rows ≡ c.in-Some-checked_sub.less + c.args.rows = omega (arith, c.in-Some-checked_sub.ensures.0, c.in-Some-checked_sub.ensures.1) in
    let sum = take_there judges counts i kid new here.0 c.index_mut-count.ensures.value c.args.rows refl less in
    subst (λ l. total judges (set counts i new) + cond (judges l) c.args.rows 0 ≡ total judges counts) (ap (λ (x : LabelCount g.row.A.Denot). x.label) here.1 ∙ held.2) sum
