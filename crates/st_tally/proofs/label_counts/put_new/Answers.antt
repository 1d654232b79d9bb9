use Rattle.std.proofs.Common.{◌≡◌, cond, ap, ◌∙◌, arith}
use Rattle.st_tally.specs.declared.label_counts.LabelCount.{LabelCount}
use Rattle.st_tally.specs.inner.Sums.{found}
use Rattle.st_tally.proofs.Labels.{put_spare, found_here}
use Rattle.st_tally.proofs.label_counts.put_new.Goals as goal

pub returns : goal.returns
returns g c = λ yes judges.
    let counts = c.fill.new.counts.items in
    let i = c.in-Some-find_spare.at in
    let held = c.in-Some-find_spare.ensures.1 in
    let kid = c.index_mut.result.now in
    let here = found_here counts c.as_slice.result.now i held.0 kid c.as_slice.ensures.value c.in-Some-find_spare.ensures.0 held.1 c.index_mut.ensures.value in
    let none : kid.rows ≡ 0 = ap (λ (x : LabelCount g.row.A.Denot). x.rows) here.1 ∙ held.2 in
    let put = c.in-Some.ensures in
    let new : found judges c.overwrite.new.at ≡ cond (judges c.args.label.now) c.args.rows 0 =
    ap (found judges) c.overwrite.ensures
    ∙ ap (λ l. cond (judges l) c.in-Some.count.rows 0) put.0
    ∙ ap (λ k. cond (judges c.args.label.now) k 0) put.1 in
    omega (arith, put_spare judges counts i kid c.overwrite.new.at here.0 c.index_mut.ensures.value none, c.fill.ensures judges, new)
