use Rattle.std.proofs.Common.{◌<◌, Bool, cond, length, arith}
use Rattle.st_text.specs.Texts.{Text}
use Rattle.st_index.specs.declared.row.Row.{Row}
use Rattle.st_tally.proofs.Labels.{more_all, more_next}
use Rattle.st_tally.proofs.label_counts.LabelCounts.put_rows.Goals as goal

pub loop-row-init : goal.loop-row-init
loop-row-init g c = λ h. (h, λ judges. omega arith)

pub loop-row-preserved : goal.loop-row-preserved
loop-row-preserved g c =
    let rows = c.args.rows.now in
    let i = c.loop-row.row-index in
    let below : i < length rows = omega arith in
    more_next (λ (judges : Text → Bool) (r : Row g.row.A.Denot). cond (judges r.label) 1 0) rows i c.row-item.result below c.row-item.is
    c.args.self.now c.loop-row.self c.put.new.self c.loop-row.invariant c.put.ensures

pub returns : goal.returns
returns g c = more_all (λ (judges : Text → Bool) (r : Row g.row.A.Denot). cond (judges r.label) 1 0) c.args.rows.now c.loop-row.row-index
    c.loop-row-test.false c.args.self.now c.loop-row.self c.loop-row.invariant
