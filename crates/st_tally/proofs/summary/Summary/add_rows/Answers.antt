use Rattle.std.proofs.Common.{◌<◌, ◌++◌, length, take, sym, ap, subst, arith}
use Rattle.std.proofs.lemmas.List.{append-nil, take_all}
use Rattle.st_tally.specs.inner.Sums.{Sums}
use Rattle.st_tally.proofs.Summing.{next_rows}
use Rattle.st_tally.proofs.summary.Summary.add_rows.Goals as goal

pub loop-row-init : goal.loop-row-init
loop-row-init g c = λ rows sums. subst (Sums c.args.self.now) (sym (append-nil rows)) sums

pub loop-row-preserved : goal.loop-row-preserved
loop-row-preserved g c = λ rows sums.
    let more = c.args.more.now in
    let i = c.loop-row.row-index in
    let below : i < length more = omega arith in
    subst (Sums c.add.new.self) (next_rows rows more i c.row-item.result below c.row-item.is) (c.add.ensures (rows ++ take i more) (c.loop-row.invariant rows sums))

pub returns : goal.returns
returns g c = λ rows sums. subst (Sums c.loop-row.self) (ap (λ xs. rows ++ xs) (take_all c.loop-row.row-index c.args.more.now c.loop-row-test.false)) (c.loop-row.invariant rows sums)
