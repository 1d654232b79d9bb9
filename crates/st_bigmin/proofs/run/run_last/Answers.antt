use Rattle.std.proofs.Common.{◌/◌, ◌+◌, ◌*◌, ◌^◌, subst, arith, rules}
use Rattle.st_bigmin.specs.inner.Cells.{HasCell, IsFirstOutside}
use Rattle.st_box.specs.ZBox.{first_of}
use Rattle.st_bigmin.proofs.Jumps.{room_above}
use Rattle.st_bigmin.proofs.Runs.{runs_to-suc, run_to-end, run_to-cell}
use Rattle.st_bigmin.proofs.run.run_last.Goals as goal
use Rattle.st_bigmin.proofs.run.run_last.Goals.{then-prefix-eq0+else-not-has_cell, else-prefix-eq0}

pub has_cell-requires-clause-fits : goal.has_cell-requires-clause-fits
has_cell-requires-clause-fits c = room_above c.args.from c.loop-level.level (omega (arith, c.requires.is_address)) (omega arith) (omega arith)

pub first_outside-requires-clause-fits : goal.first_outside-requires-clause-fits
first_outside-requires-clause-fits c = room_above c.args.from c.loop-level.level (omega (arith, c.requires.is_address)) (omega arith) (omega arith)

pub returns-then-not-has_cell-clause-run : goal.returns-then-not-has_cell-clause-run
returns-then-not-has_cell-clause-run c =
    let b = c.args.zbox.now in
    let k = c.loop-level.level in
    let found = subst (λ s. IsFirstOutside (first_of b) s ((c.args.from / 2 ^ k + 1) * 2 ^ k) c.first_outside.result) c.last-last.ensures
    (subst (λ s. IsFirstOutside s c.last-last.result ((c.args.from / 2 ^ k + 1) * 2 ^ k) c.first_outside.result) c.first-first.ensures c.first_outside.ensures.first) in
    (run_to-cell b c.args.from k c.first_outside.result c.requires c.loop-level.invariant
    (room_above c.args.from k (omega (arith, c.requires.is_address)) (omega arith) (omega arith)) found c.first_outside.ensures.in_cell).1

pub returns-then-not-has_cell-clause-in_range : goal.returns-then-not-has_cell-clause-in_range
returns-then-not-has_cell-clause-in_range c =
    let room = room_above c.args.from c.loop-level.level (omega (arith, c.requires.is_address)) (omega arith) (omega arith) in
    omega (arith, c.first_outside.ensures.in_cell)

pub loop-level-preserved : goal.loop-level-preserved
loop-level-preserved c =
    let b = c.args.zbox.now in
    let k = c.loop-level.level in
    runs_to-suc b c.args.from k (omega (arith, c.requires.is_address)) (omega arith) c.loop-level.invariant
    (elim c.if-prefix-eq0.branch [
      | then-prefix-eq0+else-not-has_cell w ↦ λ even.
          let held : HasCell c.first-first.result c.last-last.result k (c.args.from / 2 ^ k + 1) = w.has_cell.ensures.0 (search rules) in
          subst (λ s. HasCell (first_of b) s k (c.args.from / 2 ^ k + 1)) c.last-last.ensures
          (subst (λ s. HasCell s c.last-last.result k (c.args.from / 2 ^ k + 1)) c.first-first.ensures held)
      | else-prefix-eq0 w ↦ λ even. absurd (omega arith)
    ])

pub returns-clause-run : goal.returns-clause-run
returns-clause-run c = run_to-end c.args.zbox.now c.args.from c.loop-level.level c.requires c.loop-level.invariant (omega arith)
