use Rattle.std.proofs.Common.{◌∙◌, arith, length-set, rules}
use Rattle.st_tally.specs.declared.spots.Spot.{Spot}
use Rattle.st_tally.proofs.Tested.{tested_here, tested_next}
use Rattle.st_tally.proofs.testing.test_marks.Goals as goal

pub loop-at-preserved : goal.loop-at-preserved
loop-at-preserved c =
    let marks = c.args.marks.now in
    let at = c.loop-at.at in
    let first : Spot = record { low = 0; high = 0 } in
    record {
      long = length-set c.loop-at.tested at _ ∙ c.loop-at.invariant.long;
      is_tested = λ query i bounds below.
          tested_next query marks c.loop-at.tested at i _ (omega (arith, c.loop-at.invariant.long, c.loop-at-test.true)) below
          (tested_here query marks at c.has.result _ first (search rules) (search rules) (λ point is. c.has.ensures query marks.week point bounds is))
          (λ less. c.loop-at.invariant.is_tested query i bounds less);
    }
