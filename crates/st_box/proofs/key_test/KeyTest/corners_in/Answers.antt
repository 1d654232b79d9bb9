use Rattle.std.proofs.Common.{◌^◌, ◌<◌, ◌∙◌, arith}
use Rattle.st_key.proofs.PeriodLemmas.{period}
use Rattle.st_box.specs.inner.Bins.{first_offset_of, last_offset_of}
use Rattle.st_box.proofs.KeyTests.{first_below, last_below}
use Rattle.st_box.proofs.Lanes.{apart, same_spot, spread_is}
use Rattle.st_box.proofs.key_test.KeyTest.corners_in.Goals as goal

pub of_parts-requires-clause-x_apart : goal.of_parts-requires-clause-x_apart
of_parts-requires-clause-x_apart c = let q = c.args.self.now.query in apart _ q.x0 (omega (arith, q.x_ordered, q.x_in_range)) c.args.self.now.x_first_is

pub of_parts-requires-clause-y_apart : goal.of_parts-requires-clause-y_apart
of_parts-requires-clause-y_apart c = let q = c.args.self.now.query in apart _ q.y0 (omega (arith, q.y_ordered, q.y_in_range)) c.args.self.now.y_first_is

pub of_parts-requires-clause-offset_apart : goal.of_parts-requires-clause-offset_apart
of_parts-requires-clause-offset_apart c =
    let test = c.args.self.now in
    let fits : first_offset_of test.period test.query.t0 c.args.bin < 2 ^ 21 =
    omega (arith, first_below test.period test.query.t0 c.args.bin, (period test.period).levels) in
    apart _ _ fits c.first_in.ensures

pub of_parts-requires-2-clause-x_apart : goal.of_parts-requires-2-clause-x_apart
of_parts-requires-2-clause-x_apart c = let q = c.args.self.now.query in apart _ q.x1 q.x_in_range c.args.self.now.x_last_is

pub of_parts-requires-2-clause-y_apart : goal.of_parts-requires-2-clause-y_apart
of_parts-requires-2-clause-y_apart c = let q = c.args.self.now.query in apart _ q.y1 q.y_in_range c.args.self.now.y_last_is

pub of_parts-requires-2-clause-offset_apart : goal.of_parts-requires-2-clause-offset_apart
of_parts-requires-2-clause-offset_apart c =
    let test = c.args.self.now in
    let fits : last_offset_of test.period test.query.t1 c.args.bin < 2 ^ 21 =
    omega (arith, last_below test.period test.query.t1 c.args.bin, (period test.period).levels) in
    apart _ _ fits c.last_in.ensures

pub returns-clause-first : goal.returns-clause-first
returns-clause-first c =
    let test = c.args.self.now in
    let q = test.query in
    let fits : first_offset_of test.period q.t0 c.args.bin < 2 ^ 21 = omega (arith, first_below test.period q.t0 c.args.bin, (period test.period).levels) in
    c.of_parts.ensures
    ∙ same_spot _ _ _ _ _ _ (spread_is _ q.x0 (omega (arith, q.x_ordered, q.x_in_range)) test.x_first_is) (spread_is _ q.y0 (omega (arith, q.y_ordered, q.y_in_range)) test.y_first_is)
    (spread_is _ _ fits c.first_in.ensures)

pub returns-clause-last : goal.returns-clause-last
returns-clause-last c =
    let test = c.args.self.now in
    let q = test.query in
    let fits : last_offset_of test.period q.t1 c.args.bin < 2 ^ 21 = omega (arith, last_below test.period q.t1 c.args.bin, (period test.period).levels) in
    c.of_parts-2.ensures
    ∙ same_spot _ _ _ _ _ _ (spread_is _ q.x1 q.x_in_range test.x_last_is) (spread_is _ q.y1 q.y_in_range test.y_last_is)
    (spread_is _ _ fits c.last_in.ensures)
