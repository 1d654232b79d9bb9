use Rattle.std.proofs.Common.{arith, refl}
use Rattle.st_box.proofs.Spans.{box_in, offsets_ordered}
use Rattle.st_key.proofs.PeriodLemmas.{period}
use Rattle.st_box.proofs.query.Query.box_in.Goals as goal

pub invariant_of-result : goal.invariant_of-result
invariant_of-result c =
    let q = c.args.self.now in
    let w = period c.args.period in
    let last = c.last_offset.ensures.in_range in
    record {
      x_ordered = q.x_ordered;
      y_ordered = q.y_ordered;
      offset_ordered = offsets_ordered c.args.period c.args.bin q.t0 q.t1 c.first_offset.result c.last_offset.result c.first_offset.ensures.starts
          c.last_offset.ensures.ends q.t_ordered c.requires.from_first c.requires.to_last;
      x_in_range = q.x_in_range;
      y_in_range = q.y_in_range;
      offset_in_range = omega (arith, w.levels);
    }

pub returns-clause-keys : goal.returns-clause-keys
returns-clause-keys c = box_in c.args.self.now c.args.period c.args.bin _ (record {
  x_first = refl;
  x_last = refl;
  y_first = refl;
  y_last = refl;
  starts = c.first_offset.ensures.starts;
  ends = c.last_offset.ensures.ends;
  offset_below = c.last_offset.ensures.in_range;
})
