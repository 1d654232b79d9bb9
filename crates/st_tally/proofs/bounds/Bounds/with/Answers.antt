use Rattle.std.proofs.Common.{arith}
use Rattle.st_tally.proofs.bounds.Bounds.with.Goals as goal

pub returns-clause-one : goal.returns-clause-one
returns-clause-one c = record {
  x_from = omega arith;
  x_to = omega arith;
  y_from = omega arith;
  y_to = omega arith;
  t_from = omega arith;
  t_to = omega arith;
}

pub returns-clause-others : goal.returns-clause-others
returns-clause-others c = λ p w. record {
  x_from = omega (arith, w.x_from);
  x_to = omega (arith, w.x_to);
  y_from = omega (arith, w.y_from);
  y_to = omega (arith, w.y_to);
  t_from = omega (arith, w.t_from);
  t_to = omega (arith, w.t_to);
}
