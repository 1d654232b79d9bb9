use Rattle.std.proofs.Common.{arith}
use Rattle.st_tally.proofs.bounds.Bounds.joined.Goals as goal

pub returns-clause-own : goal.returns-clause-own
returns-clause-own c = λ p w. record {
  x_from = omega (arith, w.x_from);
  x_to = omega (arith, w.x_to);
  y_from = omega (arith, w.y_from);
  y_to = omega (arith, w.y_to);
  t_from = omega (arith, w.t_from);
  t_to = omega (arith, w.t_to);
}

pub returns-clause-others : goal.returns-clause-others
returns-clause-others c = λ p w. record {
  x_from = omega (arith, w.x_from);
  x_to = omega (arith, w.x_to);
  y_from = omega (arith, w.y_from);
  y_to = omega (arith, w.y_to);
  t_from = omega (arith, w.t_from);
  t_to = omega (arith, w.t_to);
}
