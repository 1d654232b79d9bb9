use Rattle.st_label.specs.inner.Truth.{stage_of}
use Rattle.st_label.proofs.Judged.{Reached}
use Rattle.st_label.proofs.truth.judge.Given as goal

abbrev pub invariant-loop-at : goal.invariant-loop-at
invariant-loop-at g l = Reached (g.N.Names.among l.names) l.text l.at (stage_of l.pass)
