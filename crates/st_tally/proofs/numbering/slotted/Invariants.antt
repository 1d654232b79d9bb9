use Rattle.std.proofs.Common.{◌≡◌}
use Rattle.st_tally.proofs.numbering.slotted.Given as goal

abbrev pub invariant-loop-step : goal.invariant-loop-step
invariant-loop-step g l = record {
  same : l.labels ≡ l.initial.labels;
}
