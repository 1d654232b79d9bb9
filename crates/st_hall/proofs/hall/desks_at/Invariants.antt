use Rattle.std.specs.Prelude.{◌≡◌, ◌+◌, replicate}
use Rattle.st_hall_press.specs.Views.{opening_seat}
use Rattle.st_hall.proofs.hall.desks_at.Given as goal

abbrev pub invariant-loop : goal.invariant-loop
invariant-loop g l = record {
  desks : l.desks.items ≡ replicate l.counter (opening_seat l.front);
  parts : l.share.parts + l.counter ≡ l.number;
  amount : l.share.amount ≡ 0;
}
