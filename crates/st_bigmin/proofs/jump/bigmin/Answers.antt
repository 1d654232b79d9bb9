use Rattle.std.proofs.Common.{sym}
use Rattle.st_bigmin.proofs.Jumps.{some_of, none_of}
use Rattle.st_bigmin.proofs.jump.bigmin.Goals as goal

pub returns-clause-some : goal.returns-clause-some
returns-clause-some c = some_of c.args.zbox.now c.args.z _ _ c.next_between.result (sym c.first.ensures) (sym c.last.ensures) c.next_between.ensures.some

pub returns-clause-none : goal.returns-clause-none
returns-clause-none c = none_of c.args.zbox.now c.args.z _ _ c.next_between.result (sym c.first.ensures) (sym c.last.ensures) c.next_between.ensures.none
