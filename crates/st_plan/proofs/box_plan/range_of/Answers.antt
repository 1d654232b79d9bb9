use Rattle.std.proofs.Common.{refl}
use Rattle.std.proofs.lemmas.Bool.{leb-true, le-leb}
use Rattle.st_plan.proofs.RangeLemmas.{under, range_is}
use Rattle.st_plan.proofs.box_plan.range_of.Goals as goal

pub first_in_cell-lo-requires-clause-some : goal.first_in_cell-lo-requires-clause-some
first_in_cell-lo-requires-clause-some c = under c.args.zbox.now c.args.level c.args.run.first c.requires.first

pub last_in_cell-hi-requires-clause-some : goal.last_in_cell-hi-requires-clause-some
last_in_cell-hi-requires-clause-some c = under c.args.zbox.now c.args.level c.args.run.last c.requires.last

pub returns : goal.returns
returns c =
    range_is c.args.zbox.now c.args.level c.first_in_cell-lo.result c.last_in_cell-hi.result c.run_last.result c.args.run _ refl refl
    c.first_in_cell-lo.ensures c.last_in_cell-hi.ensures c.run_last.ensures.run (λ yes. leb-true _ _ yes, λ le. le-leb _ _ le)
