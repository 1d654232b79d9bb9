use Rattle.std.proofs.Common.{List, subst}
use Rattle.std.proofs.lemmas.List.{take_all}
use Rattle.std.specs.List.{All}
use mathlib.Core.List.{IsPrefix}
use Rattle.st_hall_press.specs.Steps.{Ask}
use Rattle.st_hall_press.proofs.Fronts.{prefix_trans}
use Rattle.st_hall.proofs.Deciding.{all_begin}
use Rattle.st_hall.proofs.law.one_list.Goals as goal

pub loop-front-preserved : goal.loop-front-preserved
loop-front-preserved g c = record {
  first = prefix_trans c.args.first.now c.loop-front.list c.longer-next.result c.loop-front.invariant.first c.longer-next.ensures.this;
  others = all_begin c.args.others.now c.loop-front.front-index c.front-item.result c.loop-front.list c.longer-next.result c.loop-front-test.true
      c.longer-next.ensures.this c.loop-front.invariant.others
      (subst (λ (f : List Ask). IsPrefix f c.longer-next.result) c.front-item.is c.longer-next.ensures.that);
}

pub returns-clause-others : goal.returns-clause-others
returns-clause-others g c =
    subst (λ (fronts : List (List Ask)). All (λ (front : List Ask). IsPrefix front c.loop-front.list) fronts)
    (take_all c.loop-front.front-index c.args.others.now c.loop-front-test.false) c.loop-front.invariant.others
