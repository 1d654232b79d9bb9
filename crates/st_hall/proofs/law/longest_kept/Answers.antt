use Rattle.std.proofs.Common.{List, subst}
use Rattle.std.proofs.lemmas.List.{take_all}
use Rattle.std.specs.List.{All}
use mathlib.Core.List.{IsPrefix}
use Rattle.st_hall_press.specs.Steps.{Ask}
use Rattle.st_hall_press.proofs.Fronts.{prefix_trans}
use Rattle.st_hall.proofs.Deciding.{all_begin}
use Rattle.st_hall.proofs.law.longest_kept.Goals as goal

pub loop-kept-preserved : goal.loop-kept-preserved
loop-kept-preserved g c = record {
  first = prefix_trans c.args.first.now c.loop-kept.longest c.longer-next.result c.loop-kept.invariant.first c.longer-next.ensures.this;
  others = all_begin c.args.others.now c.loop-kept.kept-index c.kept-item.result c.loop-kept.longest c.longer-next.result c.loop-kept-test.true
      c.longer-next.ensures.this c.loop-kept.invariant.others
      (subst (λ (f : List Ask). IsPrefix f c.longer-next.result) c.kept-item.is c.longer-next.ensures.that);
}

pub returns-clause-others : goal.returns-clause-others
returns-clause-others g c =
    subst (λ (fronts : List (List Ask)). All (λ (front : List Ask). IsPrefix front c.loop-kept.longest) fronts)
    (take_all c.loop-kept.kept-index c.args.others.now c.loop-kept-test.false) c.loop-kept.invariant.others
