use Rattle.st_sorted.proofs.Sorted.{absent}
use Rattle.st_sorted.proofs.list.position.Goals as goal

pub returns-else-is_at-clause-none : goal.returns-else-is_at-clause-none
returns-else-is_at-clause-none g c =
    absent g.W.Wanted.item_key (g.W.Wanted.test c.args.wanted.now) c.args.items.now c.place_of-place.result c.place_of-place.ensures.alone
    (λ d less. c.is_at.ensures.not_at c.if-is_at.false d less)
