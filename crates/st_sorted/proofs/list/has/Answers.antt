use Rattle.st_sorted.proofs.Sorted.{any_at}
use Rattle.st_sorted.proofs.list.has.Goals as goal

pub returns : goal.returns
returns g c =
    any_at g.W.Wanted.item_key (g.W.Wanted.test c.args.wanted.now) c.args.items.now c.place_of-place.result c.is_at.result
    c.place_of-place.ensures.alone c.is_at.ensures.inside c.is_at.ensures.yes_at c.is_at.ensures.not_at
