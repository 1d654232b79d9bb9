use Rattle.std.proofs.Common.{sym, ◌∙◌, ap, Some}
use Rattle.st_sorted.proofs.Sorted.{found, none_found}
use Rattle.st_sorted.proofs.list.get.Goals as goal

pub returns-in-Some : goal.returns-in-Some
returns-in-Some g c =
    let d = c.index-items-place.result in
    ap Some c.index-items-place.is
    ∙ sym (found g.W.Wanted.item_key (g.W.Wanted.test c.args.wanted.now) c.args.items.now c.in-Some.place d c.in-Some.ensures.alone c.in-Some.ensures.some (c.in-Some.ensures.found d))

pub returns-in-None : goal.returns-in-None
returns-in-None g c = sym (none_found g.W.Wanted.item_key (g.W.Wanted.test c.args.wanted.now) c.args.items.now c.in-None.ensures.none)
