use Rattle.std.proofs.Common.{not, sym, ◌∙◌, subst}
use Rattle.st_sorted.specs.Sorted.{Rises}
use Rattle.st_sorted.proofs.Sorted.{taken_out, none_taken, rises_filter}
use Rattle.st_sorted.proofs.list.remove.Goals as goal

pub returns-in-Some-clause-items : goal.returns-in-Some-clause-items
returns-in-Some-clause-items g c =
    let value = c.deref.ensures.value in
    let d = c.remove.result in
    c.remove.ensures.items
    ∙ taken_out g.W.Wanted.item_key (g.W.Wanted.test c.args.wanted.now) c.args.items.now.items c.in-Some.place d (rw value at c.in-Some.ensures.alone)
    (rw value at c.in-Some.ensures.some) (rw value at (c.in-Some.ensures.found d))

pub returns-in-Some-clause-sorted : goal.returns-in-Some-clause-sorted
returns-in-Some-clause-sorted g c =
    let key = g.W.Wanted.item_key in
    subst (Rises key) (sym (returns-in-Some-clause-items g c))
    (rises_filter key (λ item. not (g.W.Wanted.test c.args.wanted.now item)) c.args.items.now.items c.requires)

pub returns-in-None-clause-items : goal.returns-in-None-clause-items
returns-in-None-clause-items g c =
    sym (none_taken g.W.Wanted.item_key (g.W.Wanted.test c.args.wanted.now) c.args.items.now.items (rw c.deref.ensures.value at c.in-None.ensures.none))
