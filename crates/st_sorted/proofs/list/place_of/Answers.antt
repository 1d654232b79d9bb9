use Rattle.std.proofs.Common.{rules, length}
use Rattle.std.proofs.lemmas.List.Sorted.{IsPartitionPoint-from_clause}
use Rattle.st_text.specs.Texts.{comes_before}
use Rattle.st_sorted.proofs.Sorted.{place_from, partitioned, alone}
use Rattle.st_sorted.proofs.list.place_of.Goals as goal

pub returns-clause-place : goal.returns-clause-place
returns-clause-place g c =
    let key = g.W.Wanted.item_key in
    let wanted = g.W.Wanted.key c.args.wanted.now in
    let sorted = partitioned key wanted c.args.items.now c.requires in
    place_from key wanted c.args.items.now c.partition_point.result c.partition_point.ensures.bound
    (IsPartitionPoint-from_clause (λ y. comes_before (key y) wanted) c.args.items.now c.partition_point.result c.partition_point.ensures.partitioned sorted (λ a r f' k. search rules))

pub returns-clause-alone : goal.returns-clause-alone
returns-clause-alone g c =
    alone g.W.Wanted.item_key (g.W.Wanted.test c.args.wanted.now) (g.W.Wanted.key c.args.wanted.now) (λ x e. g.met.W.Wanted.exact c.args.wanted.now x e)
    c.args.items.now c.partition_point.result c.requires (returns-clause-place g c)

pub returns-then-goes_last-clause-alone : goal.returns-then-goes_last-clause-alone
returns-then-goes_last-clause-alone g c =
    alone g.W.Wanted.item_key (g.W.Wanted.test c.args.wanted.now) (g.W.Wanted.key c.args.wanted.now) (λ x e. g.met.W.Wanted.exact c.args.wanted.now x e)
    c.args.items.now (length c.args.items.now) c.requires (c.goes_last.ensures c.if-goes_last.true)
