use Rattle.std.proofs.Common.{◌≡◌, ◌+◌, ◌<◌, subst, arith, rules, vec_len}
use Rattle.st_key.specs.Key.{rank}
use Rattle.st_ubtree.specs.inner.Growing.{AreBlank}
use Rattle.st_ubtree.specs.inner.Splits.{splits}
use Rattle.st_ubtree.proofs.Needing.{made_full, made_less}
use Rattle.st_ubtree.proofs.Halving.{blank_last}
use Rattle.st_ubtree.proofs.node.Node.put.Goals as goal

pub insert-requires-clause-enough : goal.insert-requires-clause-enough
insert-requires-clause-enough g c = made_less c.args.self.now.height (splits c.args.self.now (rank c.args.key)) (vec_len c.args.inners) c.requires.enough

pub returns-in_default-clause-wide : goal.returns-in_default-clause-wide
returns-in_default-clause-wide g c =
    λ tall. let two = c.requires.wide (omega (arith, c.in_default.ensures.grows.height, tall)) in omega (arith, c.in_default.ensures.grows.widths.0, two)

pub unreachable-requires : goal.unreachable-requires
unreachable-requires g c =
    let split : splits c.args.self.now (rank c.args.key) ≡ c.args.self.now.height + 1 = c.in-Some.ensures.split in
    let none = c.in_default-pop.ensures.cases.0 in
    omega (arith, split, made_full c.args.self.now.height (splits c.args.self.now (rank c.args.key)) split, c.requires.enough, c.in-Some.ensures.left, none)

pub raise-requires-clause-empty : goal.raise-requires-clause-empty
raise-requires-clause-empty g c = (blank_last c.pop.new.self.items c.in-Some-pop.blank (subst AreBlank c.in-Some-pop.ensures.items c.in-Some.ensures.blank)).1.0

pub raise-requires-clause-room : goal.raise-requires-clause-room
raise-requires-clause-room g c = (blank_last c.pop.new.self.items c.in-Some-pop.blank (subst AreBlank c.in-Some-pop.ensures.items c.in-Some.ensures.blank)).1.1

pub raise-requires-clause-height : goal.raise-requires-clause-height
raise-requires-clause-height g c =
    let split : splits c.args.self.now (rank c.args.key) ≡ c.args.self.now.height + 1 = c.in-Some.ensures.split in
    let fits : vec_len c.args.inners < 18446744073709551616 = search rules in
    let same = c.in-Some.ensures.grows.height in
    omega (arith, split, made_full c.args.self.now.height (splits c.args.self.now (rank c.args.key)) split, c.requires.enough, fits, same)
