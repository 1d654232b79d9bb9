use Rattle.std.proofs.Common.{◌≡◌, map, take}
use Rattle.st_tally.specs.inner.Pages.{NodeValue}
use Rattle.st_ubtree.proofs.Firsts.{number}
use Rattle.st_ubtree.proofs.node.firsts.Firsts.renew.Given as goal

-- those of the children so far
abbrev pub invariant-loop-kid : goal.invariant-loop-kid
invariant-loop-kid g l = map number l.self.keys.items ≡ map (λ (v : NodeValue g.row.A.Denot). v.first) (take l.kid-index l.kids)
