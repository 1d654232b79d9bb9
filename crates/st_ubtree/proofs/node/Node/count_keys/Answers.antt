use Rattle.std.proofs.Common.{◌≤◌, ap, subst}
use Rattle.std.specs.List.{All}
use Rattle.st_key.specs.Key.{rank}
use Rattle.st_tally.specs.inner.Pages.{IsWide, NodeValue}
use Rattle.st_tally.specs.inner.Pages.{AreFilled}
use Rattle.st_ubtree.proofs.Counting.{node_fits, node_filled, node_wide}
use Rattle.st_ubtree.proofs.node.Node.count_keys.Goals as goal

pub returns-clause-keys : goal.returns-clause-keys
returns-clause-keys g c =
    subst AreFilled (ap (λ (v : NodeValue g.row.A.Denot). v.pages) c.self.view_is)
    (node_filled (rank c.self.inside.first) c.self.inside.height c.self.inside.kids c.self.invariant.0)

pub returns-clause-nodes : goal.returns-clause-nodes
returns-clause-nodes g c =
    subst (All IsWide) (ap (λ (v : NodeValue g.row.A.Denot). v.widths) c.self.view_is)
    (node_wide (rank c.self.inside.first) c.self.inside.height c.self.inside.kids c.self.invariant.0)

pub returns-clause-not_more : goal.returns-clause-not_more
returns-clause-not_more g c =
    subst (λ n. n ≤ 32) (ap (λ (v : NodeValue g.row.A.Denot). v.width) c.self.view_is)
    (node_fits (rank c.self.inside.first) c.self.inside.height c.self.inside.kids c.self.invariant.0)
