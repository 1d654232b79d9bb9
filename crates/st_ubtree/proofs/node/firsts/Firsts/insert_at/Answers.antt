use Rattle.std.proofs.Common.{ap}
use Rattle.st_tally.specs.inner.Pages.{NodeValue}
use Rattle.st_ubtree.proofs.Firsts.{firsts_open}
use Rattle.st_ubtree.proofs.node.firsts.Firsts.insert_at.Goals as goal

pub returns : goal.returns
returns g c = λ kids l few h. firsts_open c.args.self.now.keys.items c.insert.new.self.items kids c.args.at h (record { key = c.kid.inside.first })
    c.args.kid.now c.insert.ensures.items (ap (λ (v : NodeValue g.row.A.Denot). v.first) c.kid.view_is)
