use Rattle.st_ubtree.proofs.Firsts.{firsts_close}
use Rattle.st_ubtree.proofs.node.firsts.Firsts.remove_at.Goals as goal

pub returns : goal.returns
returns g c = λ kids l h. firsts_close c.args.self.now.keys.items c.remove-first.new.self.items kids c.args.at h c.remove-first.ensures.items
