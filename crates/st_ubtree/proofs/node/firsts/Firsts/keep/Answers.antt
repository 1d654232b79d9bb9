use Rattle.st_ubtree.proofs.Firsts.{firsts_keep}
use Rattle.st_ubtree.proofs.node.firsts.Firsts.keep.Goals as goal

pub returns : goal.returns
returns g c = λ kids h. firsts_keep c.args.self.now.keys.items c.truncate.new.self.items kids c.args.count h c.truncate.ensures.items
