use Rattle.std.proofs.Common.{sym, ap, get_or, ◌∙◌}
use Rattle.st_ubtree.proofs.Firsts.{number, read_first}
use Rattle.st_ubtree.proofs.node.firsts.Firsts.at.Goals as goal

pub returns : goal.returns
returns g c = λ kids v h at.
    let first = c.index-as_slice-at.result in
    ap (λ keys. number (get_or keys c.args.at first)) c.as_slice.ensures.value
    ∙ read_first c.args.self.now kids c.args.at first v h at.0
    ∙ sym (ap (λ w. w.first) at.1)
