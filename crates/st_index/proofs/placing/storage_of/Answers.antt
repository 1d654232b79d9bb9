use Rattle.std.proofs.Common.{sym, ◌∙◌}
use Rattle.st_index.proofs.Places.{lone_key}
use Rattle.st_index.proofs.placing.storage_of.Goals as goal

pub alone-requires : goal.alone-requires
alone-requires g c = lone_key c.args.period c.args.key c.key.result c.args.rows.items c.pop.new.self.items c.index.result.now c.in-Some.row
    (sym c.args.rows.ok.0 ∙ sym c.len.ensures ∙ c.if-len-ne1.false) c.index.ensures c.in-Some.ensures.items c.key.ensures.value c.if-ne.ensures
