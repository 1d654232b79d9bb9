use Rattle.std.proofs.Common.{arith}
use Rattle.st_json_reply.proofs.Added.{added_item, added_list}
use Rattle.st_json_reply.proofs.written.write_list.Goals as goal

pub loop-item-preserved : goal.loop-item-preserved
loop-item-preserved g c =
    added_item c.args.name.now g.T.WriteJson.written c.args.items.now c.loop-item.item-index c.item-item.result _ _ _ (omega arith) c.item-item.is
    c.loop-item.invariant c.in_ok-write_json.ensures

pub returns : goal.returns
returns g c = added_list c.args.name.now g.T.WriteJson.written c.args.items.now c.loop-item.item-index _ _ _ _ (omega arith) c.loop-item.invariant c.end_array.ensures
