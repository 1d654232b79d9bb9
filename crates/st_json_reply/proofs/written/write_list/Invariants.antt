use Rattle.st_json_reply.proofs.Added.{ListBegun}
use Rattle.st_json_reply.proofs.written.write_list.Given as goal

abbrev pub invariant-loop-item : goal.invariant-loop-item
invariant-loop-item g l = ListBegun l.fn.name g.T.WriteJson.written l.items l.item-index l.fn.out l.out
