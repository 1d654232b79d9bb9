use Rattle.st_json_reply.proofs.Ordered.{reply_in_order}
use Rattle.st_json_reply.proofs.law.keys_in_order.Goals as goal

pub returns : goal.returns
returns g c = reply_in_order
