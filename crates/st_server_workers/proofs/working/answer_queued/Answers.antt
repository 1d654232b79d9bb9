use Rattle.std.proofs.Common.{◌≡◌, ◌+◌, rules}
use Rattle.st_server_workers.proofs.Clients.{one_more}
use Rattle.st_server_workers.proofs.working.answer_queued.Goals as goal

pub loop-client-preserved : goal.loop-client-preserved
loop-client-preserved g c =
    let is : c.in-Some-checked_add.more ≡ c.loop-client.count + 1 = search rules in
    one_more g.T.Attend.serves g.C.Client.call c.args.attendant.now c.loop-client.attendant c.meet-ended.new.attendant c.loop-client.count
    c.in-Some-checked_add.more c.in-Some.client c.meet-ended.result is c.loop-client.invariant c.meet-ended.ensures.met

pub returns-then-matches : goal.returns-then-matches
returns-then-matches g c =
    let is : c.in-Some-checked_add.more ≡ c.loop-client.count + 1 = search rules in
    one_more g.T.Attend.serves g.C.Client.call c.args.attendant.now c.loop-client.attendant c.meet-ended.new.attendant c.loop-client.count
    c.in-Some-checked_add.more c.in-Some.client c.meet-ended.result is c.loop-client.invariant c.meet-ended.ensures.met
