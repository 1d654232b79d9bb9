use Rattle.std.proofs.Common.{◌≡◌, ◌+◌, rules}
use Rattle.st_server_workers.proofs.Clients.{one_more}
use Rattle.st_server_workers.proofs.working.answer_at_door.Goals as goal

pub loop-preserved : goal.loop-preserved
loop-preserved g c =
    let is : c.in-Some-checked_add.more ≡ c.loop.count + 1 = search rules in (
      search rules,
      search rules,
      one_more g.T.Attend.serves g.C.Client.call c.args.attendant.now c.loop.attendant c.meet-ended.new.attendant c.loop.count
          c.in-Some-checked_add.more c.in-Some-next.client c.meet-ended.result is c.loop.invariant.2 c.meet-ended.ensures.met,
    )

pub returns-then-matches : goal.returns-then-matches
returns-then-matches g c =
    let is : c.in-Some-checked_add.more ≡ c.loop.count + 1 = search rules in
    one_more g.T.Attend.serves g.C.Client.call c.args.attendant.now c.loop.attendant c.meet-ended.new.attendant c.loop.count
    c.in-Some-checked_add.more c.in-Some-next.client c.meet-ended.result is c.loop.invariant.2 c.meet-ended.ensures.met
