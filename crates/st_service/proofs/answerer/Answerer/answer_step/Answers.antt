use Rattle.std.proofs.Common.{◌≡◌}
use Rattle.st_service.proofs.Replying.{replies_told}
use Rattle.st_service.proofs.answerer.Answerer.answer_step.Goals as goal

pub returns : goal.returns
returns g c =
    let same : c.args.self.now ≡ c.self.inside.store = cc (c.self.view_is) in
    let step = c.step-told.ensures in
    let told = c.of-answer.ensures in
    rw same (replies_told _ _ c.args.message.now _ c.args.asked.now c.requires.found c.requires.asks c.step-told.result step.reply step.state step.unchanged told.ok told.err)
