use Rattle.st_service.proofs.Replying.{replies}
use Rattle.st_journal_store.proofs.answer.answer.Goals as goal

pub returns-clause-told : goal.returns-clause-told
returns-clause-told g c =
    replies c.args.store.now _ c.args.message.now _ c.in-Ok.asked c.requires c.in-Ok.ensures c.in-Ok-ask.ensures.state c.in-Ok-ask.reply
    c.in-Ok-ask.ensures.reply c.of-answer.ensures.ok
