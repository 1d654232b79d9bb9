use Rattle.std.proofs.Common.{◌≡◌, ◌∙◌, sym, subst}
use Rattle.std.specs.declared.alloc.Global.{Global}
use Rattle.st_core.specs.State.{State}
use Rattle.st_service.specs.Answers.{RepliesTo}
use Rattle.st_service.specs.Bytes.{bytes_of}
use Rattle.st_journal_store.specs.Keeping.{answered, state_with}
use Rattle.st_journal_store.proofs.Syncing.{held, none_lost, none_waits}
use Rattle.st_journal_store.proofs.answerer.DurableAnswererReplies.reply.Goals as goal

pub returns-in-Some-clause-answered : goal.returns-in-Some-clause-answered
returns-in-Some-clause-answered g c = c.in-Some.ensures.told (answered c.args.self.now)

pub invariant_of-self : goal.invariant_of-self
invariant_of-self g c =
    let j = g.J.Journal in
    let works = none_lost _ _ c.self.view_is c.requires in
    held j g.met.J.Journal.leaves_list g.B.Beginning.first g.B.Since.faults
    c.self.inside.journal c.self.inside.store c.self.inside.pending c.answer-answer.result.1 c.self.inside.loss works c.self.invariant
    c.answer-answer.ensures.noted

pub returns-clause-answered : goal.returns-clause-answered
returns-clause-answered g c =
    let same : answered c.args.self.now ≡ state_with c.self.inside.store c.self.inside.pending = cc (c.self.view_is) in
    let before = same ∙ none_waits c.self.inside.store c.self.inside.pending c.if-is_some.ensures in
    subst (λ (s : State Global). RepliesTo s c.args.message.now (bytes_of c.answer-answer.result.0)
    (state_with c.self.inside.store c.answer-answer.result.1)) (sym before) c.answer-answer.ensures.told
