use Rattle.std.proofs.Common.{◌≡◌, sym}
use Rattle.st_core.specs.Judging.{judgement}
use Rattle.st_core.specs.Step.{judge}
use Rattle.st_core.proofs.Judgements.{step_settles}
use Rattle.st_core.proofs.store.Store.change.Goals as goal

pub settle-requires : goal.settle-requires
settle-requires g c =
    let said : judgement c.judge-judged.result ≡ judge c.args.self.now.directory c.args.asked.now = rw (← c.self.view_is) c.judge-judged.ensures in
    (c.args.asked.now, c.requires, sym said)

pub returns-clause-reply : goal.returns-clause-reply
returns-clause-reply g c =
    let said : judgement c.judge-judged.result ≡ judge c.args.self.now.directory c.args.asked.now = rw (← c.self.view_is) c.judge-judged.ensures in
    rw (← step_settles c.args.self.now c.args.asked.now (judgement c.judge-judged.result) said) c.settle.ensures.reply

pub returns-clause-state : goal.returns-clause-state
returns-clause-state g c =
    let said : judgement c.judge-judged.result ≡ judge c.args.self.now.directory c.args.asked.now = rw (← c.self.view_is) c.judge-judged.ensures in
    rw (← step_settles c.args.self.now c.args.asked.now (judgement c.judge-judged.result) said) c.settle.ensures.state
