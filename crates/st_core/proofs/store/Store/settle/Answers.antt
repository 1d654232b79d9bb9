use Rattle.std.proofs.Common.{rules, ◌≡◌, subst}
use Rattle.st_core.specs.Judging.{JudgesChange, judgement}
use Rattle.st_core.specs.Step.{Heard}
use Rattle.st_core.proofs.Judgements.{change_heard}
use Rattle.st_core.proofs.store.Store.settle.Goals as goal

pub carry_out-requires-clause-known : goal.carry_out-requires-clause-known
carry_out-requires-clause-known g c =
    let at = c.in-Heard in
    let same : judgement c.args.judged ≡ Heard at.asker.now at.request.now at.refusal = search rules in
    (change_heard c.args.self.now.directory at.asker.now at.request.now at.refusal (subst (JudgesChange c.args.self.now.directory) same c.requires)).1

pub carry_out-requires-clause-change : goal.carry_out-requires-clause-change
carry_out-requires-clause-change g c =
    let at = c.in-Heard in
    let same : judgement c.args.judged ≡ Heard at.asker.now at.request.now at.refusal = search rules in
    (change_heard c.args.self.now.directory at.asker.now at.request.now at.refusal (subst (JudgesChange c.args.self.now.directory) same c.requires)).0

pub carry_out-requires-clause-judged : goal.carry_out-requires-clause-judged
carry_out-requires-clause-judged g c =
    let at = c.in-Heard in
    let same : judgement c.args.judged ≡ Heard at.asker.now at.request.now at.refusal = search rules in
    (change_heard c.args.self.now.directory at.asker.now at.request.now at.refusal (subst (JudgesChange c.args.self.now.directory) same c.requires)).2
