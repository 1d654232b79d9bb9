use Rattle.std.proofs.Common.{rules, ◌≡◌, None, subst, sym}
use Rattle.st_core.specs.Judging.{JudgesChange, judgement}
use Rattle.st_core.specs.Step.{Heard}
use Rattle.st_core.proofs.Judgements.{change_heard}
use Rattle.st_core.proofs.Steps.{shown_change}
use Rattle.st_core.proofs.decision.Decision.of.Goals as goal

pub changed-requires-clause-allowed : goal.changed-requires-clause-allowed
changed-requires-clause-allowed g c =
    let at = c.in-Heard-default-default-None in
    let same : judgement c.args.judged.now ≡ Heard at.asker.now at.request.now None = search rules in
    (change_heard c.args.directory.now at.asker.now at.request.now None (subst (JudgesChange c.args.directory.now) same c.requires)).2

pub returns-in_ok-changed-in-Heard-default-default-None-clause-reply : goal.returns-in_ok-changed-in-Heard-default-default-None-clause-reply
returns-in_ok-changed-in-Heard-default-default-None-clause-reply g c s =
    let at = c.in-Heard-default-default-None in
    let same : judgement c.args.judged.now ≡ Heard at.asker.now at.request.now None = search rules in
    let heard = change_heard c.args.directory.now at.asker.now at.request.now None (subst (JudgesChange c.args.directory.now) same c.requires) in
    rw same (sym (shown_change s at.asker.now at.request.now heard.0))
