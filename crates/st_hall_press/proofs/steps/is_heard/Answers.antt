use Rattle.std.proofs.Common.{sym, ap, ◌∙◌}
use Rattle.st_core.specs.Judging.{judgement}
use Rattle.st_hall_press.proofs.Unheard.{heard_change, is_heard}
use Rattle.st_hall_press.proofs.steps.is_heard.Goals as goal

pub returns-in-Unheard : goal.returns-in-Unheard
returns-in-Unheard c d asked change is = sym (ap (λ judged. is_heard (judgement judged)) c.in-Unheard.is) ∙ heard_change d asked _ change is

pub returns-in-Heard : goal.returns-in-Heard
returns-in-Heard c d asked change is = sym (ap (λ judged. is_heard (judgement judged)) c.in-Heard.is) ∙ heard_change d asked _ change is
