use Rattle.std.proofs.Common.{Err, ap, ◌∙◌, subst}
use Rattle.st_label.specs.Faults.{RefusesLabel}
use Rattle.st_label.proofs.Refused.{not_both}
use Rattle.st_label.proofs.label.Label.is_true_for.Goals as goal

pub unreachable-requires : goal.unreachable-requires
unreachable-requires g c =
    not_both c.args.self.now c.in-Err.field-0 (λ e. c.judge.ensures.memory (c.in-Err.is ∙ ap Err e)) c.text.ensures.label
    (subst (λ text. RefusesLabel text c.in-Err.field-0) (c.as_bytes.ensures.value ∙ c.text.ensures.value) c.in-Err.ensures.fault)
