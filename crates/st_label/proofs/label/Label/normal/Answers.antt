use Rattle.std.proofs.Common.{sym, ap, ◌∙◌, subst}
use Rattle.st_label.specs.Normal.{normal_text}
use Rattle.st_label.specs.Reading.{IsLabel}
use Rattle.st_label.proofs.NormalLabels.{normal_is_label}
use Rattle.st_label.proofs.label.Label.normal.Goals as goal

pub invariant_of-result : goal.invariant_of-result
invariant_of-result g c =
    subst IsLabel (sym (c.in_ok-new.ensures ∙ c.as_str.ensures.value ∙ c.in_ok-text.ensures ∙ ap normal_text c.text.ensures.value)) (normal_is_label c.args.self.now c.text.ensures.label)
