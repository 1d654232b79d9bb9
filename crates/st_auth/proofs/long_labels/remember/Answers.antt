use Rattle.std.proofs.Common.{sym, ap, ◌∙◌}
use Rattle.st_label.specs.Reading.{is_true}
use Rattle.st_text.specs.Texts.{is_among}
use Rattle.st_auth.proofs.Recall.{of_tried}
use Rattle.st_auth.proofs.long_labels.remember.Goals as goal

pub returns-in-Ok : goal.returns-in-Ok
returns-in-Ok g c = λ names h are.
    of_tried names c.args.recent.now c.put-kept.new.self c.in-Ok.text c.args.verdict c.put-kept.result c.put-kept.ensures.entries
    c.put-kept.ensures.err (h ∙ ap (is_true (is_among names)) (sym c.in-Ok.ensures.ok)) are
