use Rattle.std.proofs.Common.{sym, ap, ◌∙◌}
use Rattle.st_label.specs.Reading.{is_true}
use Rattle.st_text.specs.Texts.{is_among}
use Rattle.st_auth.proofs.Recall.{of_used, recalled}
use Rattle.st_auth.proofs.long_labels.ask_in.Goals as goal

pub returns-in-Some-clause-value : goal.returns-in-Some-clause-value
returns-in-Some-clause-value g c =
    recalled c.args.auths.now c.text.result.now c.args.recent.now.entries c.in-Some.verdict (sym c.recall.ensures.value ∙ c.in-Some.is) c.requires.entries
    ∙ ap (is_true (is_among c.args.auths.now)) c.text.ensures.value

pub returns-in-Some-clause-entries : goal.returns-in-Some-clause-entries
returns-in-Some-clause-entries g c =
    of_used c.args.auths.now c.text.result.now c.args.recent.now.entries c.recall.new.recent.entries (ap (λ k. k.entries) c.recall.ensures.entries) c.requires.entries

pub returns-clause-entries : goal.returns-clause-entries
returns-clause-entries g c =
    c.remember.ensures c.args.auths.now (c.satisfies-verdict.ensures ∙ ap (is_true (is_among c.args.auths.now)) (sym c.text-2.ensures.value))
    (of_used c.args.auths.now c.text.result.now c.args.recent.now.entries c.recall.new.recent.entries (ap (λ k. k.entries) c.recall.ensures.entries) c.requires.entries)
