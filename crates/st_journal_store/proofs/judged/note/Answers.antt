use Rattle.std.proofs.Common.{◌≡◌, ℕ, List, sym, ap, subst, ◌∙◌}
use Rattle.st_http.specs.declared.routes.Endpoint.{Endpoint}
use Rattle.st_http.specs.Routes.{RepresentsRoute, found}
use Rattle.st_core.specs.Judging.{judgement}
use Rattle.st_core.specs.declared.judged.Judged.TheVariants.{Heard}
use Rattle.st_core.specs.Step.{judge}
use Rattle.st_journal_record.specs.Records.{IsRecordOf}
use Rattle.st_journal_store.proofs.Noting.{applied, is_text, leaves}
use Rattle.st_journal_store.proofs.judged.note.Goals as goal

pub noted-requires-clause-text : goal.noted-requires-clause-text
noted-requires-clause-text g c = is_text c.args.message.now c.args.asked.now c.requires.asks c.requires.change

pub returns-in-Unheard : goal.returns-in-Unheard
returns-in-Unheard g c d is = leaves d c.args.asked.now _ (sym is ∙ ap (λ judged. judgement judged) c.in-Unheard.is)

pub returns-in_ok-note-in-Heard : goal.returns-in_ok-note-in-Heard
returns-in_ok-note-in-Heard g c d is s at =
    let heard = subst (λ e. judge e c.args.asked.now ≡ Heard c.in-Heard.asker.now c.in-Heard.request.now c.in-Heard.refusal) (sym at)
    (sym is ∙ ap (λ judged. judgement judged) c.in-Heard.is) in
    let record_of = subst (λ (u : List ℕ). (endpoint : Endpoint) (name : List ℕ) → RepresentsRoute c.args.message.now.route (found endpoint name)
    → IsRecordOf c.in_ok-note-in-Heard.note u endpoint name c.args.message.now.body.now) c.as_str.ensures.value c.in_ok-note-in-Heard.ensures.made in
    applied s c.args.message.now c.args.asked.now c.requires.asks _ _ _ heard c.in_ok-note-in-Heard.note c.as_str.ensures.name c.requires.is_found c.requires.change record_of
