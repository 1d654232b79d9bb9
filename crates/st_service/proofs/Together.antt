-- Two runs without a 503.
use Rattle.std.proofs.Common.{◌≡◌, sym, ◌∙◌, ap}
use Rattle.st_text.specs.Texts.{Text}
use Rattle.st_core.specs.State.{State}
use Rattle.st_service.specs.Worlds.{Exchange, answers_to, kept_of}
use Rattle.st_service.proofs.Connections.{defined}
use Rattle.st_service.proofs.Equal.{equal}

pub equal_runs : {A : Type 0} (s : State A) (user : Text) (one two : Exchange user s) → kept_of one.asked ≡ kept_of two.asked
    → answers_to user one.asked.items one.texts ≡ answers_to user two.asked.items two.texts
equal_runs s user one two same =
    let a = one.asked in
    let b = two.asked in
    ap (answers_to user a.items) (defined s one.end a.items one.texts a.history one.run one.none_busy a.is_history).texts_are
    ∙ equal s user a.items b.items a.history b.history a.is_history b.is_history a.never b.never same
    ∙ sym (ap (answers_to user b.items) (defined s two.end b.items two.texts b.history two.run two.none_busy b.is_history).texts_are)
