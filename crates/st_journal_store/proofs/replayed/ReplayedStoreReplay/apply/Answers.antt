use Rattle.std.proofs.Common.{rules, ◌≡◌, sym, subst, ◌∙◌}
use Rattle.std.proofs.lemmas.Result.{err_from_is_err_and}
use Rattle.std.specs.declared.alloc.Global.{Global}
use Rattle.st_core.specs.State.{State}
use Rattle.st_journal.specs.declared.replay.ReplayError.{ReplayError}
use Rattle.st_journal_store.specs.Applying.{Applies}
use Rattle.st_journal_store.proofs.replayed.ReplayedStoreReplay.apply.Goals as goal

pub returns-in_err-judged-clause-invalid : goal.returns-in_err-judged-clause-invalid
returns-in_err-judged-clause-invalid c e after a =
    let p = err_from_is_err_and c.from_residual.result c.from_residual.ensures.1 in
    let told = sym p.1 ∙ e in
    let bad : p.0 ≡ ReplayError.Invalid = cc in
    let shown : c.args.self.now ≡ c.self.inside.store = search rules in
    c.in_err-judged.ensures.invalid (search (rules, p.2, bad)) c.self.inside.store after (sym c.directory.ensures)
    (subst (λ (s : State Global). Applies s c.args.change.now after) shown a)
