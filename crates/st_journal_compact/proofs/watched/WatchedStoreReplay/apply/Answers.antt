use Rattle.std.proofs.Common.{◌≡◌, rules, sym, ◌∙◌}
use Rattle.std.proofs.lemmas.Result.{err_from_is_err_and}
use Rattle.st_journal.specs.declared.replay.ReplayError.{ReplayError}
use Rattle.st_journal_compact.proofs.Seeing.{watches}
use Rattle.st_journal_compact.proofs.watched.WatchedStoreReplay.apply.Goals as goal

pub returns-in_err-request-clause-invalid : goal.returns-in_err-request-clause-invalid
returns-in_err-request-clause-invalid c e after a =
    let p = err_from_is_err_and c.from_residual.result c.from_residual.ensures.1 in
    let told = sym p.1 ∙ e in
    let bad : p.0 ≡ ReplayError.Invalid = cc in
    c.in_err-request.ensures.invalid (sym p.2 ∙ bad) a.request a.reads

pub returns-clause-ok : goal.returns-clause-ok
returns-clause-ok c =
    watches c.args.self.now c.args.change.now c.self.inside.store c.make_again-made.new.store c.self.inside.changes.items c.reserve.new.self.items
    c.push.new.self.items c.in_ok-request.request c.in_ok-accepted.accepted c.in-Ok.note (search rules) c.in_ok-accepted.ensures.ok
    c.in_ok-request.ensures.ok c.in_ok-accepted.ensures.accepted c.reserve.ensures.items c.in-Ok-push.ensures.items c.in-Ok.ensures
