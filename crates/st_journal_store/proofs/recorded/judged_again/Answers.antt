use Rattle.std.proofs.Common.{rules, ◌≡◌, true, sym, ap, ◌∙◌}
use Rattle.std.proofs.lemmas.Result.{err_from_is_err_and}
use Rattle.std.specs.Result.{result_err}
use Rattle.st_dir.specs.Directory.{is_user}
use Rattle.st_policy.specs.Policy.{refusal_of}
use Rattle.st_policy.specs.Requests.{is_change}
use Rattle.st_journal.specs.declared.replay.ReplayError.{ReplayError}
use Rattle.st_journal_store.proofs.Rejudging.{applied, judges, refusal_is}
use Rattle.st_journal_store.proofs.Replaying.{applies_none}
use Rattle.st_journal_store.proofs.recorded.judged_again.Goals.{then-not-is_change-via-then-not-is_change, then-not-is_change-via-else-not-is_change+then-not-has_user}
use Rattle.st_journal_store.proofs.recorded.judged_again.Goals as goal

pub returns-in_err-request-clause-invalid : goal.returns-in_err-request-clause-invalid
returns-in_err-request-clause-invalid c e s after is a =
    let p = err_from_is_err_and c.from_residual.result c.from_residual.ensures.1 in
    let told = sym p.1 ∙ e in
    let bad : p.0 ≡ ReplayError.Invalid = cc in
    c.in_err-request.ensures.invalid (sym p.2 ∙ bad) a.request a.reads

pub returns-then-not-is_change-clause-invalid : goal.returns-then-not-is_change-clause-invalid
returns-then-not-is_change-clause-invalid c e s after is a = elim c.then-not-is_change.branch [
  | then-not-is_change-via-then-not-is_change w ↦
      applies_none s after c.args.change.now c.in_ok-request.request c.in_ok-request.ensures.ok (sym c.is_change.ensures ∙ w.if-not-is_change.true) a
  | then-not-is_change-via-else-not-is_change+then-not-has_user w ↦
      let known : is_user s.directory c.args.change.now.user ≡ true = a.user in
      let text = c.as_str.ensures in
      let name = c.in-Ok.ensures.value in
      let same = w.as_str-else-not-is_change.ensures.value in
      let told = sym w.has_user.ensures ∙ w.if-not-has_user.true in
      absurd (cc)
]

pub returns-clause-judges : goal.returns-clause-judges
returns-clause-judges c =
    let policy : refusal_of c.args.directory.now c.in-Ok.asker c.in_ok-request.request ≡ c.err-refusal.result =
    sym (c.err-refusal.ensures.value ∙ ap result_err c.decide.ensures ∙ refusal_is _) in
    let change : is_change c.in_ok-request.request ≡ true = search rules in
    let known : is_user c.args.directory.now c.in-Ok.asker ≡ true = search rules in
    judges c.args.directory.now c.in-Ok.asker c.in_ok-request.request c.err-refusal.result policy change known

pub returns-clause-applies : goal.returns-clause-applies
returns-clause-applies c =
    let policy : refusal_of c.args.directory.now c.in-Ok.asker c.in_ok-request.request ≡ c.err-refusal.result =
    sym (c.err-refusal.ensures.value ∙ ap result_err c.decide.ensures ∙ refusal_is _) in
    let change : is_change c.in_ok-request.request ≡ true = search rules in
    let known : is_user c.args.directory.now c.in-Ok.asker ≡ true = search rules in
    let user : c.args.change.now.user ≡ c.in-Ok.asker = sym (c.in-Ok.ensures.value ∙ c.as_str.ensures) in
    applied c.args.directory.now c.in-Ok.asker c.in_ok-request.request c.err-refusal.result policy change known c.args.change.now
    c.in_ok-request.ensures.ok user c.as_str-else-not-is_change.ensures.name
