use Rattle.std.proofs.Common.{◌≡◌, true, rules, sym, ◌∙◌}
use Rattle.st_dir.specs.Directory.{is_user}
use Rattle.st_journal_store.proofs.Replaying.{applies_none}
use Rattle.st_journal_compact.proofs.watched.make_again.Goals.{then-not-is_change-via-then-not-is_change, then-not-is_change-via-else-not-is_change+then-not-has_user}
use Rattle.st_journal_compact.proofs.Seeing.{accepted_is}
use Rattle.st_journal_compact.proofs.watched.make_again.Goals.{in-Ok-told, in-Err}
use Rattle.st_journal_compact.proofs.watched.make_again.Goals as goal

pub returns-then-not-is_change-clause-invalid : goal.returns-then-not-is_change-clause-invalid
returns-then-not-is_change-clause-invalid c e after a = elim c.then-not-is_change.branch [
  | then-not-is_change-via-then-not-is_change w ↦
      applies_none c.args.store.now after c.args.change.now c.args.request.now c.requires.reads (sym c.is_change.ensures ∙ w.if-not-is_change.true) a
  | then-not-is_change-via-else-not-is_change+then-not-has_user w ↦
      let known : is_user c.args.store.now.directory c.args.change.now.user ≡ true = a.user in
      let text = c.as_str.ensures in
      let name = c.in-Ok.ensures.value in
      let same = w.as_str-else-not-is_change.ensures.value in
      let directory = w.directory.ensures in
      let told = sym w.has_user.ensures ∙ w.if-not-has_user.true in
      absurd (cc)
]

pub returns-clause-accepted : goal.returns-clause-accepted
returns-clause-accepted c =
    let is = accepted_is c.directory-2.result.now c.args.store.now.directory c.in-Ok.user c.args.change.now.user c.args.request.now c.decide.result
    c.is_ok-accepted.result (search rules) (search rules) c.directory-2.ensures (c.in-Ok.ensures.value ∙ c.as_str.ensures) in
    elim c.match-told.branch [ in-Ok-told w ↦ rw w.made-is is | in-Err w ↦ rw w.made-is tt ]
