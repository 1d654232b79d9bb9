use Rattle.std.proofs.Common.{◌≡◌, ◌-◌, Err, rules, arith}
use Rattle.std.proofs.lemmas.Result.{err_from_is_err_and}
use Rattle.sqlite_trees.specs.View.{IsClean}
use Rattle.st_journal.proofs.Rising.{rises_after}
use Rattle.st_journal_rows.proofs.Causes.{carried, known_of}
use Rattle.st_journal_rows.proofs.ViewLemmas.{quiet_same, quiet_then, kept_same, kept_then, kept_write, still_sound}
use Rattle.st_journal_rows.proofs.RewriteLemmas.{trims_none, trims_one}
use Rattle.st_journal_rows.proofs.replace.trim.Goals as goal

pub loop-done-init : goal.loop-done-init
loop-done-init g c = record { quiet = quiet_same _; kept = λ _. kept_same _; trimmed = λ _. trims_none _ _ _ (omega arith) }

pub loop-done-preserved : goal.loop-done-preserved
loop-done-preserved g c =
    let s = g.S.Store in
    let inv = c.loop-done.invariant in
    let mid = s.view c.loop-done.store in
    let new = s.view c.delete.new.self in
    let was : IsClean new → IsClean mid = λ clean. omega (arith, c.delete.ensures.quiet.clean, clean) in
    record {
      quiet = quiet_then inv.quiet c.delete.ensures.quiet;
      kept = λ clean. kept_then (inv.kept (was clean)) (kept_write (c.in_ok-delete.ensures.frame clean));
      trimmed = λ clean. trims_one (s.view c.args.store.now) mid new c.args.count (c.args.count - c.loop-done.done) _ (omega arith) (search rules) (search rules)
          (inv.trimmed (was clean)) (c.in_ok-delete.ensures.frame clean) (search rules);
    }

pub returns-in_err-delete-clause-cause : goal.returns-in_err-delete-clause-cause
returns-in_err-delete-clause-cause g c clean =
    let s = g.S.Store in
    let inv = c.loop-done.invariant in
    let old = s.view c.args.store.now in
    let mid = s.view c.loop-done.store in
    let was : IsClean mid = omega (arith, c.delete.ensures.quiet.clean, clean) in
    let last = err_from_is_err_and c.from_residual.result c.from_residual.ensures.1 in
    let is : c.delete.result ≡ Err last.0 = search (rules, last.2) in
    let same = still_sound old mid (inv.trimmed was).frame in
    rw last.1 (carried _ old mid last.0 same (rises_after _ _ _ inv.quiet.counts) (known_of _ c.delete.result last.0 is (c.delete.ensures.cause clean)))
