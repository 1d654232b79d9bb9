use Rattle.std.proofs.Common.{◌≡◌, Err, rules, arith}
use Rattle.std.proofs.lemmas.Result.{err_from_is_err_and}
use Rattle.sqlite_trees.specs.View.{IsClean}
use Rattle.st_journal.proofs.Rising.{rises_after}
use Rattle.st_journal_rows.proofs.Causes.{carried, known_of, of_memory}
use Rattle.st_journal_rows.proofs.ViewLemmas.{quiet_same, quiet_then, kept_same, kept_then, kept_write, still_sound}
use Rattle.st_journal_rows.proofs.RowLemmas.{adds_none, adds_at}
use Rattle.st_journal_rows.proofs.write.put_all.Goals as goal

pub loop-change-init : goal.loop-change-init
loop-change-init g c = record { number = search rules; quiet = quiet_same _; kept = λ _. kept_same _; added = λ _. adds_none _ _ }

pub loop-change-preserved : goal.loop-change-preserved
loop-change-preserved g c =
    let s = g.S.Store in
    let inv = c.loop-change.invariant in
    let mid = s.view c.loop-change.store in
    let new = s.view c.put.new.self in
    let was : IsClean new → IsClean mid = λ clean. omega (arith, c.put.ensures.quiet.clean, clean) in
    record {
      number = omega (arith, inv.number);
      quiet = quiet_then inv.quiet c.put.ensures.quiet;
      kept = λ clean. kept_then (inv.kept (was clean)) (kept_write (c.in_ok-put.ensures.frame clean));
      added = λ clean. adds_at (s.view c.args.store.now) mid new c.args.count c.loop-change.change-index c.args.records.now c.change-item.result
          c.loop-change-test.true (search rules) (inv.added (was clean)) (c.in_ok-put.ensures.frame clean) (search rules);
    }

pub returns-in_err-fill-clause-cause : goal.returns-in_err-fill-clause-cause
returns-in_err-fill-clause-cause g c clean =
    let last = err_from_is_err_and c.from_residual.result c.from_residual.ensures.1 in
    rw last.1 (of_memory _ _ (g.S.Store.view c.args.store.now) last.0 (search (rules, last.2)))

pub returns-in_err-put-clause-cause : goal.returns-in_err-put-clause-cause
returns-in_err-put-clause-cause g c clean =
    let s = g.S.Store in
    let inv = c.loop-change.invariant in
    let old = s.view c.args.store.now in
    let mid = s.view c.loop-change.store in
    let was : IsClean mid = omega (arith, c.put.ensures.quiet.clean, clean) in
    let last = err_from_is_err_and c.from_residual-in_err-put.result c.from_residual-in_err-put.ensures.1 in
    let is : c.put.result ≡ Err last.0 = search (rules, last.2) in
    let same = still_sound old mid (inv.added was).frame in
    rw last.1 (carried _ old mid last.0 same (rises_after _ _ _ inv.quiet.counts) (known_of _ c.put.result last.0 is (c.put.ensures.cause clean)))
