use Rattle.std.proofs.Common.{arith}
use Rattle.std.specs.Prelude.{⊤}
use Rattle.sqlite_trees.specs.View.{IsClean}
use Rattle.st_journal.proofs.Rising.{rises_after}
use Rattle.st_journal_rows.proofs.Causes.{all_carried}
use Rattle.st_journal_rows.proofs.CommitLemmas.{on_ok}
use Rattle.st_journal_rows.proofs.ViewLemmas.{quiet_then, kept_then, still_sound}
use Rattle.st_journal_rows.proofs.RewriteLemmas.{replaces}
use Rattle.st_journal_rows.proofs.replace.replace_all.Goals as goal

pub returns-clause-replaced : goal.returns-clause-replaced
returns-clause-replaced g c = on_ok c.put_all.result (λ added clean.
    let s = g.S.Store in
    let old = s.view c.args.store.now in
    let mid = s.view c.trim.new.store in
    let new = s.view c.put_all.new.store in
    let mid_clean : IsClean mid = omega (arith, clean, c.put_all.ensures.quiet.clean) in
    replaces old mid new c.args.count c.args.kept c.args.records.now c.requires.fewer (c.in_ok-trim.ensures.trimmed mid_clean) (added clean)) c.put_all.ensures.added

pub returns-clause-kept : goal.returns-clause-kept
returns-clause-kept g c clean =
    let s = g.S.Store in
    let mid = s.view c.trim.new.store in
    let mid_clean : IsClean mid = omega (arith, clean, c.put_all.ensures.quiet.clean) in
    kept_then (c.trim.ensures.kept mid_clean) (c.put_all.ensures.kept clean)

pub returns-clause-quiet : goal.returns-clause-quiet
returns-clause-quiet g c = quiet_then c.trim.ensures.quiet c.put_all.ensures.quiet

pub returns-clause-cause : goal.returns-clause-cause
returns-clause-cause g c clean =
    let s = g.S.Store in
    let old = s.view c.args.store.now in
    let mid = s.view c.trim.new.store in
    let mid_clean : IsClean mid = omega (arith, clean, c.put_all.ensures.quiet.clean) in
    let same = still_sound old mid (c.in_ok-trim.ensures.trimmed mid_clean).frame in
    all_carried ⊤ c.put_all.result old mid same (rises_after _ _ _ c.trim.ensures.quiet.counts) (c.put_all.ensures.cause clean)
