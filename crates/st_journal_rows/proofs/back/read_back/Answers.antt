use Rattle.std.proofs.Common.{◌≡◌, ◌≢◌, inl, inr, Err, arith, ap, sym, subst, ◌∙◌}
use Rattle.st_journal.specs.declared.read_back.ReadError.TheVariants as ends
use Rattle.sqlite_trees.specs.View.{IsClean}
use Rattle.st_journal.proofs.Rising.{rises_after, rises_before}
use Rattle.st_journal_rows.specs.Ready.{IsReady}
use Rattle.st_journal_rows.proofs.ViewLemmas.{quiet_then}
use Rattle.st_journal_rows.proofs.CommitLemmas.{rolled_back}
use Rattle.st_journal_rows.proofs.back.read_back.Goals as goal

pub returns-in-Ok-clause-ready : goal.returns-in-Ok-clause-ready
returns-in-Ok-clause-ready g c clean known count ready = subst (λ v. IsReady v count) (sym (c.in-Ok.ensures.same clean)) ready

pub returns-in-Err-clause-ready : goal.returns-in-Err-clause-ready
returns-in-Err-clause-ready g c clean known count ready =
    let s = g.S.Store in
    let mid = s.view c.read_from.new.store in
    let mid_clean : IsClean mid = omega (arith, clean, c.mend.ensures.quiet.clean) in
    let goes_on : c.mend.result ≢ ends.Lost = λ lost. known (ap Err lost) in
    rolled_back (s.view c.args.store.now) mid (s.view c.mend.new.store) count ready (c.read_from.ensures.kept mid_clean) c.mend.ensures.rolled clean
    (c.mend.ensures.goes_on clean goes_on).0

pub returns-in-Err-clause-same : goal.returns-in-Err-clause-same
returns-in-Err-clause-same g c clean known =
    let mid_clean : IsClean (g.S.Store.view c.read_from.new.store) = omega (arith, clean, c.mend.ensures.quiet.clean) in
    let goes_on : c.mend.result ≢ ends.Lost = λ lost. known (ap Err lost) in
    let open' = (c.mend.ensures.goes_on clean goes_on).0 in
    let back = c.mend.ensures.rolled.kept clean in
    back.committed open' ∙ (c.read_from.ensures.kept mid_clean).committed (back.was_open open')

pub returns-in-Err-clause-numbered : goal.returns-in-Err-clause-numbered
returns-in-Err-clause-numbered g c clean =
    let mid_clean : IsClean (g.S.Store.view c.read_from.new.store) = omega (arith, clean, c.mend.ensures.quiet.clean) in
    c.mend.ensures.rolled.numbered ∙ (c.read_from.ensures.kept mid_clean).numbered

pub returns-in-Err-clause-quiet : goal.returns-in-Err-clause-quiet
returns-in-Err-clause-quiet g c = quiet_then c.read_from.ensures.quiet c.mend.ensures.quiet

pub returns-in-Err-clause-lost : goal.returns-in-Err-clause-lost
returns-in-Err-clause-lost g c clean is was =
    let s = g.S.Store in
    let begun = s.faults c.args.store.now in
    let amid = s.faults c.read_from.new.store in
    let mid_clean : IsClean (s.view c.read_from.new.store) = omega (arith, clean, c.mend.ensures.quiet.clean) in
    let lost : c.mend.result ≡ ends.Lost = cc (is) in
    elim (c.read_from.ensures.quiet.closes mid_clean was) [
      | inl still ↦ rises_after begun amid _ c.read_from.ensures.quiet.counts (c.mend.ensures.lost clean lost still)
      | inr fault ↦ rises_before begun amid _ fault c.mend.ensures.quiet.counts
    ]
