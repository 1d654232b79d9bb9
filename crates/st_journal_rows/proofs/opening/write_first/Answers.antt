use Rattle.std.proofs.Common.{◌≡◌, [], ◌∷◌, subst, rules, arith}
use Rattle.sqlite_trees.specs.View.{IsClean}
use Rattle.st_journal_rows.specs.inner.Writes.{Adds}
use Rattle.st_journal_rows.proofs.CommitLemmas.{on_ok, written}
use Rattle.st_journal_rows.proofs.opening.write_first.Goals as goal

pub returns-clause-written : goal.returns-clause-written
returns-clause-written g c = on_ok c.put_all.result (λ added clean.
    let s = g.S.Store in
    let old = s.view c.args.store.now in
    let mid = s.view c.set_version.new.self in
    let new = s.view c.put_all.new.store in
    let mid_clean : IsClean mid = omega (arith, clean, c.put_all.ensures.quiet.clean) in
    let old_clean : IsClean old = omega (arith, mid_clean, c.set_version.ensures.quiet.clean) in
    let one : c.from_ref.result.now ≡ c.args.first.now ∷ [] = search rules in
    written old mid new _ c.args.first.now (c.requires.empty old_clean) (c.in_ok-set_version.ensures.ok mid_clean)
    (subst (Adds mid new 0) one (added clean))) c.put_all.ensures.added
