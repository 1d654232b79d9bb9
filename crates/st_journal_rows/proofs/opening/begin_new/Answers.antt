use Rattle.std.proofs.Common.{refl, arith}
use Rattle.sqlite_trees.specs.View.{IsClean}
use Rattle.st_journal_rows.proofs.CommitLemmas.{committed}
use Rattle.st_journal_rows.proofs.opening.begin_new.Goals as goal

pub returns-in-Ok-finish-clause-ready : goal.returns-in-Ok-finish-clause-ready
returns-in-Ok-finish-clause-ready g c clean =
    let s = g.S.Store in
    let mid = s.view c.write_first-written.new.store in
    let mid_clean : IsClean mid = omega (arith, clean, c.finish.ensures.clean) in
    let has = (rw c.in-Ok-finish.ensures.done at c.write_first-written.ensures.written) mid_clean in
    committed mid (s.view c.finish.new.store) _ 1 has refl (omega arith) (g.met.S.Store.broken_if_shut c.finish.new.store) (c.in-Ok-finish.ensures.ok clean)
