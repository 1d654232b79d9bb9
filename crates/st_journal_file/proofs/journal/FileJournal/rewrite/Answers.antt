use Rattle.std.proofs.Common.{rules, inl, inr, drop, IsTrue, arith, sym, ap, subst, ◌∙◌}
use Rattle.std.proofs.lemmas.Result.{err_from_is_err_and}
use Rattle.sqlite_trees.specs.View.{IsClean}
use Rattle.sqlite_store.specs.FileStore.{view}
use Rattle.sqlite_store.specs.Laws.{settled_at}
use Rattle.st_journal_rows.specs.Table.{changes_in}
use Rattle.st_journal_rows.proofs.CommitLemmas.{when_known}
use Rattle.st_journal_rows.proofs.RewriteLemmas.{changes_replaced}
use Rattle.st_journal_file.proofs.journal.FileJournal.rewrite.Goals as goal

pub returns-then-self-eq0-clause-crash : goal.returns-then-self-eq0-clause-crash
returns-then-self-eq0-clause-crash g c clean left leaves =
    let ready = c.requires.ready clean in
    inl (leaves.2 ∙ ap changes_in (settled_at c.args.self.now.store g.met.D.Disk.seen_may_stay leaves.0 ready.is_open leaves.1))

pub returns-then-self-eq0-clause-refused : goal.returns-then-self-eq0-clause-refused
returns-then-self-eq0-clause-refused g c = search rules

pub returns-in_err-put_behind-clause-ready : goal.returns-in_err-put_behind-clause-ready
returns-in_err-put_behind-clause-ready g c kept clean =
    let last = err_from_is_err_and c.from_residual.result c.from_residual.ensures.1 in
    when_known last.0 c.put_behind.result c.from_residual.result (search (rules, last.2)) last.1 kept (c.put_behind.ensures.goes_on clean)

pub returns-in_err-put_behind-clause-not_kept : goal.returns-in_err-put_behind-clause-not_kept
returns-in_err-put_behind-clause-not_kept g c clean known =
    let last = err_from_is_err_and c.from_residual.result c.from_residual.ensures.1 in
    let same = when_known last.0 c.put_behind.result c.from_residual.result (search (rules, last.2)) last.1 known (c.put_behind.ensures.not_kept clean) in
    rw last.1 (ap (drop 1) same)

pub returns-in_err-put_behind-clause-refused : goal.returns-in_err-put_behind-clause-refused
returns-in_err-put_behind-clause-refused g c clean is = c.put_behind.ensures.refused clean (search (rules, is))

pub returns-in_err-put_behind-clause-unknown : goal.returns-in_err-put_behind-clause-unknown
returns-in_err-put_behind-clause-unknown g c clean is = c.put_behind.ensures.unknown clean (search (rules, is))

pub returns-in_err-put_behind-clause-crash : goal.returns-in_err-put_behind-clause-crash
returns-in_err-put_behind-clause-crash g c clean left leaves =
    let was : IsClean (view c.args.self.now.store) = omega (arith, clean, c.put_behind.ensures.clean) in
    elim (c.put_behind.ensures.left clean leaves.0 leaves.1) [
      | inl same ↦ inl (leaves.2 ∙ ap (drop 1) same)
      | inr put ↦ inr (leaves.2 ∙ changes_replaced (view c.args.self.now.store) c.args.self.now.count c.args.records.now leaves.0 (c.requires.ready was) put)
    ]

pub returns-clause-crash : goal.returns-clause-crash
returns-clause-crash g c clean left leaves =
    let was : IsClean (view c.args.self.now.store) = omega (arith, clean, c.put_behind.ensures.clean) in
    elim (c.put_behind.ensures.left clean leaves.0 leaves.1) [
      | inl same ↦ inl (leaves.2 ∙ ap (drop 1) same)
      | inr put ↦ inr (leaves.2 ∙ changes_replaced (view c.args.self.now.store) c.args.self.now.count c.args.records.now leaves.0 (c.requires.ready was) put)
    ]

pub returns-clause-ready : goal.returns-clause-ready
returns-clause-ready g c kept clean = c.in_ok-put_behind.ensures.ready clean

pub returns-clause-kept : goal.returns-clause-kept
returns-clause-kept g c clean =
    let was : IsClean (view c.args.self.now.store) = omega (arith, clean, c.put_behind.ensures.clean) in
    changes_replaced (view c.args.self.now.store) c.args.self.now.count c.args.records.now (view c.put_behind.new.store).committed (c.requires.ready was)
    (c.in_ok-put_behind.ensures.put clean)

pub invariant_of-self : goal.invariant_of-self
invariant_of-self g c = record {
  numbered = λ clean.
      let was : IsClean (view c.args.self.now.store) = omega (arith, clean, c.put_behind.ensures.clean) in
      subst IsTrue (sym (c.put_behind.ensures.numbered clean)) (c.args.self.now.numbered was);
  lasting = c.put_behind.ensures.table;
}

pub invariant_of-self-2 : goal.invariant_of-self-2
invariant_of-self-2 g c = record {
  numbered = λ clean.
      let was : IsClean (view c.args.self.now.store) = omega (arith, clean, c.put_behind.ensures.clean) in
      subst IsTrue (sym (c.put_behind.ensures.numbered clean)) (c.args.self.now.numbered was);
  lasting = c.put_behind.ensures.table;
}
