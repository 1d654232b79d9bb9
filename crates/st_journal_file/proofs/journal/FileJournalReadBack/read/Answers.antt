use Rattle.std.proofs.Common.{IsTrue, arith, drop, take, ap, sym, subst, ◌∙◌}
use Rattle.sqlite_trees.specs.Tree.{Trees}
use Rattle.sqlite_trees.specs.View.{IsClean}
use Rattle.sqlite_store.specs.FileStore.{view}
use Rattle.sqlite_store.specs.Laws.{settled_at}
use Rattle.st_journal_rows.specs.Table.{changes_in, records_in}
use Rattle.st_journal_rows.proofs.Backs.{of_changes}
use Rattle.st_journal_file.proofs.FileLemmas.{if_one}
use Rattle.st_journal_file.proofs.journal.FileJournalReadBack.read.Goals as goal

pub returns-then-from-ge-MOST-clause-crash : goal.returns-then-from-ge-MOST-clause-crash
returns-then-from-ge-MOST-clause-crash g c clean left leaves =
    let ready = c.requires.ready clean in
    leaves.2 ∙ ap changes_in (settled_at c.args.self.now.store g.met.D.Disk.seen_may_stay leaves.0 ready.is_open leaves.1)

pub invariant_of-self : goal.invariant_of-self
invariant_of-self g c =
    let was : IsClean (view c.read_back.new.store) → IsClean (view c.args.self.now.store) = λ clean. omega (arith, clean, c.read_back.ensures.quiet.clean) in
    record {
      numbered = λ clean. subst IsTrue (sym (c.read_back.ensures.numbered clean)) (c.args.self.now.numbered (was clean));
      lasting = λ clean db leaves. c.args.self.now.lasting (was clean) db (c.read_back.ensures.quiet.outcomes db leaves);
    }

pub returns-clause-ready : goal.returns-clause-ready
returns-clause-ready g c known clean =
    let was : IsClean (view c.args.self.now.store) = omega (arith, clean, c.read_back.ensures.quiet.clean) in
    c.read_back.ensures.ready clean known c.args.self.now.count (c.requires.ready was)

pub returns-clause-read : goal.returns-clause-read
returns-clause-read g c = if_one c.read_back.result (λ records found clean.
    let old = view c.args.self.now.store in
    let was : IsClean old = omega (arith, clean, c.read_back.ensures.quiet.clean) in
    let ready = c.requires.ready was in
    found clean (records_in old.trees) ready.rows.rows
    ∙ of_changes c.args.from c.args.most (records_in old.trees)
    ∙ ap (λ (t : Trees). take c.args.most (drop c.args.from (changes_in t))) ready.is_committed) c.read_back.ensures.found

pub returns-clause-lost : goal.returns-clause-lost
returns-clause-lost g c clean is =
    let was : IsClean (view c.args.self.now.store) = omega (arith, clean, c.read_back.ensures.quiet.clean) in
    c.read_back.ensures.lost clean is (c.requires.ready was).is_open

pub returns-clause-crash : goal.returns-clause-crash
returns-clause-crash g c clean left leaves =
    let was : IsClean (view c.args.self.now.store) = omega (arith, clean, c.read_back.ensures.quiet.clean) in
    let ready = c.requires.ready was in
    leaves.2 ∙ ap changes_in (settled_at c.args.self.now.store g.met.D.Disk.seen_may_stay leaves.0 ready.is_open
    (c.read_back.ensures.quiet.outcomes leaves.0 leaves.1))
