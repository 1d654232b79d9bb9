use Rattle.std.proofs.Common.{◌≡◌, [], rules, arith}
use Rattle.sqlite_trees.specs.Tree.{sought, order_of}
use Rattle.sqlite_trees.specs.declared.store.Direction.TheVariants.{Backward}
use Rattle.sqlite_trees.specs.View.{IsClean, with_cursor}
use Rattle.st_journal_rows.specs.Table.{table_tree}
use Rattle.st_journal_rows.proofs.LastRows.{gives_last, gives_none}
use Rattle.st_journal_rows.proofs.last.last_number.Goals as goal

pub returns-in-Ok-true-clause-last : goal.returns-in-Ok-true-clause-last
returns-in-Ok-true-clause-last g c clean records are =
    let s = g.S.Store in
    let old = s.view c.args.store.now in
    let mid = s.view c.seek.new.self in
    let placed : IsClean mid → mid ≡ with_cursor old 0 (sought (order_of (old.shape table_tree)) Backward [] (old.trees table_tree)) = search rules in
    c.number_in.ensures _ (gives_last (order_of (old.shape table_tree)) old mid (s.view c.next.new.self) c.next.new.row c.in-Ok-true.field-0 records
    (placed (omega (arith, clean, c.next.ensures.quiet.clean))) (c.in-Ok-true.ensures.ok clean) are c.in-Ok-true.field-0-test)

pub returns-in-Ok-false-clause-last : goal.returns-in-Ok-false-clause-last
returns-in-Ok-false-clause-last g c clean records are =
    let s = g.S.Store in
    let old = s.view c.args.store.now in
    let mid = s.view c.seek.new.self in
    let placed : IsClean mid → mid ≡ with_cursor old 0 (sought (order_of (old.shape table_tree)) Backward [] (old.trees table_tree)) = search rules in
    gives_none (order_of (old.shape table_tree)) old mid (s.view c.next.new.self) c.next.new.row c.in-Ok-false.field-0 records
    (placed (omega (arith, clean, c.next.ensures.quiet.clean))) (c.in-Ok-false.ensures.ok clean) are c.in-Ok-false.field-0-test
