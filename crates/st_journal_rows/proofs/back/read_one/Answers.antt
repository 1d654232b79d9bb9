use Rattle.std.proofs.Common.{◌≡◌, pos, true, false, rules}
use Rattle.sqlite_trees.specs.View.{Finds}
use Rattle.st_journal_rows.specs.Table.{table_tree, row_of}
use Rattle.st_journal_rows.proofs.Backs.{found_row, found_none}
use Rattle.st_journal_rows.proofs.back.read_one.Goals as goal

pub returns-in_ok-read_row-in-Ok-true-clause-found : goal.returns-in_ok-read_row-in-Ok-true-clause-found
returns-in_ok-read_row-in-Ok-true-clause-found g c clean records are =
    let rows = (g.S.Store.view c.args.store.now).trees table_tree in
    let finds : Finds rows (pos c.args.number) c.get.new.row true = search rules in
    let is : c.get.new.row ≡ row_of c.args.number c.in_ok-read_row-in-Ok-true.field-0 = c.in_ok-read_row-in-Ok-true.ensures.ok in
    found_row c.args.number rows records c.get.new.row c.in_ok-read_row-in-Ok-true.field-0 finds are is

pub returns-in-Ok-false-clause-found : goal.returns-in-Ok-false-clause-found
returns-in-Ok-false-clause-found g c clean records are =
    let rows = (g.S.Store.view c.args.store.now).trees table_tree in
    let finds : Finds rows (pos c.args.number) c.get.new.row false = search rules in
    found_none c.args.number rows records c.get.new.row finds are
