use Rattle.std.proofs.Common.{rules, find, sym, ◌∙◌}
use Rattle.st_text.specs.Texts.{same}
use Rattle.st_dir.specs.Directory.{table_named}
use Rattle.st_sorted.proofs.Sorted.{not_found}
use Rattle.st_dir.proofs.directory.Directory.create_table.Goals as goal

pub add-requires : goal.add-requires
add-requires g c =
    let none = not_found (table_named c.args.self.now c.args.table.now) (sym c.has_table.ensures ∙ c.if-has_table.false) in
    (λ i. find (λ info. same info.table (c.copy.ensures i)) (c.self.view_is i).tables) ∙ none

pub returns-in-Err-clause-err : goal.returns-in-Err-clause-err
returns-in-Err-clause-err g c = search rules

pub returns-in-Ok-add_all-clause-ok : goal.returns-in-Ok-add_all-clause-ok
returns-in-Ok-add_all-clause-ok g c = search rules
