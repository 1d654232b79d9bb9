use Rattle.std.proofs.Common.{◌<◌, List, length, rules, sym, ◌∙◌, ap, subst}
use Rattle.st_index.specs.declared.row.Row.{Row}
use Rattle.st_index.proofs.Places.{rows_of_many}
use Rattle.st_index.proofs.placing.without_row.Goals as goal

pub remove-row-requires : goal.remove-row-requires
remove-row-requires g c =
    subst (λ n. c.args.index < n) (ap (λ (rs : List (Row g.row.A.Denot)). length rs) (rows_of_many _ _ _ c.in-Many.is c.into_rows-period.ensures.rows) ∙ sym c.in-Many.rows.ok.0) c.requires.index

pub returns-in-Many-clause-value : goal.returns-in-Many-clause-value
returns-in-Many-clause-value g c = search rules

pub returns-in-Many-clause-left : goal.returns-in-Many-clause-left
returns-in-Many-clause-left g c = search rules
