use Rattle.std.proofs.Common.{◌<◌, ◌≤◌, List, length, vec_capacity, insert, sym, ap, subst, ◌∙◌, Vec}
use Rattle.st_index.specs.declared.row.Row.{Row}
use Rattle.st_index.proofs.Places.{rows_of_one, rows_of_many}
use Rattle.st_index.proofs.placing.with_row.Goals.{in-One, in-Many}
use Rattle.st_index.proofs.placing.with_row.Goals as goal

pub two-rows-requires-clause-index : goal.two-rows-requires-clause-index
two-rows-requires-clause-index g c = subst (λ (rs : List (Row g.row.A.Denot)). c.args.index ≤ length rs) (rows_of_one _ _ _ c.in-One.is c.into_rows-period.ensures.rows) c.requires.index

pub more-rows-requires-clause-index : goal.more-rows-requires-clause-index
more-rows-requires-clause-index g c = subst (λ (rs : List (Row g.row.A.Denot)). c.args.index ≤ length rs) (rows_of_many _ _ _ c.in-Many.is c.into_rows-period.ensures.rows) c.requires.index

pub more-rows-requires-clause-room : goal.more-rows-requires-clause-room
more-rows-requires-clause-room g c = subst (λ (rs : List (Row g.row.A.Denot)). length rs < vec_capacity c.args.list) (rows_of_many _ _ _ c.in-Many.is c.into_rows-period.ensures.rows) c.requires.room

pub returns-clause-rows : goal.returns-clause-rows
returns-clause-rows g c =
    let items = λ (v : Vec (Row g.row.A.Denot) g.row.A.Denot). v.items in
    let put = λ (rs : List (Row g.row.A.Denot)). insert rs c.args.index c.args.row in
    c.listed.ensures.rows ∙ elim c.match-held.branch [
      | in-One w ↦ ap items w.rows-is ∙ w.two-rows.ensures ∙ ap put (sym (rows_of_one _ _ _ w.in-One.is c.into_rows-period.ensures.rows))
      | in-Many w ↦ ap items w.rows-is ∙ w.more-rows.ensures ∙ ap put (sym (rows_of_many _ _ _ w.in-Many.is c.into_rows-period.ensures.rows))
    ]
