use Rattle.std.proofs.Common.{◌<◌, subst, sym}
use Rattle.st_index.specs.RowViews.{row_of_view}
use Rattle.st_index.specs.inner.Entries.{key_end}
use Rattle.st_index.proofs.KeyPoints.{ranked}
use Rattle.st_index.proofs.Sorting.{rank_below}
use Rattle.st_index.proofs.row_view.RowView.key.Goals as goal

pub returns-clause-value : goal.returns-clause-value
returns-clause-value g c = ranked c.args.period (row_of_view c.args.self) _ _ c.key.ensures.same_bin c.key.ensures.same_address

pub returns-clause-in_period : goal.returns-clause-in_period
returns-clause-in_period g c =
    let value = ranked c.args.period (row_of_view c.args.self) _ _ c.key.ensures.same_bin c.key.ensures.same_address in
    subst (λ n. n < key_end c.args.period) (sym value) (rank_below c.args.period (row_of_view c.args.self))
