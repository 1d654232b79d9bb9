use Rattle.std.proofs.Common.{List, length, sym, subst}
use Rattle.st_index.specs.declared.row.Row.{Row}
use Rattle.st_index.specs.inner.Fields.{CanAdd, Counts}
use Rattle.st_index.proofs.field_counting.count_entry.Goals as goal

pub count_rows-requires-clause-fits : goal.count_rows-requires-clause-fits
count_rows-requires-clause-fits g c = subst (λ (rs : List (Row g.row.A.Denot)). CanAdd (length rs) c.args.counts.now) (sym c.in-Many.ensures) c.requires.fits

pub returns-in-Many-clause-counts : goal.returns-in-Many-clause-counts
returns-in-Many-clause-counts g c =
    subst (λ (rs : List (Row g.row.A.Denot)). Counts (g.F.Fields.query c.args.fields.now) (g.J.Judge.judges c.args.judge.now)
    (g.F.Fields.field_of c.args.fields.now) rs c.args.counts.now c.count_rows.new.counts)
    c.in-Many.ensures c.count_rows.ensures.counts
