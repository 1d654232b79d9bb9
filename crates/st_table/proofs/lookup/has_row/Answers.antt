use Rattle.st_key.specs.Key.{rank}
use Rattle.st_index.specs.inner.Index.{region}
use Rattle.st_index.specs.inner.Entries.{Name}
use Rattle.st_table.proofs.Finding.{absent_all, absent_here}
use Rattle.st_table.proofs.lookup.has_row.Goals as goal

pub returns-clause-held : goal.returns-clause-held
returns-clause-held g c = λ is absent.
    let period = g.I.RowIndex.period_of c.args.index.now in
    let leaf = c.leaf_at-leaf.ensures.leaf in
    let name : Name = record { id = c.args.id.now; label = c.args.label.now } in
    c.have_row.ensures.held is period _ _ leaf.rising
    (absent_here period (rank c.args.key) name (g.I.RowIndex.content c.args.index.now)
    (region (rank c.leaf_at-leaf.result.first) (rank c.leaf_at-leaf.result.last)) c.leaf_at-leaf.result.entries.now leaf absent)

pub returns-clause-absent : goal.returns-clause-absent
returns-clause-absent g c = λ is.
    let period = g.I.RowIndex.period_of c.args.index.now in
    let leaf = c.leaf_at-leaf.ensures.leaf in
    let name : Name = record { id = c.args.id.now; label = c.args.label.now } in
    absent_all period (rank c.args.key) name (g.I.RowIndex.content c.args.index.now)
    (region (rank c.leaf_at-leaf.result.first) (rank c.leaf_at-leaf.result.last)) c.leaf_at-leaf.result.entries.now leaf
    (c.have_row.ensures.absent is period _ _ leaf.rising)
