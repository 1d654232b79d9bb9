use Rattle.std.proofs.Common.{◌≡◌, [], ap, sym, ◌∙◌}
use Rattle.st_key.specs.Key.{rank}
use Rattle.st_index.specs.inner.Index.{region}
use Rattle.st_index.specs.inner.Entries.{Name, EntryValue}
use Rattle.st_index.proofs.Names.{nat_equal}
use Rattle.st_index.proofs.Taking.{missing_key}
use Rattle.st_table.proofs.Finding.{entry_rows, no_entry}
use Rattle.st_table.proofs.lookup.rows_at.Goals as goal

pub returns-in_default : goal.returns-in_default
returns-in_default g c =
    let period = g.I.RowIndex.period_of c.args.index.now in
    let leaf = c.leaf_at-leaf.ensures.leaf in
    let name : Name = record { id = []; label = [] } in
    no_entry period (rank c.args.key) name (g.I.RowIndex.content c.args.index.now)
    (region (rank c.leaf_at-leaf.result.first) (rank c.leaf_at-leaf.result.last)) c.leaf_at-leaf.result.entries.now leaf
    (missing_key period (rank c.args.key) c.leaf_at-leaf.result.entries.now _ _ _ leaf.rising c.in_default.ensures.place)

pub returns : goal.returns
returns g c =
    let period = g.I.RowIndex.period_of c.args.index.now in
    let leaf = c.leaf_at-leaf.ensures.leaf in
    let name : Name = record { id = []; label = [] } in
    let e = c.index-leaf-at.result in
    let at : e.at ≡ rank c.args.key = ap (λ (f : EntryValue g.row.I-Alloc.Denot). f.at) c.index-leaf-at.is ∙ nat_equal _ _ (c.in-Ok.ensures.place e) in
    c.rows.ensures ∙ ap (λ (f : EntryValue g.row.I-Alloc.Denot). f.rows) (sym c.index-leaf-at.is) ∙ entry_rows period (rank c.args.key) name (g.I.RowIndex.content c.args.index.now)
    (region (rank c.leaf_at-leaf.result.first) (rank c.leaf_at-leaf.result.last)) c.leaf_at-leaf.result.entries.now leaf
    c.in-Ok.at e c.in-Ok.ensures.bound c.index-leaf-at.is at
