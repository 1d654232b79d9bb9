use Rattle.std.proofs.Common.{◌≡◌, List, Some, ◌∙◌, sym, ap, subst, filter}
use Rattle.st_text.specs.Texts.{in_order}
use Rattle.st_index.specs.Order.{scan_key}
use Rattle.st_table.specs.Rows.{rows_in_table}
use Rattle.st_table.specs.Table.{TableValue, rows_by_label}
use Rattle.st_core.specs.inner.Tables.{TablesValue, heading_named}
use Rattle.st_core.specs.declared.store.tables.Shelf.{Shelf}
use Rattle.st_core.proofs.Shelving.{Stands, stands, heading_is, scans_are, gets_are}
use Rattle.st_core.proofs.store.tables.Tables.table.Goals as goal

pub returns-clause-period : goal.returns-clause-period
returns-clause-period g c =
    let name = c.args.name.now in
    let ts : List (Shelf g.row.A.Denot) = c.self.inside.shelves.items in
    let i = c.position-place.result in
    let t : Shelf g.row.A.Denot = c.index.result.now in
    let value = c.deref.ensures.value in
    let s : Stands name ts i t =
    stands name ts i t (rw value at c.position-place.ensures.alone) (rw value at c.position-place.ensures.inside)
    (rw value at c.position-place.ensures.found) c.index.ensures in
    subst (λ (v : TablesValue g.row.A.Denot). heading_named name v.headings ≡ Some (record { table = name; period = c.table.result.now.period })) c.self.view_is
    (heading_is name ts i t s ∙ ap (λ (v : TableValue g.row.A.Denot). Some (record { table = name; period = v.period })) (sym c.table.ensures.value))

pub returns-clause-scans : goal.returns-clause-scans
returns-clause-scans g c =
    let name = c.args.name.now in
    let ts : List (Shelf g.row.A.Denot) = c.self.inside.shelves.items in
    let i = c.position-place.result in
    let t : Shelf g.row.A.Denot = c.index.result.now in
    let value = c.deref.ensures.value in
    let s : Stands name ts i t =
    stands name ts i t (rw value at c.position-place.ensures.alone) (rw value at c.position-place.ensures.inside)
    (rw value at c.position-place.ensures.found) c.index.ensures in
    λ test.
    subst (λ (w : TableValue g.row.A.Denot). in_order (scan_key w.period) (filter test (rows_in_table name c.args.self.now.rows)) ≡ filter test w.rows) (sym c.table.ensures.value)
    (subst (λ (v : TablesValue g.row.A.Denot). in_order (scan_key t.table.period) (filter test (rows_in_table name v.rows)) ≡ filter test t.table.rows) c.self.view_is
    (scans_are name ts i t s c.table.ensures.in_order test))

pub returns-clause-gets : goal.returns-clause-gets
returns-clause-gets g c =
    let name = c.args.name.now in
    let ts : List (Shelf g.row.A.Denot) = c.self.inside.shelves.items in
    let i = c.position-place.result in
    let t : Shelf g.row.A.Denot = c.index.result.now in
    let value = c.deref.ensures.value in
    let s : Stands name ts i t =
    stands name ts i t (rw value at c.position-place.ensures.alone) (rw value at c.position-place.ensures.inside)
    (rw value at c.position-place.ensures.found) c.index.ensures in
    λ id test.
    subst (λ (w : TableValue g.row.A.Denot). rows_by_label id test (rows_in_table name c.args.self.now.rows) ≡ rows_by_label id test w.rows) (sym c.table.ensures.value)
    (subst (λ (v : TablesValue g.row.A.Denot). rows_by_label id test (rows_in_table name v.rows) ≡ rows_by_label id test t.table.rows) c.self.view_is
    (gets_are name ts i t s c.table.ensures.each_once id test))
