use Rattle.std.proofs.Common.{List, ◌∙◌, ap}
use Rattle.st_table.specs.Rows.{without_row}
use Rattle.st_core.specs.inner.Tables.{TablesValue}
use Rattle.st_core.specs.inner.Shelves.{heading_of}
use Rattle.st_core.specs.declared.store.tables.Shelf.{Shelf}
use Rattle.st_core.proofs.Shelving.{Stands, stands, delete_is, same_rises}
use Rattle.st_core.proofs.store.tables.Tables.delete.Goals as goal

pub invariant_of-self : goal.invariant_of-self
invariant_of-self g c =
    let name = c.args.name.now in
    let ts : List (Shelf g.row.A.Denot) = c.self.inside.shelves.items in
    let i = c.position-place.result in
    let t : Shelf g.row.A.Denot = c.index_mut.result.now in
    let value = c.deref.ensures.value in
    let s : Stands name ts i t =
    stands name ts i t (rw value at c.position-place.ensures.alone) (rw value at c.position-place.ensures.inside)
    (rw value at c.position-place.ensures.found) c.index_mut.ensures.value in
    let u : Shelf g.row.A.Denot = c.delete.new.self in
    same_rises name ts i t s u (ap heading_of c.delete.ensures) c.self.invariant

pub returns : goal.returns
returns g c =
    let name = c.args.name.now in
    let ts : List (Shelf g.row.A.Denot) = c.self.inside.shelves.items in
    let i = c.position-place.result in
    let t : Shelf g.row.A.Denot = c.index_mut.result.now in
    let value = c.deref.ensures.value in
    let s : Stands name ts i t =
    stands name ts i t (rw value at c.position-place.ensures.alone) (rw value at c.position-place.ensures.inside)
    (rw value at c.position-place.ensures.found) c.index_mut.ensures.value in
    let u : Shelf g.row.A.Denot = c.delete.new.self in
    delete_is name ts i t s u c.args.id.now c.args.label.now c.delete.ensures
    ∙ ap (λ (v : TablesValue g.row.A.Denot). record v { rows = without_row name c.args.id.now c.args.label.now v.rows }) c.self.view_is
