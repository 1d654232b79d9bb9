use Rattle.std.proofs.Common.{List, ◌∙◌, ap}
use Rattle.st_index.specs.declared.row.Row.{Row}
use Rattle.st_table.specs.Rows.{put_row}
use Rattle.std.proofs.lemmas.Result.{on_ok_weaker, on_err_weaker}
use Rattle.st_core.specs.inner.Tables.{TablesValue}
use Rattle.st_core.specs.inner.Shelves.{heading_of}
use Rattle.st_core.specs.declared.store.tables.Shelf.{Shelf}
use Rattle.st_core.proofs.Shelving.{Stands, stands, put_is, same_rises, left, either_way}
use Rattle.st_core.proofs.store.tables.Tables.put.Goals as goal

pub invariant_of-self : goal.invariant_of-self
invariant_of-self g c =
    let name = c.args.name.now in
    let ts : List (Shelf g.row.A.Denot) = c.self.inside.shelves.items in
    let i = c.position-place.result in
    let t : Shelf g.row.A.Denot = c.index_mut.result.now in
    let value = c.deref.ensures.value in
    let s : Stands name ts i t =
    stands name ts i t (rw value at c.position-place.ensures.alone) (rw value at c.position-place.ensures.inside)
    (rw value at c.position-place.ensures.found) c.index_mut.ensures.value in
    let u : Shelf g.row.A.Denot = c.put.new.self in
    either_way c.put.result c.put.ensures.ok c.put.ensures.err
    (λ e. same_rises name ts i t s u (ap heading_of e) c.self.invariant)
    (λ e. same_rises name ts i t s u (ap heading_of e) c.self.invariant)

pub returns-clause-ok : goal.returns-clause-ok
returns-clause-ok g c =
    let name = c.args.name.now in
    let ts : List (Shelf g.row.A.Denot) = c.self.inside.shelves.items in
    let i = c.position-place.result in
    let t : Shelf g.row.A.Denot = c.index_mut.result.now in
    let value = c.deref.ensures.value in
    let s : Stands name ts i t =
    stands name ts i t (rw value at c.position-place.ensures.alone) (rw value at c.position-place.ensures.inside)
    (rw value at c.position-place.ensures.found) c.index_mut.ensures.value in
    let u : Shelf g.row.A.Denot = c.put.new.self in
    let row : Row g.row.A.Denot = c.args.row.now in
    on_ok_weaker c.put.result (λ e. put_is name ts i t s u row c.put.ensures.in_order e
    ∙ ap (λ (v : TablesValue g.row.A.Denot). record v { rows = put_row (record { table = name; row = row }) v.rows }) c.self.view_is) c.put.ensures.ok

pub returns-clause-err : goal.returns-clause-err
returns-clause-err g c =
    let name = c.args.name.now in
    let ts : List (Shelf g.row.A.Denot) = c.self.inside.shelves.items in
    let i = c.position-place.result in
    let t : Shelf g.row.A.Denot = c.index_mut.result.now in
    let value = c.deref.ensures.value in
    let s : Stands name ts i t =
    stands name ts i t (rw value at c.position-place.ensures.alone) (rw value at c.position-place.ensures.inside)
    (rw value at c.position-place.ensures.found) c.index_mut.ensures.value in
    let u : Shelf g.row.A.Denot = c.put.new.self in
    on_err_weaker c.put.result (λ e. left name ts i t s u e ∙ c.self.view_is) c.put.ensures.err
