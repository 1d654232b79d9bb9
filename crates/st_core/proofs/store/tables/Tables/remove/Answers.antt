use Rattle.std.proofs.Common.{List, ◌∙◌, sym, ap, subst}
use Rattle.st_dir.specs.Sorted.{Rises}
use Rattle.st_core.specs.inner.Tables.{heading_key, tables_without}
use Rattle.st_core.specs.inner.Shelves.{headings_in, tables_in}
use Rattle.st_core.specs.declared.store.tables.Shelf.{Shelf}
use Rattle.st_core.proofs.Shelving.{Stands, stands, remove_is, removed_rises}
use Rattle.st_core.proofs.store.tables.Tables.remove.Goals as goal

pub invariant_of-self : goal.invariant_of-self
invariant_of-self g c =
    let name = c.args.name.now in
    let ts : List (Shelf g.row.A.Denot) = c.self.inside.shelves.items in
    let i = c.position-place.result in
    let t : Shelf g.row.A.Denot = c.remove.result in
    let value = c.deref.ensures.value in
    let s : Stands name ts i t =
    stands name ts i t (rw value at c.position-place.ensures.alone) (rw value at c.position-place.ensures.inside)
    (rw value at c.position-place.ensures.found) c.remove.ensures.value in
    subst (λ items. Rises heading_key (headings_in items)) (sym c.remove.ensures.items) (removed_rises name ts i t s c.self.invariant)

pub returns : goal.returns
returns g c =
    let name = c.args.name.now in
    let ts : List (Shelf g.row.A.Denot) = c.self.inside.shelves.items in
    let i = c.position-place.result in
    let t : Shelf g.row.A.Denot = c.remove.result in
    let value = c.deref.ensures.value in
    let s : Stands name ts i t =
    stands name ts i t (rw value at c.position-place.ensures.alone) (rw value at c.position-place.ensures.inside)
    (rw value at c.position-place.ensures.found) c.remove.ensures.value in
    ap (λ (items : List (Shelf g.row.A.Denot)). tables_in items) c.remove.ensures.items ∙ remove_is name ts i t s ∙ ap (tables_without name) c.self.view_is
