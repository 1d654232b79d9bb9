use Rattle.std.proofs.Common.{List, ◌∙◌, ap}
use Rattle.std.proofs.lemmas.Result.{on_ok_weaker, on_err_weaker}
use Rattle.st_core.specs.inner.Tables.{TablesValue, headings_with}
use Rattle.st_core.specs.inner.Shelves.{heading_of}
use Rattle.st_core.specs.declared.store.tables.Shelf.{Shelf}
use Rattle.st_core.proofs.Shelving.{Stands, stands, rebuild_is, rebuilt_rises, same_rises, left, either_way}
use Rattle.st_core.proofs.store.tables.Tables.rebuild.Goals as goal

pub invariant_of-self : goal.invariant_of-self
invariant_of-self g c =
    let name = c.args.name.now in
    let ts : List (Shelf g.row.A.Denot) = c.self.inside.shelves.items in
    let i = c.position-place.result in
    let t : Shelf g.row.A.Denot = c.index_mut.result.now in
    let value = c.deref.ensures.value in
    let s : Stands name ts i t =
    stands name ts i t (rw value at c.position-place.ensures.alone) (rw value at c.position-place.ensures.inside)
    (rw value at c.position-place.ensures.found) c.index_mut.ensures.value in
    let u : Shelf g.row.A.Denot = c.rebuild.new.self in
    either_way c.rebuild.result c.rebuild.ensures.ok c.rebuild.ensures.err
    (λ e. rebuilt_rises name ts i t s u c.args.period e c.self.invariant)
    (λ e. same_rises name ts i t s u (ap heading_of e) c.self.invariant)

pub returns-clause-ok : goal.returns-clause-ok
returns-clause-ok g c =
    let name = c.args.name.now in
    let ts : List (Shelf g.row.A.Denot) = c.self.inside.shelves.items in
    let i = c.position-place.result in
    let t : Shelf g.row.A.Denot = c.index_mut.result.now in
    let value = c.deref.ensures.value in
    let s : Stands name ts i t =
    stands name ts i t (rw value at c.position-place.ensures.alone) (rw value at c.position-place.ensures.inside)
    (rw value at c.position-place.ensures.found) c.index_mut.ensures.value in
    let u : Shelf g.row.A.Denot = c.rebuild.new.self in
    on_ok_weaker c.rebuild.result (λ e. rebuild_is name ts i t s u c.args.period c.rebuild.ensures.each_once e
    ∙ ap (λ (v : TablesValue g.row.A.Denot). record v { headings = headings_with name c.args.period v.headings }) c.self.view_is) c.rebuild.ensures.ok

pub returns-clause-err : goal.returns-clause-err
returns-clause-err g c =
    let name = c.args.name.now in
    let ts : List (Shelf g.row.A.Denot) = c.self.inside.shelves.items in
    let i = c.position-place.result in
    let t : Shelf g.row.A.Denot = c.index_mut.result.now in
    let value = c.deref.ensures.value in
    let s : Stands name ts i t =
    stands name ts i t (rw value at c.position-place.ensures.alone) (rw value at c.position-place.ensures.inside)
    (rw value at c.position-place.ensures.found) c.index_mut.ensures.value in
    let u : Shelf g.row.A.Denot = c.rebuild.new.self in
    on_err_weaker c.rebuild.result (λ e. left name ts i t s u e ∙ c.self.view_is) c.rebuild.ensures.err
