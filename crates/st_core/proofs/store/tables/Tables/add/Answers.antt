use Rattle.std.proofs.Common.{◌≡◌, List, [], ◌∷◌, None, ◌∙◌, sym, ap, subst}
use Rattle.st_text.specs.Texts.{in_order}
use Rattle.st_dir.specs.Sorted.{Rises}
use Rattle.st_core.specs.inner.Tables.{Heading, TablesValue, heading_key, heading_named, tables_without}
use Rattle.st_core.specs.inner.Shelves.{heading_of, headings_in, tables_in}
use Rattle.st_core.specs.declared.store.tables.Shelf.{Shelf}
use Rattle.st_core.proofs.Shelving.{added_rises, added_is, added_back}
use Rattle.st_core.proofs.store.tables.Tables.add.Goals as goal

pub invariant_of-self-2 : goal.invariant_of-self-2
invariant_of-self-2 g c =
    let name = c.args.name.now in
    let ts : List (Shelf g.row.A.Denot) = c.self.inside.shelves.items in
    let i = c.place_of-place.result in
    let t : Shelf g.row.A.Denot = c.in_ok-shelf.shelf in
    let value = c.deref.ensures.value in
    let is = c.in_ok-shelf.ensures in
    let named : t.name ≡ name = ap (λ (v : Shelf g.row.A.Denot). v.name) is in
    let empty : t.table.rows ≡ [] = ap (λ (v : Shelf g.row.A.Denot). v.table.rows) is in
    let place = rw (value, c.as_str.ensures.value) at c.place_of-place.ensures.place in
    let free : heading_named name (headings_in ts) ≡ None = ap (λ (v : TablesValue g.row.A.Denot). heading_named name v.headings) c.self.view_is ∙ c.requires in
    subst (λ items. Rises heading_key (headings_in items)) (sym c.in-Ok.ensures.items) (added_rises name ts i t named c.self.invariant place free)

pub returns-clause-ok : goal.returns-clause-ok
returns-clause-ok g c =
    let name = c.args.name.now in
    let ts : List (Shelf g.row.A.Denot) = c.self.inside.shelves.items in
    let i = c.place_of-place.result in
    let t : Shelf g.row.A.Denot = c.in_ok-shelf.shelf in
    let value = c.deref.ensures.value in
    let is = c.in_ok-shelf.ensures in
    let named : t.name ≡ name = ap (λ (v : Shelf g.row.A.Denot). v.name) is in
    let empty : t.table.rows ≡ [] = ap (λ (v : Shelf g.row.A.Denot). v.table.rows) is in
    let place = rw (value, c.as_str.ensures.value) at c.place_of-place.ensures.place in
    let free : heading_named name (headings_in ts) ≡ None = ap (λ (v : TablesValue g.row.A.Denot). heading_named name v.headings) c.self.view_is ∙ c.requires in
    ap (λ (items : List (Shelf g.row.A.Denot)). tables_in items) c.in-Ok.ensures.items
    ∙ added_is name ts i t named c.self.invariant place free empty
    ∙ ap (λ (h : Heading). record (tables_in ts) { headings = in_order heading_key (h ∷ headings_in ts) }) (ap heading_of is)
    ∙ ap (λ (v : TablesValue g.row.A.Denot). record v { headings = in_order heading_key (record { table = name; period = c.args.period } ∷ v.headings) }) c.self.view_is

pub returns-clause-back : goal.returns-clause-back
returns-clause-back g c =
    let name = c.args.name.now in
    let ts : List (Shelf g.row.A.Denot) = c.self.inside.shelves.items in
    let i = c.place_of-place.result in
    let t : Shelf g.row.A.Denot = c.in_ok-shelf.shelf in
    let value = c.deref.ensures.value in
    let is = c.in_ok-shelf.ensures in
    let named : t.name ≡ name = ap (λ (v : Shelf g.row.A.Denot). v.name) is in
    let empty : t.table.rows ≡ [] = ap (λ (v : Shelf g.row.A.Denot). v.table.rows) is in
    let place = rw (value, c.as_str.ensures.value) at c.place_of-place.ensures.place in
    let free : heading_named name (headings_in ts) ≡ None = ap (λ (v : TablesValue g.row.A.Denot). heading_named name v.headings) c.self.view_is ∙ c.requires in
    ap (λ (items : List (Shelf g.row.A.Denot)). tables_without name (tables_in items)) c.in-Ok.ensures.items
    ∙ added_back name ts i t named c.self.invariant place free empty ∙ c.self.view_is
