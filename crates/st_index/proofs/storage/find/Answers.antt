use Rattle.std.proofs.Common.{◌≡◌, ℕ, List, [], ◌∷◌, Some, ap, sym, subst, ◌∙◌}
use Rattle.std.specs.Prelude.{Result}
use Rattle.std.specs.List.Sorted.{IsBinarySearchResult}
use Rattle.st_text.specs.Texts.{Text}
use Rattle.st_key.specs.declared.point.Point.{Point}
use Rattle.st_index.specs.declared.row.Row.{Row}
use Rattle.st_index.specs.Notes.{NoteValue}
use Rattle.st_index.specs.inner.Entries.{name_of, name_cmp}
use Rattle.st_index.specs.KeyPoints.{point_of_key}
use Rattle.st_index.specs.inner.Storages.{label_in}
use Rattle.st_index.proofs.storage.find.Goals as goal

-- where a row alone stands by a name
abbrev IsNamedAt : (A : Type 0) → Text → Point → Text → List ℕ → Text → Text → Result ℕ ℕ → Type 0
IsNamedAt A id point label note sought_id sought_label result =
    IsBinarySearchResult (λ (r : Row A). name_cmp (name_of r) (record { id = sought_id; label = sought_label }))
    (record { id = id; point = point; label = label; note = note } ∷ []) result

pub returns-in-Inline-clause-place : goal.returns-in-Inline-clause-place
returns-in-Inline-clause-place g c =
    rw c.in-Inline.is (c.find_beside.ensures.place (point_of_key c.in-Inline.period c.in-Inline.bin c.in-Inline.address) [])

pub returns-in-Noted-clause-place : goal.returns-in-Noted-clause-place
returns-in-Noted-clause-place g c =
    let label : c.in-Noted.text.value.label ≡ Some c.label.result.now = ap (λ (v : NoteValue). v.label) (sym c.deref.ensures) ∙ c.label.ensures in
    let point = point_of_key c.in-Noted.period c.in-Noted.bin c.in-Noted.address in
    let note = c.in-Noted.text.value.text in
    let found = c.find_beside-in-Noted.ensures.place point note in
    let sought = λ (l : Text). IsNamedAt _ c.in-Noted.row_id point l note c.args.id.now c.args.label.now c.find_beside-in-Noted.result in
    rw c.in-Noted.is (subst sought (sym (ap label_in label)) found)

pub returns-in-Heap-clause-place : goal.returns-in-Heap-clause-place
returns-in-Heap-clause-place g c =
    let same : c.as_slice.result.now ≡ c.in-Heap.rows.items = c.as_slice.ensures.value in
    rw (c.in-Heap.is, ← same) c.find_name.ensures.place
