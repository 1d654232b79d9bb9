use Rattle.std.proofs.Common.{◌≡◌, ℕ, List, [], ◌∷◌, refl, ap, ◌∙◌}
use Rattle.st_key.specs.declared.key.Key.{Key}
use Rattle.st_key.specs.declared.period.Period.{Period}
use Rattle.st_key.specs.declared.point.Point.{Point}
use Rattle.st_key.specs.Key.{rank}
use Rattle.st_index.specs.declared.row.Row.{Row}
use Rattle.st_index.specs.Notes.{NoteValue}
use Rattle.st_index.specs.inner.Entries.{rank_of}
use Rattle.st_index.specs.KeyPoints.{point_of_key}
use Rattle.st_index.specs.inner.KeyPoints.{IsPointKey}
use Rattle.st_index.proofs.KeyPoints.{told, is_told}
use Rattle.st_index.proofs.storage.alone.Goals as goal

abbrev placed : {A : Type 0} → Row A → Point → List ℕ → Row A
placed r p n = record { id = r.id; point = p; label = r.label; note = n }

module _ {A : Type 0} (period : Period) (r : Row A) (k : Key) (e : rank k ≡ rank_of period r) (b a : ℕ) (same_bin : b ≡ k.bin) (same_address : a ≡ k.address) where
  told_by : IsPointKey period b a
  told_by = rw (same_bin, same_address) (is_told period r k e)

  point_is : point_of_key period b a ≡ r.point
  point_is = ap (λ b. point_of_key period b a) same_bin ∙ ap (point_of_key period k.bin) same_address ∙ told period r k e

  row_is : (n : List ℕ) → n ≡ r.note → placed r (point_of_key period b a) n ∷ [] ≡ r ∷ []
  row_is n same = ap (λ p. placed r p n ∷ []) point_is ∙ ap (λ m. placed r r.point m ∷ []) same

pub returns-in-None-clause-stored : goal.returns-in-None-clause-stored
returns-in-None-clause-stored g c =
    let is = told_by c.args.period c.args.row c.args.key c.requires c.bin-bin.result c.address-address.result c.bin-bin.ensures.value c.address-address.ensures.value in
    ((c.bin-bin.ensures.in_range, c.address-address.ensures.in_range), is)

pub returns-in-Some-clause-stored : goal.returns-in-Some-clause-stored
returns-in-Some-clause-stored g c =
    let is = told_by c.args.period c.args.row c.args.key c.requires c.bin-bin.result c.address-address.result c.bin-bin.ensures.value c.address-address.ensures.value in
    ((c.bin-bin.ensures.in_range, c.address-address.ensures.in_range), is, rw c.put_label.ensures.label refl)

pub returns-in-None-clause-rows : goal.returns-in-None-clause-rows
returns-in-None-clause-rows g c =
    let same : [] ≡ c.args.row.note = rw c.in-None.is at c.into_text.ensures in
    row_is c.args.period c.args.row c.args.key c.requires c.bin-bin.result c.address-address.result c.bin-bin.ensures.value c.address-address.ensures.value [] same

pub returns-in-Some-clause-rows : goal.returns-in-Some-clause-rows
returns-in-Some-clause-rows g c =
    let noted : c.in-Some.text.value.text ≡ c.args.row.note = rw c.in-Some.is at c.into_text.ensures in
    let same : c.deref_mut.result.now.text ≡ c.args.row.note = ap (λ (v : NoteValue). v.text) c.deref_mut.ensures.value ∙ noted in
    let is = row_is c.args.period c.args.row c.args.key c.requires c.bin-bin.result c.address-address.result c.bin-bin.ensures.value c.address-address.ensures.value _ same in
    rw (c.put_label.ensures.label, c.put_label.ensures.text) is
