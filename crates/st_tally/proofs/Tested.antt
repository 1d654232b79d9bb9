-- Entries of which it was tested whether their rows are inside.
use Rattle.std.proofs.Common.{◌≡◌, ℕ, ◌+◌, ◌<◌, ◌≤◌, ◌||◌, List, Bool, true, false, inl, inr, length, get_or, replicate, take, suc, zero, refl, sym, ap, subst, ◌∙◌, arith}
use Rattle.std.proofs.Math.ListN.{set}
use Rattle.std.proofs.lemmas.List.{get_or-set_other, get_or-set_same}
use Rattle.std.specs.List.{sum_by}
use Rattle.st_key.specs.declared.point.Point.{Point}
use Rattle.st_box.specs.declared.query.Query.{Query}
use Rattle.st_box.specs.Query.{is_inside}
use Rattle.st_text.specs.Texts.{Text}
use Rattle.st_index.specs.inner.Counting.{count_of}
use Rattle.st_index.specs.inner.Fields.{Counts}
use Rattle.st_index.specs.inner.Entries.{EntryValue, rows_of}
use Rattle.st_index.proofs.Sums.{sum_one_more}
use Rattle.st_index.proofs.Tallying.{SoFar, far_next, far_none}
use Rattle.st_tally.specs.declared.page_marks.PageMarks.{PageMarks}
use Rattle.st_tally.specs.declared.spots.Spot.{Spot}
use Rattle.st_tally.specs.inner.Marks.{AreMarks, HasAt, IsMark, IsTested}
use Rattle.st_tally.specs.inner.Spots.{IsSpotOf}
use Rattle.st_tally.specs.inner.Sums.{AreInside}
use Rattle.st_tally.proofs.ByMarks.{inside_at}
use Rattle.st_tally.proofs.Fielding.{outside_counts}
use Rattle.st_tally.proofs.Placing.{any_default, same_or_not, there_is}
use Rattle.st_tally.proofs.Tallied.{HasPlaces, IsRead, is_read, outside_at, spot_in, spot_inside}

module _ {A : Type 0} (q : Query) (judges : Text → Bool) (labels : List Text) (es : List (EntryValue A)) (p : PageMarks) (are : AreMarks labels es p)
    (places : HasPlaces p) (few : length es ≤ 32) (i : ℕ) (e : EntryValue A) (h : HasAt es i e) (is_tested : IsTested q p i false) where
  read : IsRead p i (get_or p.numbers i 0)
  read = is_read p i (get_or p.numbers i 0) (length es) places h.0 few refl

  mark : IsMark labels e (get_or p.numbers i 0) p.week (spot_in p i)
  mark = are i e h (get_or p.numbers i 0) (spot_in p i) read.number_at read.spot_at

  tested : (get_or p.numbers i 0 < 65535) × ((point : Point) → IsSpotOf p.week (spot_in p i) point → false ≡ is_inside q point)
  tested = let t = is_tested (get_or p.numbers i 0) (spot_in p i) read.number_at read.spot_at in let low = t.0 (λ j. false) in (low, t.1 low)

  -- no row of an entry that is tested to be outside is counted
  pub none_at : count_of q judges e.rows ≡ 0
  none_at = outside_at q labels e (get_or p.numbers i 0) p.week (spot_in p i) mark false tested.1 judges tested.0 (λ j. false)

  -- nor in a field
  pub none_in_field_at : (field_of : Point → ℕ) (counts : List ℕ) → Counts q judges field_of e.rows counts counts
  none_in_field_at field_of counts =
      outside_counts q judges field_of labels e (get_or p.numbers i 0) p.week (spot_in p i) mark counts tested.0 (λ point at. sym (tested.1 point at))

one_more : (n : ℕ) → suc n ≡ n + 1
one_more n = omega arith

-- of entries of which none is counted, none are
module _ {A : Type 0} (q : Query) (judges : Text → Bool) (es : List (EntryValue A)) where
  pub none_to : (n : ℕ) → n ≤ length es → ((i : ℕ) (e : EntryValue A) → HasAt es i e → count_of q judges e.rows ≡ 0)
      → sum_by (λ (e : EntryValue A). count_of q judges e.rows) (take n es) ≡ 0
  none_to zero l none = omega arith
  none_to (suc n) l none =
      let below : n < length es = omega (arith, l) in
      let some = there_is es n below in
      let before = none_to n (omega (arith, l)) none in
      let one = sum_one_more (λ (e : EntryValue A). count_of q judges e.rows) es n some.0 below some.1.1 in
      ap (λ m. sum_by (λ (e : EntryValue A). count_of q judges e.rows) (take m es)) (one_more n) ∙ omega (arith, before, one, none n some.0 some.1)

  pub none_in_fields_to : (field_of : Point → ℕ) (counts : List ℕ) (n : ℕ) → n ≤ length es
      → ((i : ℕ) (e : EntryValue A) → HasAt es i e → Counts q judges field_of e.rows counts counts)
      → SoFar q judges field_of (λ (e : EntryValue A). e.rows) es n counts counts
  none_in_fields_to field_of counts zero l none = far_none q judges field_of (λ (e : EntryValue A). e.rows) es counts
  none_in_fields_to field_of counts (suc n) l none =
      let below : n < length es = omega (arith, l) in
      let some = there_is es n below in
      subst (λ m. SoFar q judges field_of (λ (e : EntryValue A). e.rows) es m counts counts) (sym (one_more n))
      (far_next q judges field_of (λ (e : EntryValue A). e.rows) es n some.0 counts counts counts
      (none_in_fields_to field_of counts n (omega (arith, l)) none) below some.1.1 (none n some.0 some.1))

-- where all rows are inside, so is the one of each entry
pub all_tested : {A : Type 0} (q : Query) (labels : List Text) (es : List (EntryValue A)) (p : PageMarks) (i : ℕ) (e : EntryValue A) → AreMarks labels es p
    → HasAt es i e → AreInside q (rows_of es) → IsTested q p i true
all_tested q labels es p i e are h inside = λ number spot a b.
    (λ off. absurd (cc off), λ few point at. spot_inside labels q e number p.week spot (are i e h number spot a b) few (inside_at q es i e h inside) point at)

pub all_true : (n i : ℕ) → i < n → get_or (replicate n true) i false ≡ true
all_true zero i l = absurd (omega (arith, l))
all_true (suc n) zero l = refl
all_true (suc n) (suc i) l = all_true n i (omega (arith, l))

or_none : (a b : Bool) → (a || b) ≡ false → b ≡ false
or_none true b off = absurd (cc off)
or_none false b off = off

or_left : (a b : Bool) → b ≡ false → (a || b) ≡ a
or_left true b off = refl
or_left false b off = off

-- what is tested by the mark at a place: whether the point of its spot is inside, or the entry is to be read
pub tested_here : (q : Query) (p : PageMarks) (i : ℕ) (has read : Bool) (first : Spot) → (read ≡ false → get_or p.numbers i 0 < 65535)
    → (get_or p.numbers i 0 < 65535 → read ≡ false) → ((point : Point) → IsSpotOf p.week (get_or p.spots i first) point → has ≡ is_inside q point)
    → IsTested q p i (has || read)
tested_here q p i has read first few_if if_few tested = λ number spot a b.
    let n : number ≡ get_or p.numbers i 0 = a.1 ∙ any_default p.numbers i number 0 a.0 in
    let s : spot ≡ get_or p.spots i first = b.1 ∙ any_default p.spots i spot first b.0 in (
      λ off. omega (arith, few_if (or_none has read off), n),
      λ few point is. or_left has read (if_few (omega (arith, few, n))) ∙ tested point (subst (λ t. IsSpotOf p.week t point) s is),
    )

-- what is tested of a place and of those before it
pub tested_next : (q : Query) (p : PageMarks) (tested : List Bool) (at i : ℕ) (here : Bool) → at < length tested → i < at + 1 → IsTested q p at here
    → (i < at → IsTested q p i (get_or tested i false)) → IsTested q p i (get_or (set tested at here) i false)
tested_next q p tested at i here fits below is_tested before =
    elim (same_or_not i at) [
      | inl same ↦
          subst (λ j. IsTested q p j (get_or (set tested at here) j false)) (sym same) (subst (IsTested q p at) (sym (get_or-set_same tested at here false fits)) is_tested)
      | inr ne ↦ subst (IsTested q p i) (sym (get_or-set_other tested at i here false ne)) (before (omega (arith, below, ne)))
    ]
