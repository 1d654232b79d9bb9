-- Counts of entries by their marks.
use Rattle.std.proofs.Common.{◌≡◌, ℕ, ◌+◌, ◌-◌, List, [], ◌∷◌, Bool, true, false, cond, ◌&&◌, take, drop, drop-cons, slice_range, suc, refl, sym, ap, subst, ◌∙◌, arith}
use mir.Val.{bool_byte}
use Rattle.std.proofs.lemmas.List.{append-nil}
use Rattle.std.proofs.lemmas.List.Sums.{sum_by-cons}
use Rattle.std.specs.List.{All}
use Rattle.st_box.specs.declared.query.Query.{Query}
use Rattle.st_box.specs.Query.{is_inside}
use Rattle.st_text.specs.Texts.{Text}
use Rattle.st_index.specs.declared.row.Row.{Row}
use Rattle.st_index.specs.inner.Counting.{count_of, is_counted}
use Rattle.st_index.specs.inner.Entries.{EntryValue, rows_of}
use Rattle.st_index.proofs.Climbing.{all_left, all_right}
use Rattle.st_index.proofs.Putting.{rows-append, split_read}
use Rattle.st_tally.specs.inner.Marks.{HasAt}
use Rattle.st_tally.specs.inner.Sums.{AreInside}

-- a truth as a number
pub byte_is : (b : Bool) → bool_byte b ≡ cond b 1 0
byte_is true = refl
byte_is false = refl

module _ {A : Type 0} where
  -- where all rows are inside, those of each entry are
  pub inside_at : (q : Query) (es : List (EntryValue A)) (i : ℕ) (e : EntryValue A) → HasAt es i e → AreInside q (rows_of es) → AreInside q e.rows
  inside_at q es i e h inside =
      let P = λ (r : Row A). is_inside q r.point ≡ true in
      let front = take i es in
      let back = drop (suc i) es in
      let split = ap rows_of (split_read es i e h.0 h.1) ∙ rows-append front (e ∷ back) in
      all_left P e.rows (rows_of back) (all_right P (rows_of front) (rows_of (e ∷ back)) (subst (All P) split inside))

  pub one_row : (q : Query) (judges : Text → Bool) (row : Row A) → count_of q judges (row ∷ []) ≡ cond (is_inside q row.point && judges row.label) 1 0
  one_row q judges row = let s = sum_by-cons (λ (r : Row A). cond (is_counted q judges r) 1 0) row [] in omega (arith, s)

  -- the entries from a place to the next one
  pub one_entry : (es : List (EntryValue A)) (i : ℕ) (e : EntryValue A) → HasAt es i e → slice_range es i (i + 1) ≡ e ∷ []
  one_entry es i e h =
      let one : (i + 1) - i ≡ 1 = omega arith in
      ap (λ n. take n (drop i es)) one ∙ ap (take 1) (drop-cons es i e h.0) ∙ ap (λ y. y ∷ []) (sym h.1)

  pub rows_of_one : (e : EntryValue A) → rows_of (e ∷ []) ≡ e.rows
  rows_of_one e = append-nil e.rows
