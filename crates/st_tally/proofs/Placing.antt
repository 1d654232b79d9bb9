-- What stands at the places of lists, as these change.
use Rattle.std.proofs.Common.{◌≡◌, ℕ, ◌+◌, ◌-◌, ◌<◌, ◌≤◌, ◌⊎◌, List, [], ◌∷◌, ◌++◌, length, get_or, inl, inr, suc, zero, refl, sym, ap, ◌∙◌, arith, length-append, length-set}
use Rattle.std.proofs.Math.ListN.{set}
use Rattle.std.proofs.Math.Seq.{get_or-append_seam}
use Rattle.std.proofs.lemmas.Bool.{cases_lt}
use Rattle.std.proofs.lemmas.List.{get_or_append_left, get_or-set_other, get_or-set_same, set_split}
use Rattle.std.proofs.lemmas.List.Edits.{get_or-insert_above, get_or-insert_below, get_or-remove_above, get_or-remove_below, length-insert, length-remove}
use Rattle.std.specs.List.{CopiedTo, SameBelow, insert, remove}
use Rattle.st_index.proofs.Putting.{split_read}
use Rattle.st_text.specs.Texts.{Text}
use Rattle.st_tally.specs.inner.Marks.{ClosesAt, DifferAt, HasAt, Keeps, OpensAt}
use Rattle.st_tally.proofs.Labels.{same_read}

pub any_default : {X : Type 0} (xs : List X) (i : ℕ) (a b : X) → i < length xs → get_or xs i a ≡ get_or xs i b
any_default [] i a b l = absurd (omega (arith, l))
any_default (x ∷ xs) zero a b l = refl
any_default (x ∷ xs) (suc i) a b l = any_default xs i a b (omega (arith, l))

pub same_at : {X : Type 0} (xs : List X) (i : ℕ) (x y : X) → HasAt xs i x → HasAt xs i y → x ≡ y
same_at xs i x y a b = same_read xs i x y a.0 a.1 b.1

pub read_at : {X : Type 0} (xs : List X) (i : ℕ) (d x : X) → i < length xs → x ≡ get_or xs i d → HasAt xs i x
read_at xs i d x l is = (l, is ∙ any_default xs i d x l)

pub set_read : {X : Type 0} (xs : List X) (i : ℕ) (old new : X) → i < length xs → old ≡ get_or xs i old → new ≡ old → set xs i new ≡ xs
set_read xs i old new l read same = ap (set xs i) same ∙ set_split xs i old l ∙ sym (split_read xs i old l read)

-- what stands at a place of a list in which one item was changed
pub at_other : {X : Type 0} (xs : List X) (n i : ℕ) (y x : X) → (i ≡ n → ⊥) → HasAt (set xs n y) i x → HasAt xs i x
at_other xs n i y x ne h = (omega (arith, h.0, length-set xs n y), h.1 ∙ get_or-set_other xs n i y x ne)

pub at_changed : {X : Type 0} (xs : List X) (n : ℕ) (y x : X) → n < length xs → HasAt (set xs n y) n x → x ≡ y
at_changed xs n y x l h = h.1 ∙ get_or-set_same xs n y x l

pub at_last : {X : Type 0} (xs : List X) (x : X) → HasAt (xs ++ x ∷ []) (length xs) x
at_last xs x = (omega (arith, length-append xs (x ∷ [])), sym (get_or-append_seam xs x [] x))

pub at_left : {X : Type 0} (xs : List X) (y : X) (i : ℕ) (x : X) → HasAt xs i x → HasAt (xs ++ y ∷ []) i x
at_left xs y i x h = (omega (arith, length-append xs (y ∷ []), h.0), h.1 ∙ sym (get_or_append_left xs (y ∷ []) x i h.0))

pub at_before : {X : Type 0} (xs : List X) (y : X) (i : ℕ) (x : X) → i < length xs → HasAt (xs ++ y ∷ []) i x → HasAt xs i x
at_before xs y i x l h = (l, h.1 ∙ get_or_append_left xs (y ∷ []) x i l)

pub keeps_all : (xs : List Text) → Keeps xs xs
keeps_all xs i x h = h

pub there_is : {X : Type 0} (xs : List X) (i : ℕ) → i < length xs → (x : X) × HasAt xs i x
there_is [] i l = absurd (omega (arith, l))
there_is (x ∷ xs) zero l = (x, (l, refl))
there_is (x ∷ xs) (suc i) l = let r = there_is xs i (omega (arith, l)) in (r.0, (l, r.1.1))

pub opens_insert : {X : Type 0} (xs : List X) (at : ℕ) (x : X) → at ≤ length xs → OpensAt at xs (insert xs at x)
opens_insert xs at x fits = λ i y h.
    let l = h.0 in
    let n = length-insert xs at x fits in (
      λ less. (omega (arith, less, fits), h.1 ∙ get_or-insert_below xs at x y i less fits),
      λ more.
          let before : (i - 1) + 1 ≡ i = omega (arith, more) in
          (omega (arith, l, n, more), h.1 ∙ ap (λ j. get_or (insert xs at x) j y) (sym before) ∙ get_or-insert_above xs at x y (i - 1) (omega (arith, more)) fits),
    )

pub closes_remove : {X : Type 0} (xs : List X) (at : ℕ) → at < length xs → ClosesAt at xs (remove xs at)
closes_remove xs at fits = λ i y h.
    let n = length-remove xs at fits in (
      λ less. (omega (arith, less, fits), h.1 ∙ get_or-remove_below xs at y i less fits),
      λ over. (omega (arith, h.0, n), h.1 ∙ get_or-remove_above xs at y i over fits),
    )

pub differ_set : {X : Type 0} (xs : List X) (at : ℕ) (x : X) → DifferAt at xs (set xs at x)
differ_set xs at x = λ i y ne h. at_other xs at i x y ne h

pub same_or_not : (i n : ℕ) → (i ≡ n) ⊎ (i ≡ n → ⊥)
same_or_not i n = elim (cases_lt i n) [
  | inl less ↦ inr (λ same. omega (arith, less, same))
  | inr over ↦ elim (cases_lt n i) [
    | inl more ↦ inr (λ same. omega (arith, more, same))
    | inr under ↦ inl (omega (arith, over, under))
  ]
]

pub apart : (i n : ℕ) → (i ≡ n → ⊥) → n ≤ i → n < i
apart i n ne over = elim (cases_lt n i) [
  | inl more ↦ more
  | inr under ↦ absurd (ne (omega (arith, over, under)))
]

-- of so many items, those from a place on moved up
abbrev pub Opens : {X : Type 0} → (at count : ℕ) → (old new : List X) → Type 0
Opens {X} at count old new = (i : ℕ) (x : X) → i < count → HasAt new i x → (i < at → HasAt old i x) × (at < i → HasAt old (i - 1) x)

-- and those behind a place moved down
abbrev pub Closes : {X : Type 0} → (at count : ℕ) → (old new : List X) → Type 0
Closes {X} at count old new = (i : ℕ) (x : X) → i < count → HasAt new i x → (i < at → HasAt old i x) × (at ≤ i → HasAt old (i + 1) x)

pub opens_copied : {X : Type 0} (old new : List X) (at count : ℕ) → at < count → count ≤ length old → length new ≡ length old
    → CopiedTo old new at (at + 1) (count - 1 - at) → SameBelow old new (at + 1) → Opens at count old new
opens_copied old new at count here fits same copied below = λ i x l h.
    let low = h.0 in (
      λ less. (omega (arith, low, same), h.1 ∙ below i x (omega (arith, less))),
      λ more.
          let place : at + (i - (at + 1)) ≡ i - 1 = omega (arith, more) in
          (omega (arith, low, same), h.1 ∙ copied i x (omega (arith, more)) (omega (arith, more, l, here)) ∙ ap (λ j. get_or old j x) place),
    )

pub closes_copied : {X : Type 0} (old new : List X) (at count : ℕ) → at ≤ count → count + 1 ≤ length old → length new ≡ length old
    → CopiedTo old new (at + 1) at (count + 1 - (at + 1)) → SameBelow old new at → Closes at count old new
closes_copied old new at count here fits same copied below = λ i x l h.
    let low = h.0 in (
      λ less. (omega (arith, low, same), h.1 ∙ below i x less),
      λ over.
          let place : at + 1 + (i - at) ≡ i + 1 = omega (arith, over) in
          (omega (arith, l, fits), h.1 ∙ copied i x over (omega (arith, over, l, here)) ∙ ap (λ j. get_or old j x) place),
    )

-- what is put in its own place changes nothing
pub set_again : {X : Type 0} (xs : List X) (i : ℕ) (x y : X) → x ≡ get_or xs i x → y ≡ x → i < length xs → set xs i y ≡ xs
set_again [] i x y read same l = refl
set_again (z ∷ zs) zero x y read same l = ap (λ w. w ∷ zs) (same ∙ read)
set_again (z ∷ zs) (suc i) x y read same l = ap (λ ws. z ∷ ws) (set_again zs i x y read same (omega (arith, l)))
