-- Numbers of rows by fields, as rows are added.
use Rattle.std.proofs.Common.{◌≡◌, ℕ, suc, zero, ◌+◌, ◌<◌, ◌≤◌, ◌&&◌, List, [], ◌∷◌, Bool, true, false, cond, nat_eq, length, take, get_or, inl, inr, refl, sym, ap, subst, ◌∙◌, arith}
use Rattle.std.proofs.Math.ListN.{set}
use Rattle.std.proofs.lemmas.Bool.{eq-eqb}
use Rattle.std.proofs.lemmas.Bool.Decides.{eqb_tells}
use Rattle.std.proofs.lemmas.List.{get_or-set_same, get_or-set_other}
use Rattle.std.proofs.lemmas.List.Concat.{flat_map-cons, length-flat_map}
use Rattle.std.proofs.lemmas.List.Elements.{All-head, All-tail}
use Rattle.std.proofs.lemmas.List.Sums.{count_by-le-length, sum_by-cons, sum_by-take-le}
use Rattle.std.specs.List.{All, flat_map, sum_by}
use Rattle.st_key.specs.declared.point.Point.{Point}
use Rattle.st_box.specs.declared.query.Query.{Query}
use Rattle.st_text.specs.Texts.{Text}
use Rattle.st_index.specs.declared.row.Row.{Row}
use Rattle.st_index.specs.inner.Counting.{count_of, is_counted}
use Rattle.st_index.specs.inner.Fields.{CanAdd, Counts, count_in}
use Rattle.st_index.proofs.Sums.{sum_all, sum_by-flat_map, sum_one_more}

-- a number of a list that is made larger
pub put_at : (counts : List ℕ) (f more : ℕ) → f < length counts → (k : ℕ)
    → get_or (set counts f (get_or counts f 0 + more)) k 0 ≡ get_or counts k 0 + cond (nat_eq f k) more 0
put_at counts f more l k =
    let v = get_or counts f 0 + more in
    elim (eqb_tells f k) [
      | inl same ↦
          let here : get_or (set counts f v) f 0 ≡ get_or counts f 0 + cond (nat_eq f f) more 0 =
          get_or-set_same counts f v 0 l ∙ ap (λ b. get_or counts f 0 + cond b more 0) (sym (eq-eqb f f refl)) in
          subst (λ n. get_or (set counts f v) n 0 ≡ get_or counts n 0 + cond (nat_eq f n) more 0) same.1 here
      | inr other ↦
          let none : cond (nat_eq f k) more 0 ≡ 0 = ap (λ b. cond b more 0) other.0 in
          let kept = get_or-set_other counts f k v 0 (λ e. other.1 (sym e)) in
          kept ∙ omega (arith, none)
    ]

-- a number of a list of zeros
pub zero_at : (counts : List ℕ) → All (λ n. n ≡ 0) counts → (k : ℕ) → get_or counts k 0 ≡ 0
zero_at [] h k = refl
zero_at (n ∷ ns) h zero = All-head (λ m. m ≡ 0) n ns h
zero_at (n ∷ ns) h (suc k) = zero_at ns (All-tail (λ m. m ≡ 0) n ns h) k

-- a number where a test holds, and else 0
abbrev only : Bool → ℕ → ℕ
only b n = cond b n 0

no_more : (b : Bool) → only b 0 ≡ 0
no_more true = refl
no_more false = refl

fewer : (s t : Bool) → only (s && t) 1 ≤ only s 1
fewer true true = omega arith
fewer true false = omega arith
fewer false t = omega arith

in_field : (s : Bool) (f one field : ℕ) → (s ≡ true → f ≡ one) → only (s && nat_eq f field) 1 ≡ only (nat_eq one field) (only s 1)
in_field true f one field h = ap (λ n. only (nat_eq n field) 1) (h refl)
in_field false f one field h = sym (no_more (nat_eq one field))

both_more : (b : Bool) (m n : ℕ) → only b m + only b n ≡ only b (m + n)
both_more true m n = refl
both_more false m n = refl

module _ {A : Type 0} (q : Query) (judges : Text → Bool) (field_of : Point → ℕ) where
  -- one row that is counted, and one that is not
  pub counts_one : (row : Row A) (old new : List ℕ) → is_counted q judges row ≡ true
      → ((at : ℕ) → get_or new at 0 ≡ get_or old at 0 + cond (nat_eq (field_of row.point) at) 1 0) → Counts q judges field_of (row ∷ []) old new
  counts_one row old new counted added = λ field.
      let one = sum_by-cons (λ (r : Row A). cond (is_counted q judges r && nat_eq (field_of r.point) field) 1 0) row [] in
      let is : cond (is_counted q judges row && nat_eq (field_of row.point) field) 1 0 ≡ cond (nat_eq (field_of row.point) field) 1 0 =
      ap {B = ℕ} (λ b. cond (b && nat_eq (field_of row.point) field) 1 0) counted in
      let more = added field in
      omega (arith, one, is, more)

  pub counts_not : (row : Row A) (counts : List ℕ) → is_counted q judges row ≡ false → Counts q judges field_of (row ∷ []) counts counts
  counts_not row counts counted = λ field.
      let one = sum_by-cons (λ (r : Row A). cond (is_counted q judges r && nat_eq (field_of r.point) field) 1 0) row [] in
      let is : cond (is_counted q judges row && nat_eq (field_of row.point) field) 1 0 ≡ 0 =
      ap {B = ℕ} (λ b. cond (b && nat_eq (field_of row.point) field) 1 0) counted in
      omega (arith, one, is)

  -- rows of which none is counted
  in_none : (rows : List (Row A)) (field : ℕ) → count_of q judges rows ≡ 0 → count_in q judges field_of field rows ≡ 0
  in_none [] field none = refl
  in_none (row ∷ rows) field none =
      let a = sum_by-cons (λ (r : Row A). cond (is_counted q judges r && nat_eq (field_of r.point) field) 1 0) row rows in
      let b = sum_by-cons (λ (r : Row A). cond (is_counted q judges r) 1 0) row rows in
      let rest = in_none rows field (omega (arith, b, none)) in
      let here : cond (is_counted q judges row && nat_eq (field_of row.point) field) 1 0 ≤ cond (is_counted q judges row) 1 0 =
      fewer (is_counted q judges row) (nat_eq (field_of row.point) field) in
      omega (arith, a, b, rest, here, none)

  pub counts_none : (rows : List (Row A)) (counts : List ℕ) → count_of q judges rows ≡ 0 → Counts q judges field_of rows counts counts
  counts_none rows counts none = λ field. let z = in_none rows field none in omega (arith, z)

  -- rows that are all in one field
  in_one : (rows : List (Row A)) (one field : ℕ) → All (λ (r : Row A). is_counted q judges r ≡ true → field_of r.point ≡ one) rows
      → count_in q judges field_of field rows ≡ cond (nat_eq one field) (count_of q judges rows) 0
  in_one [] one field all = sym (no_more (nat_eq one field))
  in_one (row ∷ rows) one field all =
      let a = sum_by-cons (λ (r : Row A). cond (is_counted q judges r && nat_eq (field_of r.point) field) 1 0) row rows in
      let b = sum_by-cons (λ (r : Row A). cond (is_counted q judges r) 1 0) row rows in
      let P = λ (r : Row A). is_counted q judges r ≡ true → field_of r.point ≡ one in
      let rest = in_one rows one field (All-tail P row rows all) in
      let here = in_field (is_counted q judges row) (field_of row.point) one field (All-head P row rows all) in
      let both = both_more (nat_eq one field) (cond (is_counted q judges row) 1 0) (count_of q judges rows) in
      let whole = ap (λ n. cond (nat_eq one field) n 0) (sym b) in
      omega (arith, a, rest, here, both) ∙ whole

  pub counts_in_one : (rows : List (Row A)) (one : ℕ) (old new : List ℕ)
      → All (λ (r : Row A). is_counted q judges r ≡ true → field_of r.point ≡ one) rows
      → ((at : ℕ) → get_or new at 0 ≡ get_or old at 0 + cond (nat_eq one at) (count_of q judges rows) 0)
      → Counts q judges field_of rows old new
  counts_in_one rows one old new all added = λ field. let a = added field in let b = in_one rows one field all in omega (arith, a, b)

  -- what was added for the first items of a list, each of which has rows
  module _ {X : Type 0} (rows_at : X → List (Row A)) (xs : List X) where
    abbrev pub SoFar : ℕ → (old new : List ℕ) → Type 0
    SoFar i old new = (field : ℕ) → get_or new field 0 ≡ get_or old field 0 + sum_by (λ x. count_in q judges field_of field (rows_at x)) (take i xs)

    pub far_none : (counts : List ℕ) → SoFar 0 counts counts
    far_none counts = λ field. omega arith

    pub far_next : (i : ℕ) (x : X) (old now new : List ℕ) → SoFar i old now → i < length xs → x ≡ get_or xs i x
        → Counts q judges field_of (rows_at x) now new → SoFar (i + 1) old new
    far_next i x old now new far below is more = λ field.
        let a = far field in
        let b = more field in
        let c = sum_one_more (λ y. count_in q judges field_of field (rows_at y)) xs i x below is in
        omega (arith, a, b, c)

    fewer_in : (ys : List X) (field : ℕ) → sum_by (λ y. count_in q judges field_of field (rows_at y)) ys ≤ sum_by (λ y. length (rows_at y)) ys
    fewer_in [] field = omega arith
    fewer_in (y ∷ ys) field =
        let a = sum_by-cons (λ z. count_in q judges field_of field (rows_at z)) y ys in
        let b = sum_by-cons (λ z. length (rows_at z)) y ys in
        let c = count_by-le-length (λ (r : Row A). is_counted q judges r && nat_eq (field_of r.point) field) (rows_at y) in
        let d = fewer_in ys field in
        omega (arith, a, b, c, d)

    -- and what is to come can be added
    pub far_fits : (i : ℕ) (x : X) (old now : List ℕ) → SoFar i old now → i < length xs → x ≡ get_or xs i x
        → CanAdd (length (flat_map rows_at xs)) old → CanAdd (length (rows_at x)) now
    far_fits i x old now far below is fits = λ field.
        let a = far field in
        let less = fewer_in (take i xs) field in
        let next = sum_one_more (λ y. length (rows_at y)) xs i x below is in
        let most = sum_by-take-le (λ y. length (rows_at y)) xs (i + 1) in
        let whole = length-flat_map rows_at xs in
        let can = fits field in
        omega (arith, a, less, next, most, whole, can)

    pub far_all : (i : ℕ) (old new : List ℕ) → SoFar i old new → length xs ≤ i → Counts q judges field_of (flat_map rows_at xs) old new
    far_all i old new far over = λ field.
        let a = far field in
        let b = sum_all (λ y. count_in q judges field_of field (rows_at y)) xs i over in
        let c = sum_by-flat_map (λ (r : Row A). cond (is_counted q judges r && nat_eq (field_of r.point) field) 1 0) rows_at xs in
        omega (arith, a, b, c)

-- the rows of a list, one by one
pub each_alone : {X : Type 0} (xs : List X) → flat_map (λ x. x ∷ []) xs ≡ xs
each_alone [] = refl
each_alone (x ∷ xs) = flat_map-cons (λ y. y ∷ []) x xs ∙ ap (λ ys. x ∷ ys) (each_alone xs)
