-- Numbers at places that are those of rows stay so.
use Rattle.std.proofs.Common.{◌≡◌, ℕ, ◌+◌, ◌≤◌, length, List, [], ◌∷◌, filter, Bool, true, false, not, nat_eq, cond, Option, Some, None, refl, sym, ap, ◌∙◌, subst, arith}
use Rattle.std.specs.Prelude.{IfSome, IfNone, is_some}
use Rattle.st_key.specs.declared.key.Key.{Key}
use Rattle.st_key.specs.declared.period.Period.{Period}
use Rattle.st_key.specs.Key.{rank}
use Rattle.st_text.specs.Texts.{Text, comes_before, put_in_order, in_order}
use Rattle.st_index.specs.declared.row.Row.{Row}
use Rattle.st_index.specs.inner.Index.{Adds, IsAbsent}
use Rattle.st_index.specs.Order.{InScanOrder, scan_key}
use Rattle.st_index.specs.inner.Entries.{Name, name_of, rank_of}
use Rattle.st_table.specs.declared.seed.Seed.{Seed}
use Rattle.st_table.specs.inner.Found.{IsAt, IsFound}
use Rattle.st_table.specs.inner.Places.{IsTied, name_hash, number_at, one_at, one_before, place_of, stands_at}
use Rattle.st_table.specs.Table.{is_named, with_row, without_named}
use Rattle.st_table.specs.inner.Once.{HasEachOnce, rows_with_name}
use Rattle.st_table.proofs.Naming.{cut_fails}
use Rattle.st_table.proofs.Replacing.{bears, holds, named}
use Rattle.st_index.proofs.Sorting.{in_order_already, middle, scan_filter}

module _ {X : Type 0} (f : X → Bool) where
  abbrev count : List X → ℕ
  count xs = length (filter f xs)

  abbrev one : X → ℕ
  one x = cond (f x) 1 0

  count_cons : (x : X) (xs : List X) → count (x ∷ xs) ≡ one x + count xs
  count_cons x xs = at (f x) refl
    where
      at : (b : Bool) → f x ≡ b → count (x ∷ xs) ≡ cond b 1 0 + count xs
      at true e = let p : count (x ∷ xs) ≡ length (x ∷ filter f xs) = simp e in p ∙ omega arith
      at false e = let p : count (x ∷ xs) ≡ count xs = simp e in p ∙ omega arith

  -- a put in order counts as one in front
  count_put : (key : X → List Text) (x : X) (ys : List X) → count (put_in_order key x ys) ≡ one x + count ys
  count_put key x [] = count_cons x []
  count_put key x (y ∷ ys) = at (comes_before (key y) (key x)) refl (count_put key x ys)
    where
      at : (b : Bool) → comes_before (key y) (key x) ≡ b → count (put_in_order key x ys) ≡ one x + count ys → count (put_in_order key x (y ∷ ys)) ≡ one x + count (y ∷ ys)
      at true e ih =
          let p : count (put_in_order key x (y ∷ ys)) ≡ count (y ∷ put_in_order key x ys) = simp e in
          let q = count_cons y (put_in_order key x ys) in
          let r = count_cons y ys in
          omega (arith, p, q, r, ih)
      at false e ih =
          let p : count (put_in_order key x (y ∷ ys)) ≡ count (x ∷ y ∷ ys) = simp e in
          p ∙ count_cons x (y ∷ ys)

  -- what passes a second test counts apart from what does not
  count_split : (g : X → Bool) (xs : List X) → count (filter (λ x. not (g x)) xs) + count (filter g xs) ≡ count xs
  count_split g [] = refl
  count_split g (x ∷ xs) = at (g x) refl (count_split g xs)
    where
      at : (b : Bool) → g x ≡ b → count (filter (λ y. not (g y)) xs) + count (filter g xs) ≡ count xs
          → count (filter (λ y. not (g y)) (x ∷ xs)) + count (filter g (x ∷ xs)) ≡ count (x ∷ xs)
      at true e ih =
          let p : filter (λ y. not (g y)) (x ∷ xs) ≡ filter (λ y. not (g y)) xs = simp e in
          let q : filter g (x ∷ xs) ≡ x ∷ filter g xs = simp e in
          let s = ap count p in
          let t = ap count q ∙ count_cons x (filter g xs) in
          let r = count_cons x xs in
          omega (arith, s, t, r, ih)
      at false e ih =
          let p : filter (λ y. not (g y)) (x ∷ xs) ≡ x ∷ filter (λ y. not (g y)) xs = simp e in
          let q : filter g (x ∷ xs) ≡ filter g xs = simp e in
          let s = ap count p ∙ count_cons x (filter (λ y. not (g y)) xs) in
          let t = ap count q in
          let r = count_cons x xs in
          omega (arith, s, t, r, ih)

module _ {A : Type 0} (seed : Seed) (period : Period) where
  abbrev stands : ℕ → Row A → Bool
  stands = stands_at seed period

  -- how many rows stand at a place
  abbrev standing : ℕ → List (Row A) → ℕ
  standing place rows = length (filter (stands place) rows)

  sorted_without : (name : Name) (old : List (Row A)) → InScanOrder period old → in_order (scan_key period) (without_named name.id name.label old) ≡ without_named name.id name.label old
  sorted_without name old sorted = in_order_already period (without_named name.id name.label old) (scan_filter period (λ row. not (is_named name.id name.label row)) old sorted)

  -- a row counts at its own place
  own_place : (hash place : ℕ) (key : Key) (row : Row A) → hash ≡ name_hash seed row.id row.label → rank key ≡ rank_of period row → one (stands place) row ≡ one_at (place_of hash (rank key)) place
  own_place hash place key row h k =
      ap (λ n. cond (nat_eq n place) 1 0) (ap (λ m. place_of m (rank_of period row)) (sym h) ∙ ap (λ m. place_of hash m) (sym k))

  -- the row of a name counts at the place where it was found
  one_named : (hash place : ℕ) (before : Option Key) (name : Name) (rows : List (Row A)) → hash ≡ name_hash seed name.id name.label → IsFound period before name rows
      → standing place (rows_with_name name rows) ≡ one_before hash before place
  one_named hash place None name rows h none = ap (λ xs. standing place xs) none
  one_named hash place (Some key) name rows h at =
      let only : standing place (rows_with_name name rows) ≡ standing place (at.row ∷ []) = ap (λ xs. standing place xs) at.only in
      let own : name_of at.row ≡ name = named name at.row (passes at.row at.only) in
      only ∙ (count_cons (stands place) at.row [] ∙ omega arith)
      ∙ own_place hash place key at.row (h ∙ ap (λ (n : Name). name_hash seed n.id n.label) (sym own)) (sym at.placed)
    where
      passes : (row : Row A) → rows_with_name name rows ≡ row ∷ [] → is_named name.id name.label row ≡ true
      passes row only = (Rattle.st_table.proofs.Naming.one (is_named name.id name.label) rows row only).passes

  module _ (hash : ℕ) (numbers more : List (ℕ × ℕ)) where
    pub tied_put : (before : Option Key) (key : Key) (row : Row A) (old new : List (Row A)) → InScanOrder period old → hash ≡ name_hash seed row.id row.label
        → rank key ≡ rank_of period row → new ≡ with_row period row old → IsFound period before (name_of row) old
        → ((place : ℕ) → number_at more place + one_before hash before place ≡ number_at numbers place + one_at (place_of hash (rank key)) place)
        → IsTied seed period numbers old → IsTied seed period more new
    tied_put before key row old new sorted h at is found changes tied place =
        let f : Row A → Bool = stands place in
        let rest = without_named row.id row.label old in
        let a : standing place new ≡ one f row + standing place rest =
        ap (λ xs. standing place xs) is ∙ count_put f (scan_key period) row (in_order (scan_key period) rest)
        ∙ ap (λ xs. one f row + standing place xs) (sorted_without (name_of row) old sorted) in
        let b = own_place hash place key row h at in
        let c = count_split f (is_named row.id row.label) old in
        let d = one_named hash place before (name_of row) old h found in
        let e = tied place in
        let p = changes place in
        omega (arith, a, b, c, d, e, p)

    pub tied_delete : (key : Key) (name : Name) (old new : List (Row A)) → hash ≡ name_hash seed name.id name.label → new ≡ without_named name.id name.label old → IsAt period (rank key) name old
        → ((place : ℕ) → number_at more place + one_at (place_of hash (rank key)) place ≡ number_at numbers place)
        → IsTied seed period numbers old → IsTied seed period more new
    tied_delete key name old new h is at changes tied place =
        let f : Row A → Bool = stands place in
        let a = ap (λ xs. standing place xs) is in
        let c = count_split f (is_named name.id name.label) old in
        let d = one_named hash place (Some key) name old h at in
        let e = tied place in
        let p = changes place in
        omega (arith, a, c, d, e, p)

-- ---- each name once

module _ {X : Type 0} (f : X → Bool) where
  pub none_left : (xs : List X) → filter f (filter (λ x. not (f x)) xs) ≡ []
  none_left [] = refl
  none_left (x ∷ xs) = at (f x) refl (none_left xs)
    where
      at : (b : Bool) → f x ≡ b → filter f (filter (λ x. not (f x)) xs) ≡ [] → filter f (filter (λ x. not (f x)) (x ∷ xs)) ≡ []
      at true e ih = simp (e, ih)
      at false e ih = simp (e, ih)

  fewer : (g : X → Bool) (xs : List X) → length (filter f (filter g xs)) ≤ length (filter f xs)
  fewer g [] = omega arith
  fewer g (x ∷ xs) = at (g x) refl (fewer g xs)
    where
      at : (b : Bool) → g x ≡ b → length (filter f (filter g xs)) ≤ length (filter f xs) → length (filter f (filter g (x ∷ xs))) ≤ length (filter f (x ∷ xs))
      at true e ih =
          let p : filter g (x ∷ xs) ≡ x ∷ filter g xs = simp e in
          let q = ap (λ ys. length (filter f ys)) p ∙ count_cons f x (filter g xs) in
          let r = count_cons f x xs in
          omega (arith, q, r, ih)
      at false e ih =
          let p : filter g (x ∷ xs) ≡ filter g xs = simp e in
          let q = ap (λ ys. length (filter f ys)) p in
          let r = count_cons f x xs in
          omega (arith, q, r, ih)

module _ {A : Type 0} (period : Period) where
  pub once_without : (id label : Text) (old : List (Row A)) → HasEachOnce old → HasEachOnce (without_named id label old)
  once_without id label old once name =
      let p = fewer (is_named name.id name.label) (λ row. not (is_named id label row)) old in
      let q = once name in
      omega (arith, p, q)

  pub once_put : (row : Row A) (old : List (Row A)) → InScanOrder period old → HasEachOnce old → HasEachOnce (with_row period row old)
  once_put row old sorted once name = at (f row) refl
    where
      f : Row A → Bool
      f = is_named name.id name.label

      rest : List (Row A)
      rest = without_named row.id row.label old

      counted : length (filter f (with_row period row old)) ≡ cond (f row) 1 0 + length (filter f rest)
      counted =
          count_put f (scan_key period) row (in_order (scan_key period) rest)
          ∙ ap (λ xs. cond (f row) 1 0 + length (filter f xs)) (in_order_already period rest (scan_filter period (λ r. not (is_named row.id row.label r)) old sorted))

      at : (b : Bool) → f row ≡ b → length (filter f (with_row period row old)) ≤ 1
      at true e =
          let own : name_of row ≡ name = named name row e in
          let none : filter f rest ≡ [] = subst (λ (n : Name). filter (is_named n.id n.label) rest ≡ []) own (none_left (is_named row.id row.label) old) in
          let p = ap {B = ℕ} (λ b. cond b 1 0) e in
          let q = ap (λ xs. length xs) none in
          omega (arith, counted, p, q)
      at false e =
          let p = ap {B = ℕ} (λ b. cond b 1 0) e in
          let q = once_without row.id row.label old once name in
          omega (arith, counted, p, q)

  -- the row of a name is taken out
  pub taken : (k : ℕ) (name : Name) (old new : List (Row A)) (o : Option (Row A)) → IsAt period k name old → IfSome o (λ out. Adds out new old)
      → IfSome o (λ out. name_of out ≡ name) → IfNone o (IsAbsent period k name old) → new ≡ without_named name.id name.label old
  taken k name old new (Some out) at gone is_named_so absent =
      let only = subst (λ xs. rows_with_name name xs ≡ at.row ∷ []) gone.new_is at.only in
      gone.old_is ∙ sym (ap (without_named name.id name.label) gone.new_is ∙ cut_fails (is_named name.id name.label) gone.front out gone.back at.row (bears name out is_named_so) only)
  taken k name old new None at gone is_named_so absent =
      let h = holds period k name old at in
      let P : Row A → Type 0 = λ r. rank_of period r ≡ k → name_of r ≡ name → ⊥ in
      absurd (middle period h.front h.row h.back P (subst (IsAbsent period k name) h.is absent) h.placed h.named)

  -- a row of a name that was taken out at a key stood there
  pub was_there : (k : ℕ) (name : Name) (old new : List (Row A)) (o : Option (Row A)) → is_some o ≡ true → IfSome o (λ out. Adds out new old) → IfSome o (λ out. rank_of period out ≡ k)
      → IfSome o (λ out. name_of out ≡ name) → IsAbsent period k name old → ⊥
  was_there k name old new (Some out) some gone placed is_named_so absent =
      let P : Row A → Type 0 = λ r. rank_of period r ≡ k → name_of r ≡ name → ⊥ in
      middle period gone.front out gone.back P (subst (IsAbsent period k name) gone.new_is absent) placed is_named_so
  was_there k name old new None some gone placed is_named_so absent = absurd (none_is some)
    where
      none_is : false ≡ true → ⊥
      none_is p = cc

  pub was_none : {P : Type 0} (o : Option (Row A)) → is_some o ≡ false → IfNone o P → P
  was_none {P} (Some out) none h = absurd (some_is none)
    where
      some_is : true ≡ false → ⊥
      some_is p = cc
  was_none None none h = h
