-- Reading in scan order what stands by names.
use Rattle.std.proofs.Common.{◌≡◌, List, [], ◌∷◌, filter, map, Bool, true, false, refl, sym, ap, ◌∙◌}
use Rattle.std.specs.List.{All}
use Rattle.std.specs.Prelude.{IsTrue}
use Rattle.std.proofs.lemmas.List.Elements.{All-head, All-tail}
use Rattle.std.specs.Ordering.{is_lt, ordering_reverse}
use Rattle.std.specs.declared.cmp.Ordering.{Ordering}
use Rattle.std.specs.declared.cmp.Ordering.TheVariants.{Less, Equal, Greater}
use Rattle.st_key.specs.declared.period.Period.{Period}
use Rattle.st_text.specs.Texts.{Text, same, comes_before, put_in_order, in_order}
use Rattle.st_index.specs.declared.row.Row.{Row}
use Rattle.st_index.specs.Order.{InScanOrder, scan_key}
use Rattle.st_table.specs.Rows.{Held, full_name}
use Rattle.st_index.proofs.Sorting.{in_order_already}
use Rattle.st_text.proofs.Resorting.{Apart, R, filter_in_order, put_swap, turned}

module _ {X Y : Type 0} (f : X → Y) (key : X → List Text) (order : Y → List Text) where
  put_back : (x : X) (zs : List X) → Apart order (f x) (map f zs) → in_order order (map f (put_in_order key x zs)) ≡ put_in_order order (f x) (in_order order (map f zs))
  put_back x [] h = refl
  put_back x (z ∷ zs) h = at (comes_before (key z) (key x)) refl (put_back x zs h.1)
    where
      at : (b : Bool) → comes_before (key z) (key x) ≡ b → in_order order (map f (put_in_order key x zs)) ≡ put_in_order order (f x) (in_order order (map f zs))
          → in_order order (map f (put_in_order key x (z ∷ zs))) ≡ put_in_order order (f x) (in_order order (map f (z ∷ zs)))
      at true e ih =
          let whole = ap (put_in_order order (f z)) ih ∙ put_swap order (f z) (f x) (in_order order (map f zs)) h.0 in
          simp (e, whole)
      at false e ih = simp e

  apart_put : (y : Y) (x : X) (zs : List X) → (R (order (f x)) (order y) ≡ Equal → ⊥) → Apart order y (map f zs) → Apart order y (map f (put_in_order key x zs))
  apart_put y x [] ne h = (ne, tt)
  apart_put y x (z ∷ zs) ne h = at (comes_before (key z) (key x)) refl (apart_put y x zs ne h.1)
    where
      at : (b : Bool) → comes_before (key z) (key x) ≡ b → Apart order y (map f (put_in_order key x zs)) → Apart order y (map f (put_in_order key x (z ∷ zs)))
      at true e ih = rw e (h.0, ih)
      at false e ih = rw e (ne, h)

  apart_sorted : (y : Y) (xs : List X) → Apart order y (map f xs) → Apart order y (map f (in_order key xs))
  apart_sorted y [] h = tt
  apart_sorted y (x ∷ xs) h = apart_put y x (in_order key xs) h.0 (apart_sorted y xs h.1)

  -- no two are of one place in the order
  abbrev pub AllApart : List X → Type 0
  AllApart [] = Unit {0}
  AllApart (x ∷ xs) = Apart order (f x) (map f xs) × AllApart xs

  pub read_back : (xs : List X) → AllApart xs → in_order order (map f (in_order key xs)) ≡ in_order order (map f xs)
  read_back [] h = refl
  read_back (x ∷ xs) h =
      put_back x (in_order key xs) (apart_sorted (f x) xs h.0) ∙ ap (put_in_order order (f x)) (read_back xs h.1)

module _ {A : Type 0} (period : Period) (table : Text) where
  abbrev held : Row A → Held A
  held row = record { table = table; row = row }

  abbrev row_of : Held A → Row A
  row_of h = h.row

  rows_apart : (x : Row A) (rows : List (Row A)) → All (λ later. IsTrue (comes_before (scan_key period x) (scan_key period later))) rows
      → Apart (scan_key period) x (map row_of (map held rows))
  rows_apart x [] h = tt
  rows_apart x (y ∷ ys) h =
      let P : Row A → Type 0 = λ later. IsTrue (comes_before (scan_key period x) (scan_key period later)) in (
        λ e. differ (R (scan_key period x) (scan_key period y)) (R (scan_key period y) (scan_key period x)) (turned (scan_key period x) (scan_key period y)) (All-head P y ys h) e,
        rows_apart x ys (All-tail P y ys h),
      )
    where
      differ : (o p : Ordering) → p ≡ ordering_reverse o → is_lt o ≡ true → p ≡ Equal → ⊥
      differ Less p e h k = cc
      differ Equal p e h k = cc
      differ Greater p e h k = cc

  all_apart : (rows : List (Row A)) → InScanOrder period rows → AllApart row_of full_name (scan_key period) (map held rows)
  all_apart [] h = tt
  all_apart (x ∷ xs) h = (rows_apart x xs h.0, all_apart xs h.1)

  pub there_and_back : (rows : List (Row A)) → map row_of (map held rows) ≡ rows
  there_and_back [] = refl
  there_and_back (x ∷ xs) = ap (λ ys. x ∷ ys) (there_and_back xs)

  -- what is read of a table, in scan order, is what passes of its content
  pub seen_is : (test : Row A → Bool) (all : List (Held A)) (rows : List (Row A)) → filter (λ (h : Held A). same h.table table) all ≡ map held rows → InScanOrder period rows
      → in_order (scan_key period) (filter test (map row_of (filter (λ (h : Held A). same h.table table) (in_order full_name all)))) ≡ filter test rows
  seen_is test all rows is sorted =
      let S = scan_key {A = A} period in
      let mine : Held A → Bool = λ h. same h.table table in
      let back : in_order S (map row_of (in_order full_name (map held rows))) ≡ rows =
      read_back row_of full_name S (map held rows) (all_apart rows sorted) ∙ ap (in_order S) (there_and_back rows) ∙ in_order_already period rows sorted in
      sym (filter_in_order S test (map row_of (filter mine (in_order full_name all))))
      ∙ ap (λ xs. filter test (in_order S (map row_of xs))) (filter_in_order full_name mine all ∙ ap (in_order full_name) is)
      ∙ ap (filter test) back

-- the same for any list, where what the one order tells apart the other does
module _ {X Y : Type 0} (f : X → Y) (key : X → List Text) (order : Y → List Text)
    (tells : (x z : X) → comes_before (key z) (key x) ≡ true → R (order (f z)) (order (f x)) ≡ Equal → ⊥) where
  put_back_always : (x : X) (zs : List X) → in_order order (map f (put_in_order key x zs)) ≡ put_in_order order (f x) (in_order order (map f zs))
  put_back_always x [] = refl
  put_back_always x (z ∷ zs) = at (comes_before (key z) (key x)) refl (put_back_always x zs)
    where
      at : (b : Bool) → comes_before (key z) (key x) ≡ b → in_order order (map f (put_in_order key x zs)) ≡ put_in_order order (f x) (in_order order (map f zs))
          → in_order order (map f (put_in_order key x (z ∷ zs))) ≡ put_in_order order (f x) (in_order order (map f (z ∷ zs)))
      at true e ih =
          let whole = ap (put_in_order order (f z)) ih ∙ put_swap order (f z) (f x) (in_order order (map f zs)) (tells x z e) in
          simp (e, whole)
      at false e ih = simp e

  pub read_back_always : (xs : List X) → in_order order (map f (in_order key xs)) ≡ in_order order (map f xs)
  read_back_always [] = refl
  read_back_always (x ∷ xs) = put_back_always x (in_order key xs) ∙ ap (put_in_order order (f x)) (read_back_always xs)
