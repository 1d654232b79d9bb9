-- Rows of all tables, in the order of their full names.
use Rattle.std.proofs.Common.{◌≡◌, List, [], ◌∷◌, ◌++◌, filter, Bool, true, false, not, refl, sym, ap, ◌∙◌, subst}
use Rattle.std.proofs.lemmas.Map.Lookups.{exact_bytes}
use Rattle.std.specs.Cmp.Lexicographic.{slice_cmp}
use Rattle.std.specs.Ordering.{nat_cmp, ordering_then}
use Rattle.std.specs.declared.cmp.Ordering.{Ordering}
use Rattle.std.specs.declared.cmp.Ordering.TheVariants.{Less, Equal, Greater}
use Rattle.st_text.specs.Texts.{Text, same, put_in_order, in_order}
use Rattle.st_text.proofs.Resorting.{Apart, R, filter_in_order, in_order_again, in_order_anywhere}
use Rattle.st_text.proofs.Same.{same-refl}
use Rattle.st_table.specs.Rows.{Held, is_held, without_row, full_name, put_row}

module _ {A : Type 0} where
  -- rows of the same full name are of the same table, id and label
  pub same_full : (x y : Held A) → R (full_name x) (full_name y) ≡ Equal → is_held y.table y.row.id y.row.label x ≡ true
  same_full x y h =
      at (slice_cmp nat_cmp x.table y.table) refl (slice_cmp nat_cmp x.row.id y.row.id) refl (slice_cmp nat_cmp x.row.label y.row.label) refl h
    where
      equal : (a b : Text) → slice_cmp nat_cmp a b ≡ Equal → same a b ≡ true
      equal a b e = subst (λ t. same a t ≡ true) (exact_bytes a b e) (same-refl a)

      at : (o : Ordering) → slice_cmp nat_cmp x.table y.table ≡ o → (p : Ordering) → slice_cmp nat_cmp x.row.id y.row.id ≡ p → (q : Ordering) → slice_cmp nat_cmp x.row.label y.row.label ≡ q
          → ordering_then o (ordering_then p (ordering_then q Equal)) ≡ Equal → is_held y.table y.row.id y.row.label x ≡ true
      at Equal e Equal f Equal g h =
          let a = equal x.table y.table e in
          let b = equal x.row.id y.row.id f in
          let c = equal x.row.label y.row.label g in
          simp (a, b, c)
      at Less e p f q g h = cc
      at Greater e p f q g h = cc
      at Equal e Less f q g h = cc
      at Equal e Greater f q g h = cc
      at Equal e Equal f Less g h = cc
      at Equal e Equal f Greater g h = cc

  -- each passes
  abbrev Each : (Held A → Bool) → List (Held A) → Type 0
  Each p [] = Unit {0}
  Each p (x ∷ xs) = (p x ≡ true) × Each p xs

  each_filter : (p : Held A → Bool) (xs : List (Held A)) → Each p (filter p xs)
  each_filter p [] = tt
  each_filter p (x ∷ xs) = at (p x) refl (each_filter p xs)
    where
      at : (b : Bool) → p x ≡ b → Each p (filter p xs) → Each p (filter p (x ∷ xs))
      at true e ih = rw e (e, ih)
      at false e ih = rw e ih

  each_front : (p : Held A → Bool) (front back : List (Held A)) → Each p (front ++ back) → Each p front
  each_front p [] back h = tt
  each_front p (x ∷ xs) back h = (h.0, each_front p xs back h.1)

  each_apart : (held : Held A) (front : List (Held A)) → Each (λ other. not (is_held held.table held.row.id held.row.label other)) front → Apart full_name held front
  each_apart held [] h = tt
  each_apart held (x ∷ xs) h = (λ e. differ (is_held held.table held.row.id held.row.label x) (same_full x held e) h.0, each_apart held xs h.1)
    where
      differ : (b : Bool) → b ≡ true → not b ≡ true → ⊥
      differ true e f = cc
      differ false e f = cc

  pub put_anywhere_is : (held : Held A) (rows front back : List (Held A)) → front ++ back ≡ without_row held.table held.row.id held.row.label rows
      → in_order full_name (front ++ held ∷ back) ≡ put_row held (in_order full_name rows)
  put_anywhere_is held rows front back h =
      let q : Held A → Bool = λ other. not (is_held held.table held.row.id held.row.label other) in
      let passes : Each q (front ++ back) = subst (Each q) (sym h) (each_filter q rows) in
      let again : in_order full_name (filter q (in_order full_name rows)) ≡ in_order full_name (filter q rows) =
      ap (in_order full_name) (filter_in_order full_name q rows) ∙ in_order_again full_name (filter q rows) in
      in_order_anywhere full_name front held back (each_apart held front (each_front q front back passes))
      ∙ ap (λ xs. put_in_order full_name held (in_order full_name xs)) h
      ∙ ap (put_in_order full_name held) (sym again)
