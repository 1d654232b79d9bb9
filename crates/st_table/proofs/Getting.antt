-- Reading by labels what stands by names.
use Rattle.std.proofs.Common.{◌≡◌, List, [], ◌∷◌, filter, map, Bool, true, false, ◌&&◌, refl, sym, ap, ◌∙◌, subst}
use Rattle.std.proofs.lemmas.Map.Lookups.{exact_bytes}
use Rattle.std.specs.Cmp.Lexicographic.{slice_cmp}
use Rattle.std.specs.Ordering.{nat_cmp, ordering_then}
use Rattle.std.specs.declared.cmp.Ordering.{Ordering}
use Rattle.std.specs.declared.cmp.Ordering.TheVariants.{Less, Equal, Greater}
use Rattle.st_text.specs.Texts.{Text, same, in_order}
use Rattle.st_text.proofs.Resorting.{Apart, R, filter_in_order}
use Rattle.st_text.proofs.Same.{same-eq, same-refl}
use Rattle.st_index.specs.declared.row.Row.{Row}
use Rattle.st_table.specs.Rows.{Held, full_name}
use Rattle.st_table.specs.Table.{is_named, rows_by_label}
use Rattle.st_table.specs.inner.Once.{HasEachOnce}
use Rattle.st_table.proofs.Reading.{AllApart, read_back}
use Rattle.st_table.proofs.Storing.{once_head, once_tail}

filter_map : {X Y : Type 0} (f : X → Y) (p : Y → Bool) (xs : List X) → filter p (map f xs) ≡ map f (filter (λ x. p (f x)) xs)
filter_map f p [] = refl
filter_map {X} f p (x ∷ xs) = at (p (f x)) refl (filter_map f p xs)
  where
    at : (b : Bool) → p (f x) ≡ b → filter p (map f xs) ≡ map f (filter (λ y. p (f y)) xs) → filter p (map f (x ∷ xs)) ≡ map f (filter (λ y. p (f y)) (x ∷ xs))
    at true e ih = simp (e, ih)
    at false e ih = simp (e, ih)

module _ {A : Type 0} (id : Text) (test : Row A → Bool) where
  abbrev p : Row A → Bool
  p row = same row.id id && test row

  abbrev by_label : Row A → List Text
  by_label row = row.label ∷ []

  of_id : (r : Row A) → p r ≡ true → r.id ≡ id
  of_id r h = same-eq r.id id (first (same r.id id) (test r) h)
    where
      first : (a b : Bool) → (a && b) ≡ true → a ≡ true
      first true b h = refl
      first false b h = cc

  same_label : (x y : Row A) → R (by_label x) (by_label y) ≡ Equal → x.label ≡ y.label
  same_label x y h = at (slice_cmp nat_cmp x.label y.label) refl h
    where
      at : (o : Ordering) → slice_cmp nat_cmp x.label y.label ≡ o → ordering_then o Equal ≡ Equal → x.label ≡ y.label
      at Equal e h = exact_bytes x.label y.label e
      at Less e h = cc
      at Greater e h = cc

  names_it : (r s : Row A) → s.id ≡ r.id → s.label ≡ r.label → is_named r.id r.label s ≡ true
  names_it r s e f =
      let a : same s.id r.id ≡ true = subst (λ t. same s.id t ≡ true) e (same-refl s.id) in
      let b : same s.label r.label ≡ true = subst (λ t. same s.label t ≡ true) f (same-refl s.label) in
      simp (a, b)

  label_apart : (r : Row A) → p r ≡ true → (rows : List (Row A)) → filter (is_named r.id r.label) rows ≡ [] → Apart by_label r (filter p rows)
  label_apart r pr [] none = tt
  label_apart r pr (s ∷ ss) none = at (is_named r.id r.label s) refl (p s) refl (label_apart r pr ss)
    where
      cons_nil : (xs : List (Row A)) → s ∷ xs ≡ [] → ⊥
      cons_nil xs q = cc

      differ : false ≡ true → ⊥
      differ q = cc

      at : (b : Bool) → is_named r.id r.label s ≡ b → (c : Bool) → p s ≡ c → (filter (is_named r.id r.label) ss ≡ [] → Apart by_label r (filter p ss))
          → Apart by_label r (filter p (s ∷ ss))
      at true e c f ih = let t : s ∷ filter (is_named r.id r.label) ss ≡ [] = simp e at none in absurd (cons_nil (filter (is_named r.id r.label) ss) t)
      at false e true f ih =
          let t : filter (is_named r.id r.label) ss ≡ [] = simp e at none in
          let is : filter p (s ∷ ss) ≡ s ∷ filter p ss = simp f in
          subst (λ xs. Apart by_label r xs) (sym is)
          (λ eq. differ (sym e ∙ names_it r s (of_id s f ∙ sym (of_id r pr)) (same_label s r eq)), ih t)
      at false e false f ih =
          let t : filter (is_named r.id r.label) ss ≡ [] = simp e at none in
          let is : filter p (s ∷ ss) ≡ filter p ss = simp f in
          subst (λ xs. Apart by_label r xs) (sym is) (ih t)

  module _ (table : Text) where
    abbrev held : Row A → Held A
    held row = record { table = table; row = row }

    abbrev row_of : Held A → Row A
    row_of h = h.row

    back : (rows : List (Row A)) → map row_of (map held rows) ≡ rows
    back [] = refl
    back (x ∷ xs) = ap (λ ys. x ∷ ys) (back xs)

    labels_apart : (rows : List (Row A)) → HasEachOnce rows → AllApart row_of full_name by_label (map held (filter p rows))
    labels_apart [] once = tt
    labels_apart (r ∷ rs) once = at (p r) refl (labels_apart rs (once_tail r rs once))
      where
        at : (b : Bool) → p r ≡ b → AllApart row_of full_name by_label (map held (filter p rs)) → AllApart row_of full_name by_label (map held (filter p (r ∷ rs)))
        at true e ih =
            let is : filter p (r ∷ rs) ≡ r ∷ filter p rs = simp e in
            subst (λ xs. AllApart row_of full_name by_label (map held xs)) (sym is)
            (subst (λ xs. Apart by_label r xs) (sym (back (filter p rs))) (label_apart r e rs (once_head r rs once)), ih)
        at false e ih =
            let is : filter p (r ∷ rs) ≡ filter p rs = simp e in
            subst (λ xs. AllApart row_of full_name by_label (map held xs)) (sym is) ih

    pub got_is : (all : List (Held A)) (rows : List (Row A)) → filter (λ (h : Held A). same h.table table) all ≡ map held rows → HasEachOnce rows
        → rows_by_label id test (map row_of (filter (λ (h : Held A). same h.table table) (in_order full_name all))) ≡ rows_by_label id test rows
    got_is all rows is once =
        let mine : Held A → Bool = λ h. same h.table table in
        let q : Held A → Bool = λ h. p (row_of h) in
        let sorted : filter mine (in_order full_name all) ≡ in_order full_name (map held rows) = filter_in_order full_name mine all ∙ ap (in_order full_name) is in
        let passing : filter q (in_order full_name (map held rows)) ≡ in_order full_name (map held (filter p rows)) =
        filter_in_order full_name q (map held rows) ∙ ap (in_order full_name) (filter_map held q rows) in
        ap (λ xs. in_order by_label (filter p (map row_of xs))) sorted
        ∙ ap (in_order by_label) (filter_map row_of p (in_order full_name (map held rows)) ∙ ap (map row_of) passing)
        ∙ read_back row_of full_name by_label (map held (filter p rows)) (labels_apart rows once)
        ∙ ap (in_order by_label) (back (filter p rows))
