-- Putting a row in place of the one of its name.
use Rattle.std.proofs.Common.{◌≡◌, ℕ, ◌<◌, List, [], ◌∷◌, ◌++◌, filter, Bool, true, false, not, ◌&&◌, Option, Some, None, refl, sym, ap, ◌∙◌, subst, arith, get_or}
use Rattle.std.specs.List.{All}
use Rattle.std.specs.Prelude.{IfSome, IfNone}
use Rattle.std.proofs.lemmas.Bool.{eqb-true, eq-eqb}
use Rattle.std.proofs.Math.Dec.{eqb}
use Rattle.std.proofs.lemmas.List.Elements.{All-head, All-tail, All-cons, filter-append as filter_append}
use Rattle.st_key.specs.declared.period.Period.{Period}
use Rattle.st_text.specs.Texts.{same, in_order}
use Rattle.st_text.proofs.Same.{same-eq, same-refl}
use Rattle.st_index.specs.declared.row.Row.{Row}
use Rattle.st_index.specs.inner.Index.{Adds, Swaps, Holds, IsAbsent}
use Rattle.st_index.specs.Order.{InScanOrder, scan_key}
use Rattle.st_index.specs.inner.Entries.{Name, name_of, key_end, rank_of}
use Rattle.st_index.proofs.Scanning.{scan_apart}
use Rattle.st_table.specs.Table.{is_named, with_row, without_named}
use Rattle.st_table.specs.inner.Once.{rows_with_name}
use Rattle.st_table.specs.inner.Found.{IsAt}
use Rattle.st_table.proofs.Naming.{Passing, both_fail, cut_fails, none_fails, one}
use Rattle.st_index.proofs.Sorting.{all_without, middle, rank_below, placed, scan_filter}

module _ {A : Type 0} where
  -- a row that bears the name is named so
  pub named : (name : Name) (r : Row A) → is_named name.id name.label r ≡ true → name_of r ≡ name
  named name r h =
      let p = both (same r.id name.id) (same r.label name.label) h in
      let id = same-eq r.id name.id p.0 in
      let label = same-eq r.label name.label p.1 in
      λ i. record { id = id i; label = label i }
    where
      both : (a b : Bool) → (a && b) ≡ true → (a ≡ true) × (b ≡ true)
      both true b h = (refl, h)
      both false b h = cc

  pub bears : (name : Name) (r : Row A) → name_of r ≡ name → is_named name.id name.label r ≡ true
  bears name r e =
      let id = ap (λ (n : Name). n.id) e in
      let label = ap (λ (n : Name). n.label) e in
      let p : same r.id name.id ≡ true = subst (λ t. same r.id t ≡ true) id (same-refl r.id) in
      let q : same r.label name.label ≡ true = subst (λ t. same r.label t ≡ true) label (same-refl r.label) in
      simp (p, q)

  -- no row of the name, so none of its place and name
  pub none_absent : (period : Period) (place : ℕ) (name : Name) (rows : List (Row A)) → rows_with_name name rows ≡ [] → IsAbsent period place name rows
  none_absent period place name [] h = λ k d l p n. absurd (omega (arith, l))
  none_absent period place name (r ∷ rs) h = at (is_named name.id name.label r) refl (none_absent period place name rs)
    where
      cons_nil : (x : Row A) (ys : List (Row A)) → x ∷ ys ≡ [] → ⊥
      cons_nil x ys p = cc

      at : (b : Bool) → is_named name.id name.label r ≡ b → (rows_with_name name rs ≡ [] → IsAbsent period place name rs) → IsAbsent period place name (r ∷ rs)
      at true e ih = let t : r ∷ rows_with_name name rs ≡ [] = simp e at h in absurd (cons_nil r (rows_with_name name rs) t)
      at false e ih =
          let t : rows_with_name name rs ≡ [] = simp e at h in
          All-cons (λ (s : Row A). rank_of period s ≡ place → name_of s ≡ name → ⊥) r rs
          (λ p n. differ (sym e ∙ bears name r n)) (ih t)
        where
          differ : false ≡ true → ⊥
          differ p = cc

passing_all : {X : Type 0} (f g : X → Bool) (xs : List X) → Passing g (filter f xs) → All (λ x. f x ≡ true → g x ≡ true) xs
passing_all f g [] h = λ k d l. absurd (omega (arith, l))
passing_all {X} f g (x ∷ xs) h = at (f x) refl (passing_all f g xs)
  where
    at : (b : Bool) → f x ≡ b → (Passing g (filter f xs) → All (λ y. f y ≡ true → g y ≡ true) xs) → All (λ y. f y ≡ true → g y ≡ true) (x ∷ xs)
    at true e ih =
        let t : (g x ≡ true) × Passing g (filter f xs) = simp e at h in
        All-cons (λ y. f y ≡ true → g y ≡ true) x xs (λ _. t.0) (ih t.1)
    at false e ih =
        let t : Passing g (filter f xs) = simp e at h in
        All-cons (λ y. f y ≡ true → g y ≡ true) x xs (λ y. never (sym e ∙ y)) (ih t)
      where
        never : false ≡ true → g x ≡ true
        never p = cc

filter_all : {X : Type 0} (p : X → Bool) (xs : List X) → All (λ x. p x ≡ true) xs → filter p xs ≡ xs
filter_all p [] h = refl
filter_all p (x ∷ xs) h =
    let e = All-head (λ y. p y ≡ true) x xs h in
    let ih = filter_all p xs (All-tail (λ y. p y ≡ true) x xs h) in
    simp (e, ih)

filter_drop : {X : Type 0} (p : X → Bool) (front : List X) (x : X) (back : List X) → p x ≡ false → filter p (front ++ x ∷ back) ≡ filter p (front ++ back)
filter_drop p [] x back e = simp e
filter_drop p (f ∷ fs) x back e = at (p f) refl (filter_drop p fs x back e)
  where
    at : (b : Bool) → p f ≡ b → filter p (fs ++ x ∷ back) ≡ filter p (fs ++ back) → filter p (f ∷ (fs ++ x ∷ back)) ≡ filter p (f ∷ (fs ++ back))
    at true g ih = simp (g, ih)
    at false g ih = simp (g, ih)

module _ {A : Type 0} (period : Period) where
  abbrev stands : ℕ → Row A → Bool
  stands k r = eqb (rank_of period r) k

  abbrev f : Name → Row A → Bool
  f name = is_named name.id name.label

  -- the row of the name stands elsewhere
  pub elsewhere : (k place : ℕ) (name : Name) (rows : List (Row A)) → IsAt period k name rows → (place ≡ k → ⊥) → IsAbsent period place name rows
  elsewhere k place name rows h ne =
      let yes : stands k h.row ≡ true = eq-eqb (rank_of period h.row) k h.placed in
      let all = passing_all (f name) (stands k) rows (subst (Passing (stands k)) (sym h.only) (yes, tt)) in
      λ i d l p n. ne (sym p ∙ eqb-true (rank_of period (get_or rows i d)) k (all i d l (bears name (get_or rows i d) n)))

  pub holds : (k : ℕ) (name : Name) (rows : List (Row A)) → IsAt period k name rows → Holds period k name rows
  holds k name rows h =
      let o = one (f name) rows h.row h.only in
      record { row = h.row; front = o.front; back = o.back; is = o.is; placed = h.placed; named = named name h.row o.passes }

  pub reached : (k : ℕ) (name : Name) (rows : List (Row A)) → IsAt period k name rows → k < key_end period
  reached k name rows h = subst (λ n. n < key_end period) h.placed (rank_below period h.row)

  -- a row that is held is still there when another was put in
  pub not_absent : (k : ℕ) (name : Name) (row : Row A) (old mid : List (Row A)) → IsAt period k name old → Adds row old mid → IsAbsent period k name mid → ⊥
  not_absent k name row old mid h adds absent =
      let P : Row A → Type 0 = λ r. rank_of period r ≡ k → name_of r ≡ name → ⊥ in
      let all = all_without period adds.front row adds.back P (subst (All P) adds.new_is absent) in
      let at = holds k name old h in
      middle period at.front at.row at.back P (subst (All P) (sym adds.old_is ∙ at.is) all) at.placed at.named

  pub put_new : (row : Row A) (old new : List (Row A)) → Adds row old new → InScanOrder period new → rows_with_name (name_of row) old ≡ []
      → new ≡ with_row period row old
  put_new row old new adds sorted none =
      let rest : without_named row.id row.label old ≡ adds.front ++ adds.back = none_fails (f (name_of row)) old none ∙ adds.old_is in
      adds.new_is ∙ placed period adds.front row adds.back (subst (InScanOrder period) adds.new_is sorted)
      ∙ ap (λ xs. in_order (scan_key period) (row ∷ xs)) (sym rest)

  pub put_same : (k : ℕ) (row out : Row A) (old new : List (Row A)) → Swaps out row old new → InScanOrder period new → IsAt period k (name_of row) old → name_of out ≡ name_of row
      → new ≡ with_row period row old
  put_same k row out old new swaps sorted at same_name =
      let only = subst (λ xs. rows_with_name (name_of row) xs ≡ at.row ∷ []) swaps.old_is at.only in
      let rest : without_named row.id row.label old ≡ swaps.front ++ swaps.back =
      ap (without_named row.id row.label) swaps.old_is ∙ cut_fails (f (name_of row)) swaps.front out swaps.back at.row (bears (name_of row) out same_name) only in
      swaps.new_is ∙ placed period swaps.front row swaps.back (subst (InScanOrder period) swaps.new_is sorted)
      ∙ ap (λ xs. in_order (scan_key period) (row ∷ xs)) (sym rest)

  stays : (k : ℕ) (name : Name) (r : Row A) → (rank_of period r ≡ k → name_of r ≡ name → ⊥) → not (f name r && stands k r) ≡ true
  stays k name r never = at (f name r) refl (stands k r) refl
    where
      at : (a : Bool) → f name r ≡ a → (b : Bool) → stands k r ≡ b → not (f name r && stands k r) ≡ true
      at true e true g = absurd (never (eqb-true (rank_of period r) k g) (named name r e))
      at true e false g = simp (e, g)
      at false e b g = simp e

  pub put_moved : (k : ℕ) (row out : Row A) (old mid new : List (Row A)) → Adds row old mid → InScanOrder period mid → IsAt period k (name_of row) old
      → Adds out new mid → rank_of period out ≡ k → name_of out ≡ name_of row → (rank_of period row ≡ k → ⊥) → new ≡ with_row period row old
  put_moved k row out old mid new adds sorted at gone is_at same_name ne =
      let name : Name = name_of row in
      let p : Row A → Bool = λ r. not (f name r && stands k r) in
      let apart = scan_apart period gone.front out gone.back (subst (InScanOrder period) gone.new_is sorted) in
      let others : All (λ r. p r ≡ true) (gone.front ++ gone.back) = λ i d l. stays k name (get_or (gone.front ++ gone.back) i d) (λ q n. apart i d l (q ∙ sym is_at) (n ∙ sym same_name)) in
      let out_named = bears name out same_name in
      let out_there = eq-eqb (rank_of period out) k is_at in
      let dropped : p out ≡ false = simp (out_named, out_there) in
      let left : filter p mid ≡ new = ap (filter p) gone.new_is ∙ filter_drop p gone.front out gone.back dropped ∙ filter_all p (gone.front ++ gone.back) others ∙ sym gone.old_is in
      let kept : p row ≡ true = stays k name row (λ q n. ne q) in
      let yes : filter p (row ∷ adds.back) ≡ row ∷ filter p adds.back = simp kept in
      let around : filter p mid ≡ filter p adds.front ++ row ∷ filter p adds.back =
      ap (filter p) adds.new_is ∙ filter_append p adds.front (row ∷ adds.back) ∙ ap (λ xs. filter p adds.front ++ xs) yes in
      let there : stands k at.row ≡ true = eq-eqb (rank_of period at.row) k at.placed in
      let rest : filter p adds.front ++ filter p adds.back ≡ without_named row.id row.label old =
      sym (filter_append p adds.front adds.back) ∙ ap (filter p) (sym adds.old_is)
      ∙ both_fail (f name) (stands k) old (subst (Passing (stands k)) (sym at.only) (there, tt)) in
      sym left ∙ around ∙ placed period (filter p adds.front) row (filter p adds.back) (subst (InScanOrder period) around (scan_filter period p mid sorted))
      ∙ ap (λ xs. in_order (scan_key period) (row ∷ xs)) rest

  -- a row put in, and what stood under its name taken out of another place
  pub put_away : (p : Period) (k : ℕ) (name : Name) (row : Row A) (old mid new : List (Row A)) (o : Option (Row A)) → p ≡ period → name ≡ name_of row
      → Adds row old mid → InScanOrder p mid → IsAt period k (name_of row) old → (rank_of period row ≡ k → ⊥)
      → IfSome o (λ out. Adds out new mid) → IfSome o (λ out. rank_of p out ≡ k) → IfSome o (λ out. name_of out ≡ name) → IfNone o (IsAbsent p k name mid)
      → new ≡ with_row period row old
  put_away p k name row old mid new (Some out) same_period same_name adds sorted at ne gone is_at is_named absent =
      put_moved k row out old mid new adds (subst (λ q. InScanOrder q mid) same_period sorted) at gone
      (ap (λ q. rank_of q out) (sym same_period) ∙ is_at) (is_named ∙ same_name) ne
  put_away p k name row old mid new None same_period same_name adds sorted at ne gone is_at is_named absent =
      absurd (not_absent k (name_of row) row old mid at adds (subst (λ q. IsAbsent q k (name_of row) mid) same_period (subst (λ n. IsAbsent p k n mid) same_name absent)))
