-- Rows put one after another into a table of no rows.
use Rattle.std.proofs.Common.{◌≡◌, ◌≤◌, length, List, [], ◌∷◌, ◌++◌, filter, Bool, true, false, ◌&&◌, nat_le, refl, sym, ap, ◌∙◌, subst, arith}
use Rattle.std.proofs.lemmas.List.{append_assoc}
use Rattle.std.proofs.lemmas.List.Elements.{filter-append as filter_append}
use Rattle.std.proofs.lemmas.Bool.{le-leb}
use Rattle.std.proofs.lemmas.Map.Lookups.{exact_bytes}
use Rattle.std.specs.Cmp.Lexicographic.{slice_cmp}
use Rattle.std.specs.Ordering.{nat_cmp, ordering_then}
use Rattle.std.specs.declared.cmp.Ordering.{Ordering}
use Rattle.std.specs.declared.cmp.Ordering.TheVariants.{Less, Equal, Greater}
use Rattle.st_key.specs.declared.period.Period.{Period}
use Rattle.st_key.specs.declared.point.Point.{Point}
use Rattle.st_key.specs.Order.{digits_of}
use Rattle.st_box.specs.declared.query.Query.{Query}
use Rattle.st_box.specs.Query.{Makes, is_inside}
use Rattle.st_text.specs.Texts.{Text, same, put_in_order, in_order}
use Rattle.st_text.proofs.Resorting.{Apart, R, filter_in_order, in_order_again, in_order_anywhere}
use Rattle.st_text.proofs.Same.{same-refl}
use Rattle.st_index.specs.declared.row.Row.{Row}
use Rattle.st_index.specs.Order.{scan_key}
use Rattle.st_index.specs.inner.Entries.{name_of}
use Rattle.st_table.specs.Table.{is_named, with_row, without_named}
use Rattle.st_table.specs.inner.Once.{HasEachOnce, rows_with_name}
use Rattle.st_table.proofs.Naming.{none_fails}
use Rattle.st_table.proofs.Replacing.{bears}

-- each point is inside the greatest query
pub inside_all : (q : Query) (p : Point) → Makes 0 2097151 0 2097151 0 19818086399 q → is_inside q p ≡ true
inside_all q p m =
    let x = p.x_in_range in
    let y = p.y_in_range in
    let t = p.t_in_range in
    let x0 : nat_le q.x0 p.x ≡ true = subst (λ n. nat_le n p.x ≡ true) (sym m.0) (le-leb 0 p.x (omega arith)) in
    let x1 : nat_le p.x q.x1 ≡ true = subst (λ n. nat_le p.x n ≡ true) (sym m.1) (le-leb p.x 2097151 (omega (arith, x))) in
    let y0 : nat_le q.y0 p.y ≡ true = subst (λ n. nat_le n p.y ≡ true) (sym m.2) (le-leb 0 p.y (omega arith)) in
    let y1 : nat_le p.y q.y1 ≡ true = subst (λ n. nat_le p.y n ≡ true) (sym m.3) (le-leb p.y 2097151 (omega (arith, y))) in
    let t0 : nat_le q.t0 p.t ≡ true = subst (λ n. nat_le n p.t ≡ true) (sym m.4) (le-leb 0 p.t (omega arith)) in
    let t1 : nat_le p.t q.t1 ≡ true = subst (λ n. nat_le p.t n ≡ true) (sym m.5) (le-leb p.t 19818086399 (omega (arith, t))) in
    all (nat_le q.x0 p.x) (nat_le p.x q.x1) (nat_le q.y0 p.y) (nat_le p.y q.y1) (nat_le q.t0 p.t) (nat_le p.t q.t1) x0 x1 y0 y1 t0 t1
  where
    all : (a b c d e f : Bool) → a ≡ true → b ≡ true → c ≡ true → d ≡ true → e ≡ true → f ≡ true → (a && b && c && d && e && f) ≡ true
    all a b c d e f ha hb hc hd he hf = simp (ha, hb, hc, hd, he, hf)

module _ {A : Type 0} where
  pub filter_inside : (q : Query) (rows : List (Row A)) → ((p : Point) → is_inside q p ≡ true) → filter (λ row. is_inside q row.point) rows ≡ rows
  filter_inside q [] inside = refl
  filter_inside q (r ∷ rs) inside = let e = inside r.point in let ih = filter_inside q rs inside in simp (e, ih)

-- of some rows those that are done are in the table, and the others are left
pub record Puts {A : Type 0} (period : Period) (all rows left : List (Row A)) : Type 0 where
  pub done : List (Row A)
  pub parts : all ≡ done ++ left
  pub is : rows ≡ in_order (scan_key period) done

module _ {A : Type 0} (period : Period) where
  abbrev S : Row A → List Text
  S = scan_key period

  -- rows of the same scan key have the same id and label text
  same_scan : (x y : Row A) → R (S x) (S y) ≡ Equal → is_named y.id y.label x ≡ true
  same_scan x y h = at (slice_cmp nat_cmp (digits_of period x.point) (digits_of period y.point)) refl (slice_cmp nat_cmp x.id y.id) refl (slice_cmp nat_cmp x.label y.label) refl h
    where
      equal : (a b : Text) → slice_cmp nat_cmp a b ≡ Equal → same a b ≡ true
      equal a b e = subst (λ t. same a t ≡ true) (exact_bytes a b e) (same-refl a)

      at : (o : Ordering) → slice_cmp nat_cmp (digits_of period x.point) (digits_of period y.point) ≡ o
          → (p : Ordering) → slice_cmp nat_cmp x.id y.id ≡ p → (q : Ordering) → slice_cmp nat_cmp x.label y.label ≡ q
          → ordering_then o (ordering_then p (ordering_then q Equal)) ≡ Equal → is_named y.id y.label x ≡ true
      at Equal e Equal f Equal g h = let b = equal x.id y.id f in let c = equal x.label y.label g in simp (b, c)
      at Less e p f q g h = cc
      at Greater e p f q g h = cc
      at Equal e Less f q g h = cc
      at Equal e Greater f q g h = cc
      at Equal e Equal f Less g h = cc
      at Equal e Equal f Greater g h = cc

  apart_scan : (r : Row A) (rows : List (Row A)) → filter (is_named r.id r.label) rows ≡ [] → Apart S r rows
  apart_scan r [] none = tt
  apart_scan r (s ∷ ss) none = at (is_named r.id r.label s) refl (apart_scan r ss)
    where
      cons_nil : (xs : List (Row A)) → s ∷ xs ≡ [] → ⊥
      cons_nil xs p = cc

      differ : false ≡ true → ⊥
      differ p = cc

      at : (b : Bool) → is_named r.id r.label s ≡ b → (filter (is_named r.id r.label) ss ≡ [] → Apart S r ss) → Apart S r (s ∷ ss)
      at true e ih = let t : s ∷ filter (is_named r.id r.label) ss ≡ [] = simp e at none in absurd (cons_nil (filter (is_named r.id r.label) ss) t)
      at false e ih =
          let t : filter (is_named r.id r.label) ss ≡ [] = simp e at none in
          (λ eq. differ (sym e ∙ same_scan s r eq), ih t)

  nil_after : (xs : List (Row A)) → xs ++ [] ≡ xs
  nil_after [] = refl
  nil_after (x ∷ xs) = ap (λ ys. x ∷ ys) (nil_after xs)

  ahead : (row : Row A) (done next : List (Row A)) → HasEachOnce (done ++ row ∷ next) → rows_with_name (name_of row) done ≡ []
  ahead row done next once =
      let f : Row A → Bool = is_named row.id row.label in
      let yes = bears (name_of row) row refl in
      let first : filter f (row ∷ next) ≡ row ∷ filter f next = simp yes in
      let is : rows_with_name (name_of row) (done ++ row ∷ next) ≡ filter f done ++ row ∷ filter f next =
      filter_append f done (row ∷ next) ∙ ap (λ xs. filter f done ++ xs) first in
      empty (filter f done) (filter f next) (subst (λ xs. length xs ≤ 1) is (once (name_of row)))
    where
      empty : (xs ys : List (Row A)) → length (xs ++ row ∷ ys) ≤ 1 → xs ≡ []
      empty [] ys h = refl
      empty (x ∷ []) ys h = absurd (omega (arith, h))
      empty (x ∷ z ∷ zs) ys h = absurd (omega (arith, h))

  pub put_next : (all rows left next : List (Row A)) (row : Row A) → HasEachOnce all → Puts period all rows left → left ≡ row ∷ next
      → Puts period all (with_row period row rows) next
  put_next all rows left next row once puts left_is =
      let done = puts.done in
      let parts : all ≡ done ++ row ∷ next = puts.parts ∙ ap (λ xs. done ++ xs) left_is in
      let none : filter (is_named row.id row.label) done ≡ [] = ahead row done next (subst HasEachOnce parts once) in
      let none_sorted : filter (is_named row.id row.label) (in_order S done) ≡ [] = filter_in_order S (is_named row.id row.label) done ∙ ap (in_order S) none in
      let rest : without_named row.id row.label rows ≡ in_order S done =
      ap (without_named row.id row.label) puts.is ∙ none_fails (is_named row.id row.label) (in_order S done) none_sorted in
      record {
        done = done ++ row ∷ [];
        parts = parts ∙ sym (append_assoc done (row ∷ []) next);
        is = ap (λ xs. put_in_order S row (in_order S xs)) rest ∙ ap (put_in_order S row) (in_order_again S done)
            ∙ ap (λ xs. put_in_order S row (in_order S xs)) (sym (nil_after done))
            ∙ sym (in_order_anywhere S done row [] (apart_scan row done none));
      }

  pub put_none : (all : List (Row A)) → Puts period all [] all
  put_none all = record { done = []; parts = refl; is = refl }

  pub put_whole : (all rows left : List (Row A)) → Puts period all rows left → left ≡ [] → rows ≡ in_order S all
  put_whole all rows left puts over =
      let parts : all ≡ puts.done = puts.parts ∙ ap (λ xs. puts.done ++ xs) over ∙ nil_after puts.done in
      puts.is ∙ ap (in_order S) (sym parts)
