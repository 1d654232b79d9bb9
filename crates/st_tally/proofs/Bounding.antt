-- Counts of rows between bounds.
use Rattle.std.proofs.Common.{◌≡◌, ℕ, List, [], ◌∷◌, Bool, true, false, cond, ◌&&◌, nat_le, refl, ap, arith}
use Rattle.std.proofs.lemmas.Bool.{leb-true, le-leb, and_parts, and_from}
use Rattle.std.proofs.lemmas.List.Elements.{All-head, All-tail}
use Rattle.std.proofs.lemmas.List.Sums.{sum_by-cons}
use Rattle.std.specs.List.{All, count_by}
use Rattle.st_key.specs.declared.point.Point.{Point}
use Rattle.st_box.specs.declared.query.Query.{Query}
use Rattle.st_box.specs.Query.{is_inside}
use Rattle.st_box.proofs.Bounds.{has, holds}
use Rattle.st_text.specs.Texts.{Text}
use Rattle.st_index.specs.declared.row.Row.{Row}
use Rattle.st_index.specs.inner.Counting.{count_of, is_counted}
use Rattle.st_tally.specs.declared.bounds.Bounds.{Bounds}
use Rattle.st_tally.specs.inner.Sums.{AreInside, IsWithin, labelled, lies_in, meets}

pub inside_meets : (b : Bounds) (q : Query) (p : Point) → IsWithin b p → is_inside q p ≡ true → meets b q ≡ true
inside_meets b q p w h =
    let i = has q p h in
    let x0 = le-leb b.x0 q.x1 (let a = w.x_from in let c = i.x_to in omega (arith, a, c)) in
    let x1 = le-leb q.x0 b.x1 (let a = i.x_from in let c = w.x_to in omega (arith, a, c)) in
    let y0 = le-leb b.y0 q.y1 (let a = w.y_from in let c = i.y_to in omega (arith, a, c)) in
    let y1 = le-leb q.y0 b.y1 (let a = i.y_from in let c = w.y_to in omega (arith, a, c)) in
    let t0 = le-leb b.t0 q.t1 (let a = w.t_from in let c = i.t_to in omega (arith, a, c)) in
    let t1 = le-leb q.t0 b.t1 (let a = i.t_from in omega (arith, a, w.t_to)) in
    and_from _ (nat_le q.t0 b.t1) (and_from _ (nat_le b.t0 q.t1) (and_from _ (nat_le q.y0 b.y1) (and_from _ (nat_le b.y0 q.y1) (and_from (nat_le b.x0 q.x1) (nat_le q.x0 b.x1) x0 x1) y0) y1) t0) t1

pub lies_inside : (b : Bounds) (q : Query) (p : Point) → IsWithin b p → lies_in b q ≡ true → is_inside q p ≡ true
lies_inside b q p w h =
    let t1 = and_parts _ (nat_le b.t1 q.t1) h in
    let t0 = and_parts _ (nat_le q.t0 b.t0) t1.0 in
    let y1 = and_parts _ (nat_le b.y1 q.y1) t0.0 in
    let y0 = and_parts _ (nat_le q.y0 b.y0) y1.0 in
    let x = and_parts (nat_le q.x0 b.x0) (nat_le b.x1 q.x1) y0.0 in
    holds q p (record {
      x_from = omega (arith, leb-true q.x0 b.x0 x.0, w.x_from);
      x_to = omega (arith, leb-true b.x1 q.x1 x.1, w.x_to);
      y_from = omega (arith, leb-true q.y0 b.y0 y0.1, w.y_from);
      y_to = omega (arith, leb-true b.y1 q.y1 y1.1, w.y_to);
      t_from = omega (arith, leb-true q.t0 b.t0 t0.1, w.t_from);
      t_to = omega (arith, leb-true b.t1 q.t1 t1.1, w.t_to);
    })

module _ {X : Type 0} where
  count_same : (p q : X → Bool) (xs : List X) → All (λ x. p x ≡ q x) xs → count_by p xs ≡ count_by q xs
  count_same p q [] h = refl
  count_same p q (x ∷ xs) h =
      let a = sum_by-cons (λ (y : X). cond (p y) 1 0) x xs in
      let b = sum_by-cons (λ (y : X). cond (q y) 1 0) x xs in
      let c = ap {B = ℕ} (λ t. cond t 1 0) (All-head (λ y. p y ≡ q y) x xs h) in
      let d = count_same p q xs (All-tail (λ y. p y ≡ q y) x xs h) in
      omega (arith, a, b, c, d)

  count_none : (p : X → Bool) (xs : List X) → All (λ x. p x ≡ false) xs → count_by p xs ≡ 0
  count_none p [] h = refl
  count_none p (x ∷ xs) h =
      let a = sum_by-cons (λ (y : X). cond (p y) 1 0) x xs in
      let b = ap {B = ℕ} (λ t. cond t 1 0) (All-head (λ y. p y ≡ false) x xs h) in
      let c = count_none p xs (All-tail (λ y. p y ≡ false) x xs h) in
      omega (arith, a, b, c)

not_and : (a b : Bool) → (a ≡ true → ⊥) → (a && b) ≡ false
not_and true b h = absurd (h refl)
not_and false b h = refl

counted_inside : (a b : Bool) → a ≡ true → (a && b) ≡ b
counted_inside a b h = ap (λ t. t && b) h

module _ {A : Type 0} (b : Bounds) (q : Query) (judges : Text → Bool) (rows : List (Row A)) (within : All (λ (r : Row A). IsWithin b r.point) rows) where
  -- no row is inside a query that the bounds do not meet
  pub none_counted : meets b q ≡ false → count_of q judges rows ≡ 0
  none_counted apart = count_none (is_counted q judges) rows (λ k d l. not_and _ _ (λ h. let m = inside_meets b q _ (within k d l) h in cc))

  -- all rows are inside a query that holds the bounds
  pub all_counted : lies_in b q ≡ true → count_of q judges rows ≡ labelled judges rows
  all_counted lies = count_same (is_counted q judges) (λ (r : Row A). judges r.label) rows (λ k d l. counted_inside _ _ (lies_inside b q _ (within k d l) lies))

  -- and each is inside it
  pub all_inside : lies_in b q ≡ true → AreInside q rows
  all_inside lies = λ k d l. lies_inside b q _ (within k d l) lies
