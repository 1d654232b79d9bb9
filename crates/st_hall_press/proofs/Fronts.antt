-- Beginnings of one list.
use Rattle.std.proofs.Common.{◌≡◌, ◌⊎◌, inl, inr, ℕ, zero, suc, ◌-◌, ◌==◌, ◌<◌, ◌≤◌, true, List, [], ◌∷◌, ◌++◌, length, Some, slice_get, refl, ap, subst, sym, ◌∙◌, arith, append_assoc, length-append}
use Rattle.std.proofs.lemmas.Bool.Decides.{nat_tests}
use Rattle.std.specs.Prelude.{Option, Result, Ok, Err, IfSome, MatchResult}
use mathlib.Core.List.{IsPrefix}
use Rattle.st_hall_press.specs.Steps.{Ask, HallState, Response}
use Rattle.st_hall_press.specs.Views.{Post, Seat, EndsAfter, Learns}

-- each list begins with itself
pub prefix_self : {A : Type 0} (xs : List A) → IsPrefix xs xs
prefix_self [] = ([], refl)
prefix_self (x ∷ xs) = (let r = prefix_self xs in r.0, ap (λ ys. x ∷ ys) (prefix_self xs).1)

pub prefix_trans : {A : Type 0} (xs ys zs : List A) → IsPrefix xs ys → IsPrefix ys zs → IsPrefix xs zs
prefix_trans xs ys zs p q = (p.0 ++ q.0, sym (append_assoc xs p.0 q.0) ∙ (ap (λ w. w ++ q.0) p.1 ∙ q.1))

-- of two beginnings of one list the shorter begins the longer
pub prefix_shorter : {A : Type 0} (xs ys zs : List A) → IsPrefix xs zs → IsPrefix ys zs → length xs ≤ length ys → IsPrefix xs ys
prefix_shorter [] ys zs p q le = (ys, refl)
prefix_shorter (x ∷ xs) [] zs p q le = absurd (omega arith)
prefix_shorter (x ∷ xs) (y ∷ ys) [] p q le = absurd (cc (p.1))
prefix_shorter (x ∷ xs) (y ∷ ys) (z ∷ zs) p q le =
    let heads : x ≡ y = cc (p.1, q.1) in
    let rest = prefix_shorter xs ys zs (p.0, cc (p.1)) (q.0, cc (q.1)) (omega arith) in
    (rest.0, cc (heads, rest.1))

-- a beginning as long as the whole is the whole
pub prefix_whole : {A : Type 0} (xs ys : List A) → IsPrefix xs ys → length ys ≤ length xs → xs ≡ ys
prefix_whole [] [] p le = refl
prefix_whole [] (y ∷ ys) p le = absurd (omega arith)
prefix_whole (x ∷ xs) [] p le = absurd (cc (p.1))
prefix_whole (x ∷ xs) (y ∷ ys) p le =
    let rest = prefix_whole xs ys (p.0, cc (p.1)) (omega arith) in cc (p.1, rest)

pub prefix_length : {A : Type 0} (xs ys : List A) → IsPrefix xs ys → length xs ≤ length ys
prefix_length xs ys p = omega (arith, sym (ap length p.1) ∙ length-append xs p.0)

-- what stands in a beginning stands in the whole, at the same place
pub prefix_get : {A : Type 0} (xs ys : List A) (k : ℕ) (x : A) → IsPrefix xs ys → slice_get xs k ≡ Some x → slice_get ys k ≡ Some x
prefix_get [] ys k x p h = absurd cc
prefix_get (y ∷ xs) [] k x p h = absurd (cc (p.1))
prefix_get (y ∷ xs) (z ∷ ys) zero x p h = cc (p.1, h)
prefix_get (y ∷ xs) (z ∷ ys) (suc k) x p h = prefix_get xs ys k x (p.0, cc (p.1)) h

one_more : {A : Type 0} (xs ys rest : List A) → xs ++ rest ≡ ys → length rest ≡ 1 → (x : A) × (ys ≡ xs ++ x ∷ [])
one_more xs ys [] is one = absurd (omega arith)
one_more xs ys (x ∷ []) is one = (x, sym is)
one_more xs ys (x ∷ (y ∷ more)) is one = absurd (omega arith)

-- a list that another begins, and that is longer by one, goes on by one
pub after_by_one : {A : Type 0} (xs ys : List A) (n m : ℕ) → (length xs ≤ length ys → IsPrefix xs ys) → n ≡ length ys → m ≡ length xs → m < n
    → (n - m == 1) ≡ true → (x : A) × (ys ≡ xs ++ x ∷ [])
after_by_one xs ys n m begins is_n is_m less one =
    let by : n - m ≡ 1 = grind (arith, nat_tests) in
    let p = begins (omega (arith, is_n, is_m, less)) in
    one_more xs ys p.0 p.1 (omega (arith, is_n, is_m, less, by, ap length p.1, length-append xs p.0))

-- one of two beginnings of a list begins it
pub one_begins : {A : Type 0} (xs ys zs ws : List A) → (xs ≡ ys) ⊎ (xs ≡ zs) → IsPrefix ys ws → IsPrefix zs ws → IsPrefix xs ws
one_begins xs ys zs ws (inl is) p q = subst (λ l. IsPrefix l ws) (sym is) p
one_begins xs ys zs ws (inr is) p q = subst (λ l. IsPrefix l ws) (sym is) q

-- what is learnt of a receipt is its front
pub learns_front : (start : HallState) (seen learnt later : List Ask) (a : Ask) (front : Option (List Ask)) (told reply : Response)
    → (later ≡ learnt) ⊎ (front ≡ Some later) → IfSome front (λ f. EndsAfter start seen f a told) → reply ≡ told
    → (later ≡ learnt) ⊎ EndsAfter start seen later a reply
learns_front start seen learnt later a front told reply (inl same) ends is = inl same
learns_front start seen learnt later a front told reply (inr some) ends is =
    inr (subst (λ (r : Response). EndsAfter start seen later a r) (sym is)
    (subst (λ (o : Option (List Ask)). IfSome o (λ f. EndsAfter start seen f a told)) some ends))

-- what is learnt by a change goes on what was seen
pub learns_change : {E : Type 0} (start : HallState) (s t : Post) (a : Ask) (r : Result Response E)
    → MatchResult r (λ x. (t.learnt ≡ s.learnt) ⊎ EndsAfter start s.seat.seen t.learnt a x) (λ _. t.learnt ≡ s.learnt)
    → IsPrefix t.learnt t.seat.seen → Learns s t
learns_change start s t a (Ok x) (inl same) knows = inl same
learns_change start s t a (Ok x) (inr (before, on, is, told)) knows = inr (prefix_trans s.seat.seen before t.learnt on (a ∷ [], sym is), knows)
learns_change start s t a (Err e) same knows = inl same

-- a post that differs only in its calls learns as much
pub learns_from : (s u t : Post) → u.learnt ≡ s.learnt → u.seat ≡ s.seat → Learns u t → Learns s t
learns_from s u t learnt seat (inl same) = inl (same ∙ learnt)
learns_from s u t learnt seat (inr (on, knows)) = inr (subst (λ (x : Seat). IsPrefix x.seen t.learnt) seat on, knows)
