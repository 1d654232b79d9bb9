-- Regions that are gone over one after the other.
use Rattle.std.proofs.Common.{◌≡◌, ℕ, ◌+◌, ◌-◌, ◌<◌, ◌≤◌, List, [], ◌∷◌, ◌++◌, length, get_or, map, refl, sym, ap, subst, ◌∙◌, suc, zero, arith, append_assoc, Option, Some, None}
use Rattle.std.proofs.lemmas.List.{append-nil}
use Rattle.std.specs.List.{Contains}
use Rattle.st_key.specs.declared.key.Key.{Key}
use Rattle.st_key.specs.declared.period.Period.{Period}
use Rattle.st_key.specs.Period.{bins_of}
use Rattle.st_key.specs.Key.{rank}
use Rattle.st_index.specs.inner.Entries.{key_end}
use Rattle.std.specs.Prelude.{IfNone, IfSome}
use Rattle.st_index.specs.inner.Index.{Follow, Region}
use Rattle.st_index.specs.declared.index.KeyRange.{KeyRange}
use Rattle.st_ubtree.specs.inner.Ranges.{region_in}

-- what is gone over, and what is left from the next key on
pub record IsWalked (hi : ℕ) (all done : List Region) (next : ℕ) : Type 0 where
  pub rest : List Region
  pub all_is : all ≡ done ++ rest
  pub before : Follow 0 next done
  pub after : Follow next hi rest
  pub below : next < hi

abbrev pub Walks : ℕ → List Region → List Region → Option Key → Type 0
Walks hi all done None = done ≡ all
Walks hi all done (Some key) = IsWalked hi all done (rank key)

abbrev pub left : ℕ → Option Key → ℕ
left hi None = 0
left hi (Some key) = hi - rank key

follow_bounds : (lo hi : ℕ) (rs : List Region) → Follow lo hi rs → lo ≤ hi
follow_bounds lo hi [] h = omega (arith, h)
follow_bounds lo hi (r ∷ rs) h = omega (arith, follow_bounds (r.last + 1) hi rs h.2, h.1)

follow_join : (lo mid hi : ℕ) (xs ys : List Region) → Follow lo mid xs → Follow mid hi ys → Follow lo hi (xs ++ ys)
follow_join lo mid hi [] ys a b = subst (λ n. Follow n hi ys) (sym a) b
follow_join lo mid hi (x ∷ xs) ys a b = (a.0, a.1, follow_join (x.last + 1) mid hi xs ys a.2 b)

-- a region that holds the first key of those left is the first of them
found_first : (lo key hi : ℕ) (done rest : List Region) (r : Region) (i : ℕ) (d : Region) → Follow lo key done → Follow key hi rest → key < hi
    → i < length (done ++ rest) → get_or (done ++ rest) i d ≡ r → r.first ≤ key → key ≤ r.last → (rs : List Region) × (rest ≡ r ∷ rs)
found_first lo key hi [] [] r i d a b k l e f t = absurd (omega (arith, l))
found_first lo key hi [] (x ∷ xs) r zero d a b k l e f t = (xs, ap (λ (y : Region). y ∷ xs) e)
found_first lo key hi [] (x ∷ xs) r (suc i) d a b k l e f t = absurd (later (x.last + 1) hi xs i d b.2 (omega (arith, l)) e (let m = b.1 in omega (arith, m)))
  where
    later : (lo hi : ℕ) (ys : List Region) (i : ℕ) (d : Region) → Follow lo hi ys → i < length ys → get_or ys i d ≡ r → key < lo → ⊥
    later lo hi [] i d h l e k = omega (arith, l)
    later lo hi (y ∷ ys) zero d h l e k = let s = ap (λ (z : Region). z.first) e in omega (arith, s, h.0, f, k)
    later lo hi (y ∷ ys) (suc i) d h l e k = later (y.last + 1) hi ys i d h.2 (omega (arith, l)) e (let m = h.1 in omega (arith, m, k))
found_first lo key hi (x ∷ xs) rest r zero d a b k l e f t = absurd (let s = ap (λ (z : Region). z.last) e in omega (arith, s, follow_bounds (x.last + 1) key xs a.2, t))
found_first lo key hi (x ∷ xs) rest r (suc i) d a b k l e f t = found_first (x.last + 1) key hi xs rest r i d a.2 b k (omega (arith, l)) e f t

ended : (hi : ℕ) (rs : List Region) → Follow hi hi rs → rs ≡ []
ended hi [] h = refl
ended hi (r ∷ rs) h = absurd (omega (arith, follow_bounds (r.last + 1) hi rs h.2, h.1))

map_last : (xs : List KeyRange) (x : KeyRange) → map region_in (xs ++ x ∷ []) ≡ map region_in xs ++ region_in x ∷ []
map_last [] x = refl
map_last (y ∷ ys) x = ap (λ t. region_in y ∷ t) (map_last ys x)

pub walks_first : (hi : ℕ) (all : List Region) → Follow 0 hi all → 0 < hi → IsWalked hi all [] 0
walks_first hi all h some = record { rest = all; all_is = refl; before = refl; after = h; below = some }

key_below : (period : Period) (k : Key) → k.bin < bins_of period → rank k < key_end period
key_below period k h = omega (arith, h, k.address_in_range)

pub walks_on : (period : Period) (all : List Region) (done : List KeyRange) (key : Key) (r : KeyRange) (next : Option Key)
    → IsWalked (key_end period) all (map region_in done) (rank key) → Contains all (region_in r) → rank r.first ≤ rank key → rank key ≤ rank r.last
    → IfNone next (rank r.last + 1 ≡ key_end period) → IfSome next (λ k. rank k ≡ rank r.last + 1) → IfSome next (λ k. k.bin < bins_of period)
    → Walks (key_end period) all (map region_in (done ++ r ∷ [])) next
walks_on period all done key r next w has from to none some inside =
    let hi = key_end period in
    let d = map region_in done in
    let first = found_first 0 (rank key) hi d w.rest (region_in r) has.0 (region_in r) w.before w.after w.below
    (subst (λ (rs : List Region). has.0 < length rs) w.all_is has.1)
    (ap (λ (rs : List Region). get_or rs has.0 (region_in r)) (sym w.all_is) ∙ has.2) from to in
    let after : Follow (rank key) hi (region_in r ∷ first.0) = subst (Follow (rank key) hi) first.1 w.after in
    let all_is : all ≡ (d ++ region_in r ∷ []) ++ first.0 = w.all_is ∙ ap (λ rs. d ++ rs) first.1 ∙ sym (append_assoc d (region_in r ∷ []) first.0) in
    by next none some inside first.0 after all_is (follow_join 0 (rank key) (rank r.last + 1) d (region_in r ∷ []) w.before (after.0, after.1, refl))
  where
    by : (n : Option Key) → IfNone n (rank r.last + 1 ≡ key_end period) → IfSome n (λ k. rank k ≡ rank r.last + 1)
        → IfSome n (λ k. k.bin < bins_of period) → (rs : List Region) → Follow (rank key) (key_end period) (region_in r ∷ rs)
        → all ≡ (map region_in done ++ region_in r ∷ []) ++ rs → Follow 0 (rank r.last + 1) (map region_in done ++ region_in r ∷ [])
        → Walks (key_end period) all (map region_in (done ++ r ∷ [])) n
    by None none some inside rs after all_is before =
        let none_left = ended (key_end period) rs (subst (λ n. Follow n (key_end period) rs) none after.2) in
        map_last done r ∙ sym (append-nil (map region_in done ++ region_in r ∷ [])) ∙ ap (λ t. (map region_in done ++ region_in r ∷ []) ++ t) (sym none_left) ∙ sym all_is
    by (Some k) none some inside rs after all_is before = record {
      rest = rs;
      all_is = all_is ∙ ap (λ t. t ++ rs) (sym (map_last done r));
      before = subst (λ n. Follow 0 n (map region_in (done ++ r ∷ []))) (sym some) (subst (Follow 0 (rank r.last + 1)) (sym (map_last done r)) before);
      after = subst (λ n. Follow n (key_end period) rs) (sym some) after.2;
      below = key_below period k inside;
    }

pub left_less : (period : Period) (key last : Key) (next : Option Key) → rank key < key_end period → rank key ≤ rank last
    → IfSome next (λ k. rank k ≡ rank last + 1) → IfSome next (λ k. k.bin < bins_of period) → left (key_end period) next < key_end period - rank key
left_less period key last None below to some inside = omega (arith, below)
left_less period key last (Some k) below to some inside = omega (arith, some, key_below period k inside, to, below)
