-- The first keys of children, as these change.
use Rattle.std.proofs.Common.{Bool, refl, ◌≡◌, ℕ, ◌<◌, ◌≤◌, List, ◌∷◌, ◌++◌, length, get_or, map, take, drop, sym, ap, subst, ◌∙◌, suc, arith, true, false, not, ltb, Option, Some, None}
use Rattle.std.proofs.Math.ListN.{set}
use Rattle.std.proofs.Math.Seq.{map-set_same}
use Rattle.std.proofs.lemmas.List.{get_or-map, length-map, map-append, take-map, take_all}
use Rattle.std.specs.List.{drop-map, insert, position, position_or_len, prefix_len, remove}
use Rattle.std.specs.Option.{unwrap_or}
use Rattle.std.proofs.lemmas.Grind.{common_steps}
use Rattle.std.proofs.lemmas.List.Sums.{fails_before_first, passes_at_first, prefix_len-le-length}
use Rattle.std.specs.List.Sorted.{IsPartitionedBy, IsPartitionPoint}
use Rattle.st_key.specs.Key.{rank}
use Rattle.st_ubtree.specs.declared.node.firsts.First.{First}
use Rattle.st_ubtree.specs.declared.node.firsts.Firsts.{Firsts}
use Rattle.st_tally.specs.inner.Pages.{NodeValue}
use Rattle.st_ubtree.specs.inner.Firsts.{AreFirsts}
use Rattle.st_ubtree.specs.inner.Growing.{SplitsIfFull}
use Rattle.st_tally.proofs.Placing.{there_is}

map_insert : {X : Type 0} (n : X → ℕ) (xs : List X) (i : ℕ) (x : X) → map n (insert xs i x) ≡ insert (map n xs) i (n x)
map_insert n xs i x = map-append n (take i xs) (x ∷ drop i xs) ∙ ap (λ front. front ++ n x ∷ map n (drop i xs)) (sym (take-map n i xs))
    ∙ ap (λ back. take i (map n xs) ++ n x ∷ back) (sym (drop-map n i xs))

map_remove : {X : Type 0} (n : X → ℕ) (xs : List X) (i : ℕ) → map n (remove xs i) ≡ remove (map n xs) i
map_remove n xs i = map-append n (take i xs) (drop (suc i) xs) ∙ ap (λ front. front ++ map n (drop (suc i) xs)) (sym (take-map n i xs))
    ∙ ap (λ back. take i (map n xs) ++ back) (sym (drop-map n (suc i) xs))

module _ {X : Type 0} (p : X → Bool) (xs : List X) where
  -- where the first that passes stands, or how many there are
  pub at_first : (r : Option ℕ) → r ≡ position p xs → unwrap_or r (length xs) ≡ position_or_len p xs
  at_first r e =
      let most : prefix_len (λ x. not (p x)) xs ≤ length xs = prefix_len-le-length (λ x. not (p x)) xs in
      grind (arith, common_steps)

  pub within_all : (n : ℕ) → n ≡ position_or_len p xs → n ≤ length xs
  within_all n e = subst (λ m. m ≤ length xs) (sym e) (prefix_len-le-length (λ x. not (p x)) xs)

  -- it parts those that fail from those that pass, where no failing one comes after a passing one
  pub parted_at : (n : ℕ) → n ≡ position_or_len p xs → IsPartitionedBy (λ x. not (p x)) xs → IsPartitionPoint (λ x. not (p x) ≡ true) (λ x. not (p x) ≡ false) xs n
  parted_at n e parted = (
    λ k d low l. ap not (fails_before_first p xs k d (omega (arith, e, l))),
    λ k d low l.
        let first : p (get_or xs n d) ≡ true = subst (λ i. p (get_or xs i d) ≡ true) (sym e) (passes_at_first p xs d (omega (arith, e, low, l))) in
        by (not (p (get_or xs k d))) refl (λ (passes : not (p (get_or xs k d)) ≡ true). sym (ap not first) ∙ parted n k d low l passes),
  )
    where
      by : (b : Bool) {c : Bool} → c ≡ b → (c ≡ true → false ≡ true) → c ≡ false
      by true e absurd_then = e ∙ sym (absurd_then e)
      by false e absurd_then = e

-- the number of a first key
abbrev pub number : First → ℕ
number k = rank k.key

module _ {A : Type 0} where
  -- as many as there are children
  pub as_many : (f : Firsts A) (kids : List (NodeValue A)) → AreFirsts f kids → length f.keys.items ≡ length kids
  as_many f kids h = sym (length-map f.keys.items number) ∙ ap length h ∙ length-map kids (λ (v : NodeValue A). v.first)

  -- what stands at a place
  pub read_first : (f : Firsts A) (kids : List (NodeValue A)) (i : ℕ) (k : First) (v : NodeValue A) → AreFirsts f kids → i < length kids → number (get_or f.keys.items i k) ≡ (get_or kids i v).first
  read_first f kids i k v h l =
      sym (get_or-map number f.keys.items i k (number k) (omega (arith, as_many f kids h, l)))
      ∙ ap (λ ns. get_or ns i (number k)) h
      ∙ get_or-map (λ (w : NodeValue A). w.first) kids i v (number k) l

  module _ (key : ℕ) (f : Firsts A) (kids : List (NodeValue A)) (h : AreFirsts f kids) where
    parted : IsPartitionedBy (λ (v : NodeValue A). not (ltb key v.first)) kids → IsPartitionedBy (λ (k : First). not (ltb key (number k))) f.keys.items
    parted p i j d le l passes =
        let within : j < length kids = omega (arith, as_many f kids h, l) in
        let v = (there_is kids j within).0 in
        let at = read_first f kids j d v h within in
        let before = read_first f kids i d v h (omega (arith, le, within)) in
        ap (λ m. not (ltb key m)) before ∙ p i j v le within (ap (λ m. not (ltb key m)) (sym at) ∙ passes)

    -- a search among the first keys finds the place among the children
    pub found_by : (n : ℕ) → n ≤ length f.keys.items
        → (IsPartitionedBy (λ (k : First). not (ltb key (number k))) f.keys.items
        → IsPartitionPoint (λ (k : First). not (ltb key (number k)) ≡ true) (λ (k : First). not (ltb key (number k)) ≡ false) f.keys.items n)
        → IsPartitionedBy (λ (v : NodeValue A). not (ltb key v.first)) kids
        → IsPartitionPoint (λ (v : NodeValue A). not (ltb key v.first) ≡ true) (λ (v : NodeValue A). not (ltb key v.first) ≡ false) kids n
    found_by n bound found p =
        let q = found (parted p) in
        let len = as_many f kids h in (
          λ i d low l.
              let t = there_is f.keys.items i (omega (arith, l, bound)) in
              let within : i < length kids = omega (arith, l, bound, len) in
              ap (λ m. not (ltb key m)) (sym (read_first f kids i t.0 d h within)) ∙ q.0 i t.0 low l,
          λ i d low l.
              let t = there_is f.keys.items i (omega (arith, l, len)) in
              ap (λ m. not (ltb key m)) (sym (read_first f kids i t.0 d h l)) ∙ q.1 i t.0 low (omega (arith, l, len)),
        )

  -- one child is another one that begins where it did
  pub firsts_set : (f : Firsts A) (kids : List (NodeValue A)) (i : ℕ) (kid v : NodeValue A) → kid ≡ get_or kids i kid → v.first ≡ kid.first → AreFirsts f kids → AreFirsts f (set kids i v)
  firsts_set f kids i kid v read same h = h ∙ sym (map-set_same (λ (w : NodeValue A). w.first) kids i v kid (same ∙ ap (λ (w : NodeValue A). w.first) read))

  -- of children that were split, as many stay as there are then
  pub split_take : (height count : ℕ) (old new : List (NodeValue A)) (split : Option (NodeValue A)) → SplitsIfFull height old new split → count ≡ length new → take count old ≡ new
  split_take height count old new None s is = let n = ap length s.0 in take_all count old (omega (arith, n, is)) ∙ sym s.0
  split_take height count old new (Some r) s is = ap (λ n. take n old) (is ∙ s.1) ∙ sym s.0

  -- what an edit of the first keys makes of those of the children
  module _ (keys new : List First) (kids : List (NodeValue A)) (i : ℕ) (h : map number keys ≡ map (λ (w : NodeValue A). w.first) kids) where
    pub firsts_open : (k : First) (v : NodeValue A) → new ≡ insert keys i k → number k ≡ v.first → map number new ≡ map (λ (w : NodeValue A). w.first) (insert kids i v)
    firsts_open k v is first = ap (map number) is ∙ map_insert number keys i k ∙ ap (λ ns. insert ns i (number k)) h
        ∙ ap (insert (map (λ (w : NodeValue A). w.first) kids) i) first ∙ sym (map_insert (λ (w : NodeValue A). w.first) kids i v)

    pub firsts_close : new ≡ remove keys i → map number new ≡ map (λ (w : NodeValue A). w.first) (remove kids i)
    firsts_close is = ap (map number) is ∙ map_remove number keys i ∙ ap (λ ns. remove ns i) h ∙ sym (map_remove (λ (w : NodeValue A). w.first) kids i)

    pub firsts_keep : new ≡ take i keys → map number new ≡ map (λ (w : NodeValue A). w.first) (take i kids)
    firsts_keep is = ap (map number) is ∙ sym (take-map number i keys) ∙ ap (take i) h ∙ take-map (λ (w : NodeValue A). w.first) i kids
