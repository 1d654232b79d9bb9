-- Pages that follow each other, and the child that holds a key.
use Rattle.std.proofs.Common.{◌≡◌, ℕ, ◌+◌, ◌<◌, ◌≤◌, max, List, [], ◌∷◌, ◌++◌, length, get_or, take, drop, refl, sym, ap, subst, ◌∙◌, suc, zero, arith, append_assoc, true, false, Bool, not, ltb}
use Rattle.std.proofs.lemmas.Bool.{ltb-true, ltb-false, le-ltb}
use Rattle.std.proofs.lemmas.List.Elements.{All-head, All-tail, All-cons}
use Rattle.std.proofs.lemmas.List.{get_or-drop, length-drop}
use Rattle.std.specs.List.{All, AllWithin}
use Rattle.std.specs.List.Sorted.{IsPartitionedBy, IsPartitionPoint}
use Rattle.st_index.proofs.Putting.{split_read}
use Rattle.st_tally.specs.inner.Pages.{PageValue, NodeValue, entries_of_pages}
use Rattle.st_ubtree.specs.inner.Kids.{Spans, IsKid, StartsAt, pages_of}
use Rattle.st_key.specs.declared.period.Period.{Period}

not_is : (b : Bool) → not b ≡ true → b ≡ false
not_is true h = cc
not_is false h = refl

not_false : (b : Bool) → not b ≡ false → b ≡ true
not_false true h = refl
not_false false h = cc

pub upto_is : (k f : ℕ) → not (ltb k f) ≡ true → f ≤ k
upto_is k f h = ltb-false k f (not_is (ltb k f) h)

pub is_upto : (k f : ℕ) → f ≤ k → not (ltb k f) ≡ true
is_upto k f h = ap not (le-ltb k f h)

pub later_is : (k f : ℕ) → not (ltb k f) ≡ false → k < f
later_is k f h = ltb-true k f (not_false (ltb k f) h)

module _ {A : Type 0} where
  pub pages-append : (xs ys : List (NodeValue A)) → pages_of (xs ++ ys) ≡ pages_of xs ++ pages_of ys
  pages-append [] ys = refl
  pages-append (x ∷ xs) ys = ap (λ ps. x.pages ++ ps) (pages-append xs ys) ∙ sym (append_assoc x.pages (pages_of xs) (pages_of ys))

  pub entries-append : (xs ys : List (PageValue A)) → entries_of_pages (xs ++ ys) ≡ entries_of_pages xs ++ entries_of_pages ys
  entries-append [] ys = refl
  entries-append (x ∷ xs) ys = ap (λ es. x.entries ++ es) (entries-append xs ys) ∙ sym (append_assoc x.entries (entries_of_pages xs) (entries_of_pages ys))

  pub entries_three : (xs ys zs : List (PageValue A)) → entries_of_pages (xs ++ (ys ++ zs)) ≡ entries_of_pages xs ++ (entries_of_pages ys ++ entries_of_pages zs)
  entries_three xs ys zs = entries-append xs (ys ++ zs) ∙ ap (λ t. entries_of_pages xs ++ t) (entries-append ys zs)

  pub pages_split : (kids : List (NodeValue A)) (i : ℕ) (kid : NodeValue A) → i < length kids → kid ≡ get_or kids i kid
      → pages_of kids ≡ pages_of (take i kids) ++ (kid.pages ++ pages_of (drop (suc i) kids))
  pages_split kids i kid l read = ap pages_of (split_read kids i kid l read) ∙ pages-append (take i kids) (kid ∷ drop (suc i) kids)

  kid_at : (below : ℕ) (kids : List (NodeValue A)) → All (IsKid below) kids → (i : ℕ) (kid : NodeValue A) → i < length kids → kid ≡ get_or kids i kid → IsKid below kid
  kid_at below kids each i kid l read = subst (IsKid below) (sym read) (each i kid l)

  after_kid : (key below : ℕ) (kids : List (NodeValue A)) → All (IsKid below) kids → (n i : ℕ)
      → AllWithin (λ (v : NodeValue A). not (ltb key v.first) ≡ false) kids n (length kids) → i + 1 ≡ max n 1
      → (w : NodeValue A) (ws : List (NodeValue A)) → drop (suc i) kids ≡ w ∷ ws → IsKid below w × (key < w.first)
  after_kid key below kids each n i at is w ws q =
      let there : get_or kids (suc i + 0) w ≡ w = sym (get_or-drop (suc i) kids 0 w) ∙ ap (λ t. get_or t 0 w) q in
      let long : suc i + 0 < length kids = omega (arith, ap length q, length-drop (suc i) kids) in
      (subst (IsKid below) there (each (suc i + 0) w long), subst (λ (v : NodeValue A). key < v.first) there (later_is key _ (at (suc i + 0) w (omega (arith, is)) long)))

module _ {A : Type 0} (period : Period) where
  pub spans_bounds : (lo hi : ℕ) (ps : List (PageValue A)) → Spans period lo hi ps → lo ≤ hi
  spans_bounds lo hi [] h = omega (arith, h)
  spans_bounds lo hi (p ∷ ps) h = omega (arith, spans_bounds h.1.0 hi ps h.1.3, h.1.1)

  pub spans_join : (lo mid hi : ℕ) (xs ys : List (PageValue A)) → Spans period lo mid xs → Spans period mid hi ys → Spans period lo hi (xs ++ ys)
  spans_join lo mid hi [] ys a b = subst (λ n. Spans period n hi ys) (sym a) b
  spans_join lo mid hi (x ∷ xs) ys a b = (a.0, (a.1.0, a.1.1, a.1.2, spans_join a.1.0 mid hi xs ys a.1.3 b))

  pub record Cut (lo hi : ℕ) (xs ys : List (PageValue A)) : Type 0 where
    pub at : ℕ
    pub low : Spans period lo at xs
    pub high : Spans period at hi ys

  pub spans_cut : (lo hi : ℕ) (xs ys : List (PageValue A)) → Spans period lo hi (xs ++ ys) → Cut lo hi xs ys
  spans_cut lo hi [] ys h = record { at = lo; low = refl; high = h }
  spans_cut lo hi (x ∷ xs) ys h =
      let r = spans_cut h.1.0 hi xs ys h.1.3 in
      record { at = r.at; low = (h.0, (h.1.0, h.1.1, h.1.2, r.low)); high = r.high }

  -- pages between others may be others with the same bounds
  pub spans_put : (lo hi : ℕ) (front mid new back : List (PageValue A)) → ((a b : ℕ) → Spans period a b mid → Spans period a b new)
      → Spans period lo hi (front ++ (mid ++ back)) → Spans period lo hi (front ++ (new ++ back))
  spans_put lo hi front mid new back put h =
      let c = spans_cut lo hi front (mid ++ back) h in
      let d = spans_cut c.at hi mid back c.high in
      spans_join lo c.at hi front (new ++ back) c.low (spans_join c.at d.at hi new back (put c.at d.at d.low) d.high)

  -- which they have
  pub spans_mid : (lo hi : ℕ) (front mid back : List (PageValue A)) → Spans period lo hi (front ++ (mid ++ back)) → (a : ℕ) × (b : ℕ) × Spans period a b mid
  spans_mid lo hi front mid back h =
      let c = spans_cut lo hi front (mid ++ back) h in
      let d = spans_cut c.at hi mid back c.high in
      (c.at, d.at, d.low)

  pub starts_there : (first lo hi : ℕ) (ps : List (PageValue A)) → StartsAt first ps → Spans period lo hi ps → (first ≡ lo) × (lo < hi)
  starts_there first lo hi [] s h = absurd s
  starts_there first lo hi (p ∷ ps) s h = (sym s ∙ h.0, omega (arith, spans_bounds h.1.0 hi ps h.1.3, h.1.1))

  pub firsts_from : (below lo hi : ℕ) (kids : List (NodeValue A)) → All (IsKid below) kids → Spans period lo hi (pages_of kids) → All (λ (v : NodeValue A). lo ≤ v.first) kids
  firsts_from below lo hi [] each h = λ k d l. absurd (omega (arith, l))
  firsts_from below lo hi (v ∷ vs) each h =
      let c = spans_cut lo hi v.pages (pages_of vs) h in
      let s = starts_there v.first lo c.at v.pages (All-head (IsKid below) v vs each).starts.0 c.low in
      let rest = firsts_from below c.at hi vs (All-tail (IsKid below) v vs each) c.high in
      All-cons (λ (w : NodeValue A). lo ≤ w.first) v vs (omega (arith, s.0)) (λ k d l. omega (arith, rest k d l, s.1))

  pub firsts_parted : (key below lo hi : ℕ) (kids : List (NodeValue A)) → All (IsKid below) kids → Spans period lo hi (pages_of kids)
      → IsPartitionedBy (λ (v : NodeValue A). not (ltb key v.first)) kids
  firsts_parted key below lo hi [] each h i j d a b p = absurd (omega (arith, b))
  firsts_parted key below lo hi (v ∷ vs) each h zero zero d a b p = p
  firsts_parted key below lo hi (v ∷ vs) each h zero (suc j) d a b p =
      let c = spans_cut lo hi v.pages (pages_of vs) h in
      let s = starts_there v.first lo c.at v.pages (All-head (IsKid below) v vs each).starts.0 c.low in
      let l : j < length vs = omega (arith, b) in
      let r = firsts_from below c.at hi vs (All-tail (IsKid below) v vs each) c.high j d l in
      is_upto key v.first (omega (arith, s.0, s.1, r, upto_is key (get_or vs j d).first p))
  firsts_parted key below lo hi (v ∷ vs) each h (suc i) zero d a b p = absurd (omega (arith, a))
  firsts_parted key below lo hi (v ∷ vs) each h (suc i) (suc j) d a b p =
      let c = spans_cut lo hi v.pages (pages_of vs) h in
      firsts_parted key below c.at hi vs (All-tail (IsKid below) v vs each) c.high i j d (omega (arith, a)) (omega (arith, b)) p

  -- the child that a search by first keys finds, and its bounds
  pub record Found (key lo hi : ℕ) (kids : List (NodeValue A)) (i : ℕ) (kid : NodeValue A) : Type 0 where
    pub a : ℕ
    pub b : ℕ
    pub low : Spans period lo a (pages_of (take i kids))
    pub mid : Spans period a b kid.pages
    pub high : Spans period b hi (pages_of (drop (suc i) kids))
    pub from : lo ≤ key → a ≤ key
    pub to : key < hi → key < b
    pub wide : a < b
    pub next : (w : NodeValue A) (ws : List (NodeValue A)) → drop (suc i) kids ≡ w ∷ ws → w.first ≡ b
    pub last : drop (suc i) kids ≡ [] → hi ≡ b

  next_first : (below b hi : ℕ) (w : NodeValue A) (ws vs : List (NodeValue A)) → vs ≡ w ∷ ws → IsKid below w → Spans period b hi (pages_of vs) → w.first ≡ b
  next_first below b hi w ws vs e kid h =
      let g = subst (λ t. Spans period b hi (pages_of t)) e h in
      let c = spans_cut b hi w.pages (pages_of ws) g in
      (starts_there w.first b c.at w.pages kid.starts.0 c.low).0

  none_left : (b hi : ℕ) (vs : List (NodeValue A)) → vs ≡ [] → Spans period b hi (pages_of vs) → hi ≡ b
  none_left b hi vs e h = sym (subst (λ t. Spans period b hi (pages_of t)) e h)

  first_kid : (lo a : ℕ) (kids : List (NodeValue A)) (i : ℕ) → i ≡ 0 → Spans period lo a (pages_of (take i kids)) → lo ≡ a
  first_kid lo a kids i e h = subst (λ n. Spans period lo a (pages_of (take n kids))) e h

  low_bound : (key lo a : ℕ) (kids : List (NodeValue A)) (i n : ℕ) (kid : NodeValue A)
      → AllWithin (λ (v : NodeValue A). not (ltb key v.first) ≡ true) kids 0 n → i + 1 ≡ max n 1 → kid ≡ get_or kids i kid → kid.first ≡ a
      → Spans period lo a (pages_of (take i kids)) → lo ≤ key → a ≤ key
  low_bound key lo a kids i zero kid at is read same h k = let z = first_kid lo a kids i (omega (arith, is)) h in omega (arith, z, k)
  low_bound key lo a kids i (suc m) kid at is read same h k =
      let u = upto_is key (get_or kids i kid).first (at i kid (omega arith) (omega (arith, is))) in
      let e = ap (λ (v : NodeValue A). v.first) read in omega (arith, u, e, same)

  high_bound : (key b hi below : ℕ) (vs : List (NodeValue A)) → Spans period b hi (pages_of vs)
      → ((w : NodeValue A) (ws : List (NodeValue A)) → vs ≡ w ∷ ws → IsKid below w × (key < w.first)) → key < hi → key < b
  high_bound key b hi below [] h after k = omega (arith, h, k)
  high_bound key b hi below (w ∷ ws) h after k =
      let q = after w ws refl in omega (arith, next_first below b hi w ws (w ∷ ws) refl q.0 h, q.1)

  pub found_kid : (key below lo hi : ℕ) (kids : List (NodeValue A)) → All (IsKid below) kids → Spans period lo hi (pages_of kids)
      → (n i : ℕ) (kid : NodeValue A)
      → (IsPartitionedBy (λ (v : NodeValue A). not (ltb key v.first)) kids
      → IsPartitionPoint (λ (v : NodeValue A). not (ltb key v.first) ≡ true) (λ (v : NodeValue A). not (ltb key v.first) ≡ false) kids n)
      → i + 1 ≡ max n 1 → i < length kids → kid ≡ get_or kids i kid → Found key lo hi kids i kid
  found_kid key below lo hi kids each h n i kid found is l read =
      let at = found (firsts_parted key below lo hi kids each h) in
      let after = after_kid key below kids each n i at.1 is in
      let g = subst (Spans period lo hi) (pages_split kids i kid l read) h in
      let c = spans_cut lo hi (pages_of (take i kids)) (kid.pages ++ pages_of (drop (suc i) kids)) g in
      let e = spans_cut c.at hi kid.pages (pages_of (drop (suc i) kids)) c.high in
      let s = starts_there kid.first c.at e.at kid.pages (kid_at below kids each i kid l read).starts.0 e.low in
      record {
        a = c.at;
        b = e.at;
        low = c.low;
        mid = e.low;
        high = e.high;
        from = low_bound key lo c.at kids i n kid at.0 is read s.0 c.low;
        to = high_bound key e.at hi below (drop (suc i) kids) e.high after;
        wide = s.1;
        next = λ w ws q. next_first below e.at hi w ws (drop (suc i) kids) q (after w ws q).0 e.high;
        last = λ q. none_left e.at hi (drop (suc i) kids) q e.high;
      }
