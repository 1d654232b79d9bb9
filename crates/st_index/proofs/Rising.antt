-- Entries whose keys rise.
use Rattle.std.proofs.Common.{◌≡◌, ℕ, ◌+◌, ◌<◌, ◌≤◌, List, [], ◌∷◌, ◌++◌, get_or, arith, rules}
use Rattle.std.proofs.lemmas.List.Elements.{All-head, All-tail, All-cons}
use Rattle.std.specs.List.{All}
use Rattle.std.specs.declared.cmp.Ordering.TheVariants.{Less}
use Rattle.std.specs.Ordering.{nat_cmp}
use Rattle.st_index.specs.inner.Entries.{EntryValue, IsEntry, EntriesRise, Climbs}
use Rattle.st_key.specs.declared.period.Period.{Period}

nat_less : (a b : ℕ) → a < b → nat_cmp a b ≡ Less
nat_less a b h = search (rules, h)

module _ {A : Type 0} (period : Period) where
  pub rises_bounds : (lo hi : ℕ) (es : List (EntryValue A)) → EntriesRise period lo hi es → lo ≤ hi
  rises_bounds lo hi [] h = h
  rises_bounds lo hi (e ∷ es) h = let r = rises_bounds (e.at + 1) hi es h.2 in omega (arith, h.0, r)

  pub rises_from : (lo mid hi : ℕ) (es : List (EntryValue A)) → lo ≤ mid → EntriesRise period mid hi es → EntriesRise period lo hi es
  rises_from lo mid hi [] a h = omega (arith, a, h)
  rises_from lo mid hi (e ∷ es) a h = (omega (arith, a, h.0), h.1, h.2)

  pub rises_join : (lo mid hi : ℕ) (xs ys : List (EntryValue A)) → EntriesRise period lo mid xs → EntriesRise period mid hi ys → EntriesRise period lo hi (xs ++ ys)
  rises_join lo mid hi [] ys a b = rises_from lo mid hi ys a b
  rises_join lo mid hi (x ∷ xs) ys a b = (a.0, a.1, rises_join (x.at + 1) mid hi xs ys a.2 b)

  -- the parts on both sides of an entry
  pub record Around (lo hi : ℕ) (xs : List (EntryValue A)) (e : EntryValue A) (ys : List (EntryValue A)) : Type 0 where
    pub low : lo ≤ e.at
    pub front : EntriesRise period lo e.at xs
    pub entry : IsEntry period e
    pub back : EntriesRise period (e.at + 1) hi ys

  pub rises_around : (lo hi : ℕ) (xs : List (EntryValue A)) (e : EntryValue A) (ys : List (EntryValue A)) → EntriesRise period lo hi (xs ++ e ∷ ys) → Around lo hi xs e ys
  rises_around lo hi [] e ys h = record { low = h.0; front = h.0; entry = h.1; back = h.2 }
  rises_around lo hi (x ∷ xs) e ys h =
      let r = rises_around (x.at + 1) hi xs e ys h.2 in
      record { low = omega (arith, h.0, r.low); front = (h.0, h.1, r.front); entry = r.entry; back = r.back }

  -- the parts on both sides of a key
  pub rises_cut : (lo k hi : ℕ) (xs ys : List (EntryValue A)) → EntriesRise period lo hi (xs ++ ys) → lo ≤ k → k ≤ hi → All (λ e. e.at < k) xs
      → All (λ e. k ≤ e.at) ys → EntriesRise period lo k xs × EntriesRise period k hi ys
  rises_cut lo k hi [] [] h a b p q = (a, b)
  rises_cut lo k hi [] (y ∷ ys) h a b p q = (a, (All-head (λ e. k ≤ e.at) y ys q, h.1, h.2))
  rises_cut lo k hi (x ∷ xs) ys h a b p q =
      let c = All-head (λ e. e.at < k) x xs p in
      let r = rises_cut (x.at + 1) k hi xs ys h.2 (omega (arith, c)) b (All-tail (λ e. e.at < k) x xs p) q in
      ((h.0, h.1, r.0), r.1)

  pub rises_all : (lo hi : ℕ) (es : List (EntryValue A)) → EntriesRise period lo hi es → All (λ e. lo ≤ e.at) es
  rises_all lo hi [] h = λ k d l. absurd (omega (arith, l))
  rises_all lo hi (e ∷ es) h = All-cons (λ f. lo ≤ f.at) e es h.0 (rises_all lo hi es (rises_from lo (e.at + 1) hi es (omega (arith, h.0)) h.2))

  pub rises_climbs : (lo hi : ℕ) (es : List (EntryValue A)) → EntriesRise period lo hi es → Climbs nat_cmp (λ (e : EntryValue A). e.at) es
  rises_climbs lo hi [] h = tt
  rises_climbs lo hi (e ∷ es) h =
      ((λ k d l. nat_less e.at (get_or es k d).at (let a = rises_all (e.at + 1) hi es h.2 k d l in omega (arith, a))), rises_climbs (e.at + 1) hi es h.2)
