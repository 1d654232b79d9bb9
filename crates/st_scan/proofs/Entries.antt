-- Entries whose keys rise, and their rows.
use Rattle.std.proofs.Common.{◌≡◌, ℕ, ◌+◌, ◌-◌, ◌<◌, ◌≤◌, List, [], ◌∷◌, ◌++◌, filter, length, get_or, take, drop, suc, zero, add-zero, refl, sym, ap}
use Rattle.std.proofs.Common.{subst, ◌∙◌, arith, append_assoc, append-nil, IsTrue}
use Rattle.std.proofs.lemmas.List.Elements.{All-append, All-cons, All-head, All-nil, All-tail, filter-append}
use Rattle.std.proofs.lemmas.List.{get_or-drop, get_or-take, length-drop, length-take-le, take-append-drop, take_all}
use Rattle.std.specs.List.{All}
use Rattle.std.specs.List.Sorted.{IsNonDecreasingBy, IsPartitionPoint}
use Rattle.std.specs.declared.cmp.Ordering.TheVariants.{Less, Equal, Greater}
use Rattle.std.specs.Ordering.{nat_cmp, ordering_index}
use Rattle.st_index.proofs.Names.{nat_equal}
use Rattle.st_index.proofs.Putting.{missing, rows-append}
use Rattle.st_index.proofs.Rising.{rises_all, rises_bounds}
use Rattle.st_key.specs.declared.period.Period.{Period}
use Rattle.st_box.specs.declared.query.Query.{Query}
use Rattle.st_index.specs.inner.Entries.{EntryValue, IsEntry, EntriesRise, rank_of, rows_of}
use Rattle.st_scan.specs.inner.Rows.{has_row}
use Rattle.st_scan.specs.inner.Steps.{SkipsTo}
use Rattle.st_scan.proofs.Filters.{filter_none, no_items}

pub all_left : {X : Type 0} (P : X → Type 0) (xs ys : List X) → All P (xs ++ ys) → All P xs
all_left P [] ys h = All-nil P
all_left P (x ∷ xs) ys h = All-cons P x xs (All-head P x (xs ++ ys) h) (all_left P xs ys (All-tail P x (xs ++ ys) h))

pub all_right : {X : Type 0} (P : X → Type 0) (xs ys : List X) → All P (xs ++ ys) → All P ys
all_right P [] ys h = h
all_right P (x ∷ xs) ys h = all_right P xs ys (All-tail P x (xs ++ ys) h)

module _ {A : Type 0} where
  -- the rows of the entries passed, and then those of the entry
  pub rows_around : (xs : List (EntryValue A)) (e : EntryValue A) (ys : List (EntryValue A)) → rows_of (xs ++ e ∷ ys) ≡ rows_of xs ++ (e.rows ++ rows_of ys)
  rows_around xs e ys = rows-append xs (e ∷ ys)

module _ {A : Type 0} (period : Period) where
  pub keyed : (lo hi : ℕ) (es : List (EntryValue A)) → EntriesRise period lo hi es → All (IsEntry period) es
  keyed lo hi [] h = All-nil (IsEntry period)
  keyed lo hi (e ∷ es) h = All-cons (IsEntry period) e es h.1 (keyed (e.at + 1) hi es h.2)

  pub rises_lower : (low lo hi : ℕ) (es : List (EntryValue A)) → low ≤ lo → EntriesRise period lo hi es → EntriesRise period low hi es
  rises_lower low lo hi [] le h = omega (arith, le, h)
  rises_lower low lo hi (e ∷ es) le h = (omega (arith, le, h.0), h.1, h.2)

  pub entries_below : (lo hi : ℕ) (es : List (EntryValue A)) → EntriesRise period lo hi es → All (λ e. e.at < hi) es
  entries_below lo hi [] h = All-nil _
  entries_below lo hi (e ∷ es) h = All-cons (λ f. f.at < hi) e es (omega (arith, rises_bounds period (e.at + 1) hi es h.2)) (entries_below (e.at + 1) hi es h.2)

  -- what holds of the entries' places holds of their rows'
  pub rows_all : (P : ℕ → Type 0) (es : List (EntryValue A)) → All (IsEntry period) es → All (λ e. P e.at) es → All (λ row. P (rank_of period row)) (rows_of es)
  rows_all P [] k h = All-nil _
  rows_all P (e ∷ es) k h =
      let entry : IsEntry period e = All-head (IsEntry period) e es k in
      let here : P e.at = All-head (λ f. P f.at) e es h in
      All-append (λ row. P (rank_of period row)) e.rows (rows_of es)
      (λ j d l. subst P (sym (entry.placed j d l)) here)
      (rows_all P es (All-tail (IsEntry period) e es k) (All-tail (λ f. P f.at) e es h))

-- the entries passed so far, none of them inside the query
pub record Passed {A : Type 0} (q : Query) (entries ahead : List (EntryValue A)) : Type 0 where
  pub passed : List (EntryValue A)
  pub is : entries ≡ passed ++ ahead
  pub outside : filter (has_row q) (rows_of passed) ≡ []

module _ {A : Type 0} (q : Query) where
  pub pass_none : (entries : List (EntryValue A)) → Passed q entries entries
  pass_none entries = record { passed = []; is = refl; outside = refl }

  pub pass_more : (entries : List (EntryValue A)) (e : EntryValue A) (rest : List (EntryValue A)) → Passed q entries (e ∷ rest) → All (λ row. IsTrue (has_row q row) → ⊥) e.rows → Passed q entries rest
  pass_more entries e rest p out = record {
    passed = p.passed ++ e ∷ [];
    is = p.is ∙ sym (append_assoc p.passed (e ∷ []) rest);
    outside =
        ap (filter (has_row q)) (rows_around p.passed e [])
        ∙ filter-append (has_row q) (rows_of p.passed) (e.rows ++ [])
        ∙ ap (λ xs. xs ++ filter (has_row q) (e.rows ++ [])) p.outside
        ∙ filter-append (has_row q) e.rows []
        ∙ ap (λ xs. xs ++ []) (filter_none (has_row q) e.rows out);
  }

  -- and where none is ahead
  pub pass_all : (entries ahead : List (EntryValue A)) → Passed q entries ahead → length ahead ≡ 0 → filter (has_row q) (rows_of entries) ≡ []
  pass_all entries ahead p none =
      let whole : entries ≡ p.passed = p.is ∙ ap (λ es. p.passed ++ es) (no_items ahead none) ∙ append-nil p.passed in
      ap (λ es. filter (has_row q) (rows_of es)) whole ∙ p.outside

module _ {A : Type 0} (period : Period) (start : ℕ) where
  -- a later entry has a higher key
  rises_order : (lo hi : ℕ) (es : List (EntryValue A)) → EntriesRise period lo hi es → (i j : ℕ) (d : EntryValue A) → i < j → j < length es → (get_or es i d).at < (get_or es j d).at
  rises_order lo hi [] h i j d a b = absurd (omega (arith, b))
  rises_order lo hi (e ∷ es) h i zero d a b = absurd (omega (arith, a))
  rises_order lo hi (e ∷ es) h zero (suc j) d a b = let later = rises_all period (e.at + 1) hi es h.2 j d (omega (arith, b)) in omega (arith, later)
  rises_order lo hi (e ∷ es) h (suc i) (suc j) d a b = rises_order (e.at + 1) hi es h.2 i j d (omega (arith, a)) (omega (arith, b))

  -- the entries from the place of a key on
  pub skips_there : (lo hi : ℕ) (es : List (EntryValue A)) (n : ℕ) → n < length es → ((d : EntryValue A) → nat_cmp (get_or es n d).at start ≡ Equal)
      → EntriesRise period lo hi es → SkipsTo start es (drop n es)
  skips_there lo hi es n le here h = record {
    skipped = take n es;
    is = sym (take-append-drop n es);
    before = λ k d l.
        let short : k < n = let e = length-take-le n es (omega (arith, le)) in omega (arith, e, l) in
        let at = nat_equal (get_or es n d).at start (here d) in
        let order = rises_order lo hi es h k n d short le in
        subst (λ (e : EntryValue A). e.at < start) (sym (get_or-take n es k d short)) (omega (arith, at, order));
    after = λ k d l. subst (λ (e : EntryValue A). start ≤ e.at) (sym (get_or-drop n es k d)) (from k d (let e = length-drop n es in omega (arith, e, l)));
  }
    where
      from : (k : ℕ) (d : EntryValue A) → n + k < length es → start ≤ (get_or es (n + k) d).at
      from zero d l = let at = nat_equal (get_or es n d).at start (here d) in rw add-zero (omega (arith, at))
      from (suc k) d l =
          let at = nat_equal (get_or es n d).at start (here d) in
          let order = rises_order lo hi es h n (n + suc k) d (omega arith) l in
          omega (arith, at, order)

  -- and from where it would stand
  pub skips_missing : (lo hi : ℕ) (es : List (EntryValue A)) (n : ℕ)
      → (IsNonDecreasingBy (λ (e : EntryValue A). ordering_index (nat_cmp e.at start)) es
      → IsPartitionPoint (λ (e : EntryValue A). nat_cmp e.at start ≡ Less) (λ (e : EntryValue A). nat_cmp e.at start ≡ Greater) es n)
      → EntriesRise period lo hi es → SkipsTo start es (drop n es)
  skips_missing lo hi es n found h =
      let m = missing period start es n lo hi h found in
      record {
        skipped = take n es;
        is = sym (take-append-drop n es);
        before = m.0;
        after = λ k d l. let a = m.1 k d l in omega (arith, a);
      }

  -- as a slice of them
  pub skips_slice : (es : List (EntryValue A)) (n : ℕ) → SkipsTo start es (drop n es) → SkipsTo start es (take (length es - n) (drop n es))
  skips_slice es n h = subst (SkipsTo start es) (sym (take_all (length es - n) (drop n es) (let e = length-drop n es in omega (arith, e)))) h

module _ {A : Type 0} (period : Period) where
  pub rises_right : (lo hi : ℕ) (xs ys : List (EntryValue A)) → EntriesRise period lo hi (xs ++ ys) → EntriesRise period lo hi ys
  rises_right lo hi [] ys h = h
  rises_right lo hi (x ∷ xs) ys h = rises_lower period lo (x.at + 1) hi ys (omega (arith, h.0)) (rises_right (x.at + 1) hi xs ys h.2)

  pub skips_none : (start lo hi : ℕ) (entries : List (EntryValue A)) → start ≤ lo → EntriesRise period lo hi entries → SkipsTo start entries entries
  skips_none start lo hi entries le h = record {
    skipped = [];
    is = refl;
    before = All-nil _;
    after = λ j d l. let a = rises_all period lo hi entries h j d l in omega (arith, a, le);
  }
