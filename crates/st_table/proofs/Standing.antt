-- What the numbers at places say of the rows.
use Rattle.std.proofs.Common.{◌≡◌, ℕ, zero, suc, ◌+◌, ◌*◌, ◌/◌, ◌%◌, ◌^◌, ◌<◌, ◌≤◌, List, [], ◌∷◌, length, filter, get_or, Bool, true, false, refl, sym, ap, ◌∙◌, subst, arith, ⊎_elim}
use Rattle.std.proofs.lemmas.Bool.{eqb-true, eq-eqb, cases_eq, cases_lt}
use Rattle.std.proofs.lemmas.List.Elements.{All-nil, All-cons, All-head, All-tail}
use Rattle.std.specs.List.{All}
use Rattle.st_key.specs.declared.period.Period.{Period}
use Rattle.st_key.specs.declared.period.Period.TheVariants.{Day, Week}
use Rattle.st_text.specs.Texts.{Text}
use Rattle.st_index.specs.declared.row.Row.{Row}
use Rattle.st_index.specs.inner.Index.{IsAbsent}
use Rattle.st_index.specs.inner.Entries.{Name, name_of, key_end, rank_of}
use Rattle.st_index.proofs.Sorting.{rank_below}
use Rattle.st_table.specs.declared.seed.Seed.{Seed}
use Rattle.st_table.specs.Table.{is_named}
use Rattle.st_table.specs.inner.Once.{HasEachOnce, rows_with_name}
use Rattle.st_table.specs.inner.Found.{IsAt}
use Rattle.st_table.specs.inner.Places.{AddsNoKeys, IsTied, KeepsKeys, hash_of, label_hash, name_hash, number_at, place_of, stands_at}
use Rattle.st_table.proofs.Replacing.{elsewhere, named, none_absent}

clash : true ≡ false → ⊥
clash p = cc

module _ {X : Type 0} (f : X → Bool) where
  zero_suc : (n : ℕ) → suc n ≡ 0 → ⊥
  zero_suc n p = cc

  pub none_passes : (xs : List X) → length (filter f xs) ≡ 0 → All (λ x. f x ≡ false) xs
  none_passes [] h = All-nil (λ x. f x ≡ false)
  none_passes (x ∷ xs) h = at (f x) refl (none_passes xs)
    where
      at : (b : Bool) → f x ≡ b → (length (filter f xs) ≡ 0 → All (λ y. f y ≡ false) xs) → All (λ y. f y ≡ false) (x ∷ xs)
      at true e ih = let t : suc (length (filter f xs)) ≡ 0 = simp e at h in absurd (zero_suc (length (filter f xs)) t)
      at false e ih = let t : length (filter f xs) ≡ 0 = simp e at h in All-cons (λ y. f y ≡ false) x xs e (ih t)

  pub some_passes : (xs : List X) → 0 < length (filter f xs) → (x : X) × (f x ≡ true)
  some_passes [] h = absurd (omega (arith, h))
  some_passes (x ∷ xs) h = at (f x) refl (some_passes xs)
    where
      at : (b : Bool) → f x ≡ b → (0 < length (filter f xs) → (y : X) × (f y ≡ true)) → (y : X) × (f y ≡ true)
      at true e ih = (x, e)
      at false e ih = let t : 0 < length (filter f xs) = simp e at h in ih t

  stands_somewhere : (xs : List X) (k : ℕ) (d : X) → k < length xs → f (get_or xs k d) ≡ true → 0 < length (filter f xs)
  stands_somewhere xs k d l e = at (length (filter f xs)) refl
    where
      at : (n : ℕ) → length (filter f xs) ≡ n → 0 < length (filter f xs)
      at zero p = absurd (clash (sym e ∙ none_passes xs p k d l))
      at (suc n) p = omega (arith, p)

  pub filter_none : (xs : List X) → All (λ x. f x ≡ true → ⊥) xs → filter f xs ≡ []
  filter_none [] h = refl
  filter_none (x ∷ xs) h = at (f x) refl (filter_none xs (All-tail (λ y. f y ≡ true → ⊥) x xs h))
    where
      at : (b : Bool) → f x ≡ b → filter f xs ≡ [] → filter f (x ∷ xs) ≡ []
      at true e ih = absurd (All-head (λ y. f y ≡ true → ⊥) x xs h e)
      at false e ih = simp (e, ih)

of_zero : (rank : ℕ) → place_of 0 rank ≡ rank
of_zero rank = omega arith

label_below : (seed : Seed) (label : Text) → label_hash seed label < 2 ^ 15
unfolding label_hash
label_below seed label = omega arith

keys_below : (period : Period) → key_end period ≤ 229376 * 2 ^ 63
keys_below Day = omega arith
keys_below Week = omega arith

pub ranks_below : {A : Type 0} (period : Period) (r : Row A) → rank_of period r < 2 ^ 81
ranks_below period r = let below = rank_below period r in let all = keys_below period in omega (arith, below, all)

module _ {A : Type 0} (seed : Seed) (period : Period) (numbers : List (ℕ × ℕ)) (rows : List (Row A)) (tied : IsTied seed period numbers rows) where
  -- no row of a name stands where the numbers of its hash are 0
  none_between : (name : Name) (hash low high : ℕ) → hash ≡ name_hash seed name.id name.label → ((n : ℕ) → low ≤ n → n < high → number_at numbers (place_of hash n) ≡ 0)
      → All (λ r. name_of r ≡ name → low ≤ rank_of period r → rank_of period r < high → ⊥) rows
  none_between name hash low high is none k d l own from below =
      let r : Row A = get_or rows k d in
      let n : ℕ = rank_of period r in
      let no = none_passes (stands_at seed period (place_of hash n)) rows (sym (tied (place_of hash n)) ∙ none n from below) k d l in
      let place : place_of (name_hash seed r.id r.label) n ≡ place_of hash n = ap (λ (m : Name). place_of (name_hash seed m.id m.label) n) own ∙ ap (λ h. place_of h n) (sym is) in
      clash (sym (eq-eqb (place_of (name_hash seed r.id r.label) n) (place_of hash n) place) ∙ no)

  -- a number that is not 0 is that of a key of the period
  pub in_period : (hash n : ℕ) → n < 2 ^ 81 → 0 < number_at numbers (place_of hash n) → n < key_end period
  in_period hash n low some =
      let held = some_passes (stands_at seed period (place_of hash n)) rows (subst (λ m. 0 < m) (tied (place_of hash n)) some) in
      let r : Row A = held.0 in
      let place : place_of (name_hash seed r.id r.label) (rank_of period r) ≡ place_of hash n = eqb-true _ _ held.1 in
      let below = rank_below period r in
      let all = keys_below period in
      let same : rank_of period r ≡ n = grind (arith, place, below, all, low) in
      subst (λ m. m < key_end period) same below

  -- and of a key that any period has
  pub is_key : (hash n : ℕ) → n < 2 ^ 81 → 0 < number_at numbers (place_of hash n) → n < 229376 * 2 ^ 63
  is_key hash n low some = let p = in_period hash n low some in let all = keys_below period in omega (arith, p, all)

  module _ (keys : List (ℕ × ℕ)) (hash : ℕ) where
    -- no row of an id stands where the keys of its hash have no numbers
    pub none_of_id : KeepsKeys numbers keys hash (2 ^ 96) → (id : Text) → hash ≡ hash_of seed id → (low high : ℕ) → ((n : ℕ) → low ≤ n → n < high → number_at keys (place_of 0 n) ≡ 0)
        → All (λ r. r.id ≡ id → low ≤ rank_of period r → rank_of period r < high → ⊥) rows
    none_of_id keeps id is low high none k d l own from below =
        let r : Row A = get_or rows k d in
        let n : ℕ = rank_of period r in
        let mine : hash ≡ hash_of seed r.id = is ∙ ap (λ t. hash_of seed t) (sym own) in
        let label = label_below seed r.label in
        let low_rank = ranks_below period r in
        let offset : ℕ = label_hash seed r.label * 2 ^ 81 + n in
        let inside : offset < 2 ^ 96 = omega (arith, label, low_rank) in
        let same : offset % 2 ^ 81 ≡ n = omega (arith, low_rank) in
        let place : hash * 2 ^ 96 + offset ≡ place_of (name_hash seed r.id r.label) n = omega (arith, mine) in
        let held = stands_somewhere (stands_at seed period (place_of (name_hash seed r.id r.label) n)) rows k d l (eq-eqb (place_of (name_hash seed r.id r.label) n) _ refl) in
        let some : 0 < number_at numbers (hash * 2 ^ 96 + offset) =
        subst (λ m. 0 < m) (sym (tied (hash * 2 ^ 96 + offset)))
        (subst (λ p. 0 < length (filter (stands_at seed period p) rows)) (sym place) held) in
        let key : 0 < number_at keys (place_of 0 n) = subst (λ m. 0 < number_at keys m) (same ∙ sym (of_zero n)) (keeps offset inside some) in
        let zero = none n from below in
        omega (arith, key, zero)

    -- a key of the id's hash is one of the period
    pub of_period : AddsNoKeys numbers keys hash → (n : ℕ) → n < 2 ^ 81 → 0 < number_at keys (place_of 0 n) → n < key_end period
    of_period adds n low some =
        let has = adds n (subst (λ m. 0 < number_at keys m) (of_zero n) some) in
        let of_key = has.of_key in
        let place : hash * 2 ^ 96 + has.offset ≡ place_of (hash * 2 ^ 15 + has.offset / 2 ^ 81) n = omega (arith, of_key) in
        in_period (hash * 2 ^ 15 + has.offset / 2 ^ 81) n low (subst (λ p. 0 < number_at numbers p) place has.held)

    -- and one that any period has
    pub of_any : AddsNoKeys numbers keys hash → (n : ℕ) → n < 2 ^ 81 → 0 < number_at keys (place_of 0 n) → n < 229376 * 2 ^ 63
    of_any adds n low some = let p = of_period adds n low some in let all = keys_below period in omega (arith, p, all)

  module _ (name : Name) where
    -- the rows of a name stand at this key or later
    abbrev pub Later : ℕ → Type 0
    Later low = All (λ (r : Row A). name_of r ≡ name → low ≤ rank_of period r) rows

    pub later_all : Later 0
    later_all k d l own = omega arith

    pub later_next : (hash low key : ℕ) → hash ≡ name_hash seed name.id name.label → ((n : ℕ) → low ≤ n → n < key → number_at numbers (place_of hash n) ≡ 0)
        → IsAbsent period key name rows → Later low → Later (key + 1)
    later_next hash low key is none absent later k d l own =
        let r : Row A = get_or rows k d in
        let from = later k d l own in
        let between = none_between name hash low key is none k d l own from in
        let apart : rank_of period r ≡ key → ⊥ = λ e. absent k d l e own in
        ⊎_elim (λ below. absurd (between below)) (λ above.
        ⊎_elim (λ e. absurd (apart e)) (λ ne. omega (arith, above, ne)) (cases_eq (rank_of period r) key)) (cases_lt (rank_of period r) key)

    pub none_left : (hash low : ℕ) → hash ≡ name_hash seed name.id name.label → ((n : ℕ) → low ≤ n → n < 2 ^ 81 → number_at numbers (place_of hash n) ≡ 0)
        → Later low → rows_with_name name rows ≡ []
    none_left hash low is none later = filter_none (is_named name.id name.label) rows (λ k d l is_so.
        let r : Row A = get_or rows k d in
        let own : name_of r ≡ name = named name r is_so in
        let below = rank_below period r in
        let all = keys_below period in
        none_between name hash low (2 ^ 81) is none k d l own (later k d l own) (omega (arith, below, all)))

    -- what is held once, and not absent at a key, stands there
    pub found_at : HasEachOnce rows → (key : ℕ) → (IsAbsent period key name rows → ⊥) → IsAt period key name rows
    found_at once key there = at (rows_with_name name rows) refl (once name)
      where
        at : (xs : List (Row A)) → rows_with_name name rows ≡ xs → length xs ≤ 1 → IsAt period key name rows
        at [] e l = absurd (there (none_absent period key name rows e))
        at (r ∷ []) e l = ⊎_elim (λ p. record { row = r; only = e; placed = p })
            (λ ne. absurd (there (elsewhere period (rank_of period r) key name rows (record { row = r; only = e; placed = refl }) (λ p. ne (sym p))))) (cases_eq (rank_of period r) key)
        at (r ∷ s ∷ rs) e l = absurd (omega (arith, l))
