-- Putting a row into its entry, and an entry into a list.
use Rattle.std.proofs.Common.{◌≡◌, ℕ, ◌+◌, ◌<◌, ◌≤◌, List, [], ◌∷◌, ◌++◌, length, get_or, set, take, drop, refl, sym, ap, subst, ◌∙◌, suc, arith, append_assoc, length-append, take-append-drop}
use Rattle.std.proofs.lemmas.List.{set-get_or, set_split}
use Rattle.std.proofs.lemmas.List.Elements.{All-cons, All-weaker}
use Rattle.std.specs.List.{All, insert}
use Rattle.std.specs.List.Sorted.{IsNonDecreasingBy, IsPartitionPoint}
use Rattle.std.specs.declared.cmp.Ordering.TheVariants.{Less, Equal, Greater}
use Rattle.std.specs.Ordering.{nat_cmp, ordering_index}
use Rattle.std.specs.Cmp.{nat_cmp_total}
use Rattle.st_index.specs.inner.Entries.{Name, name_of, EntryValue, IsEntry, EntriesRise, NamesRise, name_cmp, rank_of, rows_of}
use Rattle.st_index.specs.inner.Index.{Adds, IsAbsent}
use Rattle.st_index.proofs.Climbing.{all_left, all_right, all_put, within_take, within_drop, climbs_search, climbs_put}
use Rattle.st_index.proofs.Rising.{rises_join, rises_around, rises_cut, rises_climbs}
use Rattle.st_index.proofs.Names.{name_total, name_equal, nat_less_is, nat_greater_is}
use Rattle.st_key.specs.declared.period.Period.{Period}
use Rattle.st_index.specs.declared.row.Row.{Row}

pub split_read : {X : Type 0} → (xs : List X) (i : ℕ) (x : X) → i < length xs → x ≡ get_or xs i x → xs ≡ take i xs ++ x ∷ drop (suc i) xs
split_read xs i x l e = sym (set-get_or xs i x) ∙ set_split xs i (get_or xs i x) l ∙ ap (λ y. take i xs ++ y ∷ drop (suc i) xs) (sym e)

module _ {A : Type 0} where
  pub rows-append : (xs ys : List (EntryValue A)) → rows_of (xs ++ ys) ≡ rows_of xs ++ rows_of ys
  rows-append [] ys = refl
  rows-append (x ∷ xs) ys = ap (λ rs. x.rows ++ rs) (rows-append xs ys) ∙ sym (append_assoc x.rows (rows_of xs) (rows_of ys))

  -- a row put into a part is put into the whole
  pub adds_inside : (row : Row A) (xs ys zs ws : List (Row A)) → Adds row ys zs → Adds row (xs ++ (ys ++ ws)) (xs ++ (zs ++ ws))
  adds_inside row xs ys zs ws h = record {
    front = xs ++ h.front;
    back = h.back ++ ws;
    old_is = ap (λ t. xs ++ (t ++ ws)) h.old_is ∙ simp append_assoc;
    new_is = ap (λ t. xs ++ (t ++ ws)) h.new_is ∙ simp append_assoc;
  }

  pub adds_all : (P : Row A → Type 0) (row : Row A) (old new : List (Row A)) → Adds row old new → All P old → P row → All P new
  adds_all P row old new h a p = subst (All P) (sym h.new_is) (all_put P h.front row h.back (subst (All P) h.old_is a) p)

  pub adds_some : (row : Row A) (old new : List (Row A)) → Adds row old new → new ≡ [] → ⊥
  adds_some row old new h e = let n = ap length (sym h.new_is ∙ e) in omega (arith, n, length-append h.front (row ∷ h.back))

  pub names_put : (rows : List (Row A)) (row : Row A) (i : ℕ)
      → (IsNonDecreasingBy (λ (r : Row A). ordering_index (name_cmp (name_of r) (name_of row))) rows
      → IsPartitionPoint (λ (r : Row A). name_cmp (name_of r) (name_of row) ≡ Less) (λ (r : Row A). name_cmp (name_of r) (name_of row) ≡ Greater) rows
      i) → NamesRise rows → NamesRise (insert rows i row)
  names_put rows row i found h =
      let key : Row A → Name = name_of in
      let at = found (climbs_search name_total key rows h (name_of row)) in
      climbs_put name_total key (take i rows) row (drop i rows) (subst NamesRise (sym (take-append-drop i rows)) h)
      (within_take (λ (r : Row A). name_cmp (name_of r) (name_of row) ≡ Less) i rows at.0)
      (within_drop (λ (r : Row A). name_cmp (name_of r) (name_of row) ≡ Greater) i rows at.1)

  pub adds_insert : (rows : List (Row A)) (row : Row A) (i : ℕ) → Adds row rows (insert rows i row)
  adds_insert rows row i = record { front = take i rows; back = drop i rows; old_is = sym (take-append-drop i rows); new_is = refl }

  pub missing_added : (row : Row A) (es : List (EntryValue A)) (i k : ℕ) → Adds row (rows_of es) (rows_of (insert es i (record { at = k; rows = row ∷ [] })))
  missing_added row es i k = record {
    front = rows_of (take i es);
    back = rows_of (drop i es);
    old_is = ap rows_of (sym (take-append-drop i es)) ∙ rows-append (take i es) (drop i es);
    new_is = rows-append (take i es) (record { at = k; rows = row ∷ [] } ∷ drop i es);
  }

  module _ (row : Row A) (es : List (EntryValue A)) (i : ℕ) (e f : EntryValue A) (l : i < length es) (read : e ≡ get_or es i e) (added : Adds row e.rows f.rows) where
    pub held_added : Adds row (rows_of es) (rows_of (set es i f))
    held_added =
        let old : rows_of es ≡ rows_of (take i es) ++ (e.rows ++ rows_of (drop (suc i) es)) = ap rows_of (split_read es i e l read) ∙ rows-append (take i es) (e ∷ drop (suc i) es) in
        let new : rows_of (set es i f) ≡ rows_of (take i es) ++ (f.rows ++ rows_of (drop (suc i) es)) = ap rows_of (set_split es i f l) ∙ rows-append (take i es) (f ∷ drop (suc i) es) in
        let a = adds_inside row (rows_of (take i es)) e.rows f.rows (rows_of (drop (suc i) es)) added in
        subst (λ t. Adds row t (rows_of (set es i f))) (sym old) (subst (λ t. Adds row (rows_of (take i es) ++ (e.rows ++ rows_of (drop (suc i) es))) t) (sym new) a)

module _ {A : Type 0} (period : Period) where
  -- names

  pub names_held : (rows : List (Row A)) (row : Row A) (i : ℕ) → i < length rows
      → ((d : Row A) → name_cmp (name_of (get_or rows i d)) (name_of row) ≡ Equal) → IsAbsent period (rank_of period row) (name_of row) rows
      → All (λ r. rank_of period r ≡ rank_of period row) rows → ⊥
  names_held rows row i l same absent placed = absent i row l (placed i row l) (name_equal _ _ (same row))

  -- entries

  module _ (row : Row A) (es : List (EntryValue A)) (i : ℕ) (e f : EntryValue A) (l : i < length es) (read : e ≡ get_or es i e) (added : Adds row e.rows f.rows) where
    pub held_rising : f.at ≡ e.at → e.at ≡ rank_of period row
        → (NamesRise e.rows → IsAbsent period (rank_of period row) (name_of row) e.rows → All (λ r. rank_of period r ≡ rank_of period row) e.rows
        → NamesRise f.rows) → (lo hi : ℕ) → EntriesRise period lo hi es → IsAbsent period (rank_of period row) (name_of row) (rows_of es)
        → EntriesRise period lo hi (set es i f)
    held_rising same at named lo hi h absent =
        let P : Row A → Type 0 = λ r. rank_of period r ≡ rank_of period row → (name_of r) ≡ (name_of row) → ⊥ in
        let a = rises_around period lo hi (take i es) e (drop (suc i) es) (subst (EntriesRise period lo hi) (split_read es i e l read) h) in
        let old : rows_of es ≡ rows_of (take i es) ++ (e.rows ++ rows_of (drop (suc i) es)) = ap rows_of (split_read es i e l read) ∙ rows-append (take i es) (e ∷ drop (suc i) es) in
        let inside = all_left P e.rows (rows_of (drop (suc i) es)) (all_right P (rows_of (take i es)) (e.rows ++ rows_of (drop (suc i) es)) (subst (All P) old absent)) in
        let placed : All (λ r. rank_of period r ≡ rank_of period row) e.rows = λ k d b. a.entry.placed k d b ∙ at in
        let entry : IsEntry period f =
        record {
          held = adds_some row e.rows f.rows added;
          placed = subst (λ n. All (λ r. rank_of period r ≡ n) f.rows) (sym (same ∙ at))
              (adds_all (λ r. rank_of period r ≡ rank_of period row) row e.rows f.rows added placed refl);
          named = named a.entry.named inside placed;
        } in
        subst (EntriesRise period lo hi) (sym (set_split es i f l))
        (rises_join period lo e.at hi (take i es) (f ∷ drop (suc i) es) a.front (omega (arith, same), entry, subst (λ n. EntriesRise period (n + 1) hi (drop (suc i) es)) (sym same) a.back))

  pub lone_entry : (row : Row A) → IsEntry period (record { at = rank_of period row; rows = row ∷ [] })
  lone_entry row = record {
    held = λ e. let n = ap length e in omega (arith, n);
    placed = All-cons (λ r. rank_of period r ≡ rank_of period row) row [] refl (λ k d l. absurd (omega (arith, l)));
    named = ((λ k d l. absurd (omega (arith, l))), tt);
  }

  -- where a search finds no entry of a key, the entries before the place are lower, and those after it higher
  pub missing : (k : ℕ) (es : List (EntryValue A)) (i : ℕ) (lo hi : ℕ) → EntriesRise period lo hi es
      → (IsNonDecreasingBy (λ (e : EntryValue A). ordering_index (nat_cmp e.at k)) es
      → IsPartitionPoint (λ (e : EntryValue A). nat_cmp e.at k ≡ Less) (λ (e : EntryValue A). nat_cmp e.at k ≡ Greater) es i)
      → All (λ e. e.at < k) (take i es) × All (λ e. k < e.at) (drop i es)
  missing k es i lo hi h found =
      let key : EntryValue A → ℕ = λ e. e.at in
      let at = found (climbs_search nat_cmp_total key es (rises_climbs period lo hi es h) k) in (
        (λ j d l. nat_less_is _ _ (within_take (λ (e : EntryValue A). nat_cmp e.at k ≡ Less) i es at.0 j d l)),
        (λ j d l. nat_greater_is _ _ (within_drop (λ (e : EntryValue A). nat_cmp e.at k ≡ Greater) i es at.1 j d l)),
      )

  pub missing_rising : (row : Row A) (es : List (EntryValue A)) (i : ℕ) (lo hi : ℕ)
      → (IsNonDecreasingBy (λ (e : EntryValue A). ordering_index (nat_cmp e.at (rank_of period row))) es
      → IsPartitionPoint (λ (e : EntryValue A). nat_cmp e.at (rank_of period row) ≡ Less)
      (λ (e : EntryValue A). nat_cmp e.at (rank_of period row) ≡ Greater) es i) → EntriesRise period lo hi es → lo ≤ rank_of period row
      → rank_of period row < hi → EntriesRise period lo hi (insert es i (record { at = rank_of period row; rows = row ∷ [] }))
  missing_rising row es i lo hi found h a b =
      let k = rank_of period row in
      let m = missing k es i lo hi h found in
      let r = subst (EntriesRise period lo hi) (sym (take-append-drop i es)) h in
      let low = (rises_cut period lo k hi (take i es) (drop i es) r a (omega arith) m.0
      (All-weaker (λ (e : EntryValue A). k < e.at) (λ (e : EntryValue A). k ≤ e.at) (λ e p. omega (arith, p)) (drop i es) m.1)).0 in
      let high = (rises_cut period lo (k + 1) hi (take i es) (drop i es) r (omega arith) (omega arith)
      (All-weaker (λ (e : EntryValue A). e.at < k) (λ (e : EntryValue A). e.at < k + 1) (λ e p. omega (arith, p)) (take i es) m.0)
      (All-weaker (λ (e : EntryValue A). k < e.at) (λ (e : EntryValue A). k + 1 ≤ e.at) (λ e p. omega (arith, p)) (drop i es) m.1)).1 in
      rises_join period lo k hi (take i es) (record { at = k; rows = row ∷ [] } ∷ drop i es) low (omega arith, lone_entry row, high)
