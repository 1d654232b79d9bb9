-- Taking a row out of its entry, and putting one in its place.
use Rattle.std.proofs.Common.{◌≡◌, ℕ, ◌+◌, ◌<◌, ◌≤◌, List, [], ◌∷◌, ◌++◌, length, get_or, set, take, drop, refl, sym, ap, subst, ◌∙◌, suc, arith, append_assoc, length-append, take-append-drop}
use Rattle.std.proofs.lemmas.List.{set_split, take-set, drop-set-lt}
use Rattle.std.proofs.lemmas.List.Elements.{All-head, All-tail, All-cons, All-append, All-weaker}
use Rattle.std.specs.List.{All, remove}
use Rattle.std.specs.List.Sorted.{IsNonDecreasingBy, IsPartitionPoint}
use Rattle.std.specs.declared.cmp.Ordering.{Ordering}
use Rattle.std.specs.declared.cmp.Ordering.TheVariants.{Less, Equal, Greater}
use Rattle.std.specs.Ordering.{nat_cmp, ordering_index}
use Rattle.std.specs.Cmp.{tied_itself}
use Rattle.st_index.specs.inner.Entries.{Name, name_of, EntryValue, IsEntry, EntriesRise, NamesRise, name_cmp, rank_of, rows_of}
use Rattle.st_index.specs.inner.Index.{Adds, Swaps, IsAbsent, Holds}
use Rattle.st_index.proofs.Climbing.{all_left, all_right, within_take, within_drop, climbs_search, climbs_drop, climbs_swap}
use Rattle.st_index.proofs.Rising.{rises_bounds, rises_from, rises_join, rises_around, rises_all, Around}
use Rattle.st_index.proofs.Names.{name_equal, name_total}
use Rattle.st_index.proofs.Putting.{split_read, rows-append, adds_inside, missing}
use Rattle.st_key.specs.declared.period.Period.{Period}
use Rattle.st_index.specs.declared.row.Row.{Row}

not_less : (n : Name) (m : Name) (o : Ordering) → name_cmp m n ≡ o → (o ≡ Equal → ⊥) → m ≡ n → ⊥
not_less n m o p never e = never (sym p ∙ subst (λ (k : Name). name_cmp m k ≡ Equal) e (tied_itself name_total m))

module _ {A : Type 0} where
  pub removed_adds : (rows : List (Row A)) (i : ℕ) (row : Row A) → i < length rows → row ≡ get_or rows i row → Adds row (remove rows i) rows
  removed_adds rows i row l e = record { front = take i rows; back = drop (suc i) rows; old_is = refl; new_is = split_read rows i row l e }

  pub removed_named : (rows : List (Row A)) (i : ℕ) (row : Row A) → i < length rows → row ≡ get_or rows i row → NamesRise rows → NamesRise (remove rows i)
  removed_named rows i row l e h = climbs_drop name_total name_of (take i rows) row (drop (suc i) rows) (subst NamesRise (split_read rows i row l e) h)

  -- a name that is found at an index is there
  pub names_found : (n : Name) (rows : List (Row A)) (i : ℕ) → i < length rows → ((r : Row A) → name_cmp (name_of (get_or rows i r)) n ≡ Equal) → All (λ (r : Row A). (name_of r) ≡ n → ⊥) rows → ⊥
  names_found n [] i low found gone = absurd (omega (arith, low))
  names_found n (r ∷ rows) i low found gone = gone i r low (name_equal _ _ (found r))

  pub names_missing : (n : Name) (rows : List (Row A)) (i : ℕ)
      → (IsNonDecreasingBy (λ (r : Row A). ordering_index (name_cmp (name_of r) n)) rows
      → IsPartitionPoint (λ (r : Row A). name_cmp (name_of r) n ≡ Less) (λ (r : Row A). name_cmp (name_of r) n ≡ Greater) rows i) → NamesRise rows
      → All (λ (r : Row A). (name_of r) ≡ n → ⊥) rows
  names_missing n rows i found h =
      let at = found (climbs_search name_total name_of rows h n) in
      let P : Row A → Type 0 = λ r. (name_of r) ≡ n → ⊥ in
      let low = All-weaker (λ (r : Row A). name_cmp (name_of r) n ≡ Less) P (λ r p. not_less n (name_of r) Less p (λ q. cc)) (take i rows)
      (within_take (λ (r : Row A). name_cmp (name_of r) n ≡ Less) i rows at.0) in
      let high = All-weaker (λ (r : Row A). name_cmp (name_of r) n ≡ Greater) P (λ r p. not_less n (name_of r) Greater p (λ q. cc)) (drop i rows)
      (within_drop (λ (r : Row A). name_cmp (name_of r) n ≡ Greater) i rows at.1) in
      subst (All P) (take-append-drop i rows) (All-append P (take i rows) (drop i rows) low high)

  pub swapped : (rows : List (Row A)) (i : ℕ) (out row : Row A) → i < length rows → out ≡ get_or rows i out → Swaps out row rows (set rows i row)
  swapped rows i out row l e = record { front = take i rows; back = drop (suc i) rows; old_is = split_read rows i out l e; new_is = set_split rows i row l }

  pub swapped_named : (rows : List (Row A)) (i : ℕ) (out row : Row A) → i < length rows → out ≡ get_or rows i out → (name_of out) ≡ (name_of row) → NamesRise rows → NamesRise (set rows i row)
  swapped_named rows i out row l e n h =
      subst NamesRise (sym (set_split rows i row l))
      (climbs_swap name_total name_of (take i rows) out row (drop (suc i) rows) n (subst NamesRise (split_read rows i out l e) h))

  module _ (es : List (EntryValue A)) (i : ℕ) (e f : EntryValue A) (l : i < length es) (read : e ≡ get_or es i e) where
    pub rows_at : rows_of es ≡ rows_of (take i es) ++ (e.rows ++ rows_of (drop (suc i) es))
    rows_at = ap rows_of (split_read es i e l read) ∙ rows-append (take i es) (e ∷ drop (suc i) es)

    pub rows_set : rows_of (set es i f) ≡ rows_of (take i es) ++ (f.rows ++ rows_of (drop (suc i) es))
    rows_set = ap rows_of (set_split es i f l) ∙ rows-append (take i es) (f ∷ drop (suc i) es)

    pub taken_adds : (row : Row A) → Adds row f.rows e.rows → Adds row (rows_of (set es i f)) (rows_of es)
    taken_adds row h =
        subst (λ t. Adds row (rows_of (set es i f)) t) (sym rows_at) (subst (λ t. Adds row t (rows_of (take i es) ++ (e.rows ++ rows_of (drop (suc i) es)))) (sym rows_set)
        (adds_inside row (rows_of (take i es)) f.rows e.rows (rows_of (drop (suc i) es)) h))

    pub swapped_inside : (out row : Row A) → Swaps out row e.rows f.rows → Swaps out row (rows_of es) (rows_of (set es i f))
    swapped_inside out row h = record {
      front = rows_of (take i es) ++ h.front;
      back = h.back ++ rows_of (drop (suc i) es);
      old_is = rows_at ∙ ap (λ t. rows_of (take i es) ++ (t ++ rows_of (drop (suc i) es))) h.old_is ∙ simp append_assoc;
      new_is = rows_set ∙ ap (λ t. rows_of (take i es) ++ (t ++ rows_of (drop (suc i) es))) h.new_is ∙ simp append_assoc;
    }

    -- an entry with no row left goes
    pub emptied : remove (set es i f) i ≡ remove es i
    emptied = (λ j. take-set es i f j ++ drop-set-lt (suc i) es i f (omega arith) j)

    pub emptied_rows : f.rows ≡ [] → rows_of (remove es i) ≡ rows_of (set es i f)
    emptied_rows none = rows-append (take i es) (drop (suc i) es) ∙ ap (λ t. rows_of (take i es) ++ (t ++ rows_of (drop (suc i) es))) (sym none) ∙ sym rows_set

module _ {A : Type 0} (period : Period) where
  -- rows of one entry

  -- where the rows of entries stand

  pub rows_from : (lo hi : ℕ) (es : List (EntryValue A)) → EntriesRise period lo hi es → All (λ r. lo ≤ rank_of period r) (rows_of es)
  rows_from lo hi [] h = λ k d l. absurd (omega (arith, l))
  rows_from lo hi (e ∷ es) h =
      All-append (λ r. lo ≤ rank_of period r) e.rows (rows_of es)
      (λ k d l. let p = h.1.placed k d l in omega (arith, p, h.0))
      (rows_from lo hi es (rises_from period lo (e.at + 1) hi es (omega (arith, h.0)) h.2))

  pub rows_below : (lo hi : ℕ) (es : List (EntryValue A)) → EntriesRise period lo hi es → All (λ r. rank_of period r < hi) (rows_of es)
  rows_below lo hi [] h = λ k d l. absurd (omega (arith, l))
  rows_below lo hi (e ∷ es) h =
      let b = rises_bounds period (e.at + 1) hi es h.2 in
      All-append (λ r. rank_of period r < hi) e.rows (rows_of es)
      (λ k d l. let p = h.1.placed k d l in omega (arith, p, b))
      (rows_below (e.at + 1) hi es h.2)

  pub absent_low : (k : ℕ) (n : Name) (rows : List (Row A)) → All (λ r. rank_of period r < k) rows → IsAbsent period k n rows
  absent_low k n rows h = λ j d l e named. let p = h j d l in omega (arith, p, e)

  pub absent_high : (k : ℕ) (n : Name) (rows : List (Row A)) → All (λ r. k < rank_of period r) rows → IsAbsent period k n rows
  absent_high k n rows h = λ j d l e named. let p = h j d l in omega (arith, p, e)

  pub absent_join : (k : ℕ) (n : Name) (xs ys : List (Row A)) → IsAbsent period k n xs → IsAbsent period k n ys → IsAbsent period k n (xs ++ ys)
  absent_join k n xs ys a b = All-append (λ r. rank_of period r ≡ k → (name_of r) ≡ n → ⊥) xs ys a b

  pub absent_entries : (k : ℕ) (n : Name) (es : List (EntryValue A)) (lo hi : ℕ) → EntriesRise period lo hi es → All (λ (e : EntryValue A). e.at ≡ k → ⊥) es → IsAbsent period k n (rows_of es)
  absent_entries k n [] lo hi h a = λ j d l. absurd (omega (arith, l))
  absent_entries k n (e ∷ es) lo hi h a =
      absent_join k n e.rows (rows_of es)
      (λ j d l p named. All-head (λ (f : EntryValue A). f.at ≡ k → ⊥) e es a (sym (h.1.placed j d l) ∙ p))
      (absent_entries k n es (e.at + 1) hi h.2 (All-tail (λ (f : EntryValue A). f.at ≡ k → ⊥) e es a))

  -- where a search finds no entry, no entry has the key
  pub missing_key : (k : ℕ) (es : List (EntryValue A)) (i : ℕ) (lo hi : ℕ) → EntriesRise period lo hi es
      → (IsNonDecreasingBy (λ (e : EntryValue A). ordering_index (nat_cmp e.at k)) es
      → IsPartitionPoint (λ (e : EntryValue A). nat_cmp e.at k ≡ Less) (λ (e : EntryValue A). nat_cmp e.at k ≡ Greater) es i)
      → All (λ (e : EntryValue A). e.at ≡ k → ⊥) es
  missing_key k es i lo hi h found =
      let m = missing period k es i lo hi h found in
      let P : EntryValue A → Type 0 = λ e. e.at ≡ k → ⊥ in
      let all = All-append P (take i es) (drop i es) (λ j d l e. let p = m.0 j d l in omega (arith, p, e)) (λ j d l e. let p = m.1 j d l in omega (arith, p, e)) in
      subst (All P) (take-append-drop i es) all

  -- where a search finds no entry, no row has the key
  pub missing_absent : (k : ℕ) (n : Name) (es : List (EntryValue A)) (i : ℕ) (lo hi : ℕ) → EntriesRise period lo hi es
      → (IsNonDecreasingBy (λ (e : EntryValue A). ordering_index (nat_cmp e.at k)) es
      → IsPartitionPoint (λ (e : EntryValue A). nat_cmp e.at k ≡ Less) (λ (e : EntryValue A). nat_cmp e.at k ≡ Greater) es i)
      → IsAbsent period k n (rows_of es)
  missing_absent k n es i lo hi h found =
      absent_entries k n es lo hi h (missing_key k es i lo hi h found)

  -- an entry that changes

  module _ (es : List (EntryValue A)) (i : ℕ) (e f : EntryValue A) (l : i < length es) (read : e ≡ get_or es i e) where
    pub around : (lo hi : ℕ) → EntriesRise period lo hi es → Around period lo hi (take i es) e (drop (suc i) es)
    around lo hi h = rises_around period lo hi (take i es) e (drop (suc i) es) (subst (EntriesRise period lo hi) (split_read es i e l read) h)

    pub changed_rising : (lo hi : ℕ) → f.at ≡ e.at → (IsEntry period e → IsEntry period f) → EntriesRise period lo hi es → EntriesRise period lo hi (set es i f)
    changed_rising lo hi same entry h =
        let a = around lo hi h in
        subst (EntriesRise period lo hi) (sym (set_split es i f l))
        (rises_join period lo e.at hi (take i es) (f ∷ drop (suc i) es) a.front (omega (arith, same), entry a.entry, subst (λ n. EntriesRise period (n + 1) hi (drop (suc i) es)) (sym same) a.back))

    pub emptied_rising : (lo hi : ℕ) → EntriesRise period lo hi es → EntriesRise period lo hi (remove es i)
    emptied_rising lo hi h =
        let a = around lo hi h in
        rises_join period lo e.at hi (take i es) (drop (suc i) es) a.front (rises_from period e.at (e.at + 1) hi (drop (suc i) es) (omega arith) a.back)

    pub absent_around : (lo hi : ℕ) (n : Name) → EntriesRise period lo hi es → All (λ (r : Row A). (name_of r) ≡ n → ⊥) e.rows → IsAbsent period e.at n (rows_of es)
    absent_around lo hi n h none =
        let a = around lo hi h in
        let P : Row A → Type 0 = λ r. rank_of period r ≡ e.at → (name_of r) ≡ n → ⊥ in
        subst (All P) (sym (rows_at es i e f l read))
        (absent_join e.at n (rows_of (take i es)) (e.rows ++ rows_of (drop (suc i) es)) (absent_low e.at n (rows_of (take i es)) (rows_below lo e.at (take i es) a.front))
        (absent_join e.at n e.rows (rows_of (drop (suc i) es)) (λ j d b p named. none j d b named)
        (absent_high e.at n (rows_of (drop (suc i) es)) (λ j d b. let p = rows_from (e.at + 1) hi (drop (suc i) es) a.back j d b in omega (arith, p)))))

  pub taken_entry : (e f : EntryValue A) (row : Row A) → Adds row f.rows e.rows → f.at ≡ e.at → (f.rows ≡ [] → ⊥) → (NamesRise e.rows → NamesRise f.rows) → IsEntry period e → IsEntry period f
  taken_entry e f row h same some named entry =
      let P : Row A → Type 0 = λ r. rank_of period r ≡ e.at in
      let placed = subst (All P) h.new_is entry.placed in
      let rest = All-append P h.front h.back (all_left P h.front (row ∷ h.back) placed) (All-tail P row h.back (all_right P h.front (row ∷ h.back) placed)) in
      record { held = some; placed = subst (λ n. All (λ r. rank_of period r ≡ n) f.rows) (sym same) (subst (All P) (sym h.old_is) rest); named = named entry.named }

  pub taken_placed : (e : EntryValue A) (rows : List (Row A)) (row : Row A) → Adds row rows e.rows → IsEntry period e → rank_of period row ≡ e.at
  taken_placed e rows row h entry =
      let P : Row A → Type 0 = λ r. rank_of period r ≡ e.at in
      All-head P row h.back (all_right P h.front (row ∷ h.back) (subst (All P) h.new_is entry.placed))

  pub swapped_placed : (e : EntryValue A) (rows : List (Row A)) (out row : Row A) → Swaps out row e.rows rows → IsEntry period e → rank_of period out ≡ e.at
  swapped_placed e rows out row h entry =
      let P : Row A → Type 0 = λ r. rank_of period r ≡ e.at in
      All-head P out h.back (all_right P h.front (out ∷ h.back) (subst (All P) h.old_is entry.placed))

  pub swapped_entry : (e f : EntryValue A) (out row : Row A) → Swaps out row e.rows f.rows → f.at ≡ e.at → rank_of period row ≡ e.at
      → (NamesRise e.rows → NamesRise f.rows) → IsEntry period e → IsEntry period f
  swapped_entry e f out row h same at named entry =
      let P : Row A → Type 0 = λ r. rank_of period r ≡ e.at in
      let placed = subst (All P) h.old_is entry.placed in
      let rest = All-append P h.front (row ∷ h.back) (all_left P h.front (out ∷ h.back) placed) (All-cons P row h.back at (All-tail P out h.back (all_right P h.front (out ∷ h.back) placed))) in
      record {
        held = λ none. let n = ap length (sym h.new_is ∙ none) in omega (arith, n, length-append h.front (row ∷ h.back));
        placed = subst (λ n. All (λ r. rank_of period r ≡ n) f.rows) (sym same) (subst (All P) (sym h.new_is) rest);
        named = named entry.named;
      }

  entries_below : (lo hi : ℕ) (es : List (EntryValue A)) → EntriesRise period lo hi es → All (λ (e : EntryValue A). e.at < hi) es
  entries_below lo hi [] h = λ k d l. absurd (omega (arith, l))
  entries_below lo hi (e ∷ es) h =
      let b = rises_bounds period (e.at + 1) hi es h.2 in
      All-cons (λ (f : EntryValue A). f.at < hi) e es (omega (arith, b)) (entries_below (e.at + 1) hi es h.2)

  -- the rows of a key are those of its one entry
  pub only_at : (k : ℕ) (es : List (EntryValue A)) (i : ℕ) (e : EntryValue A) → i < length es → e ≡ get_or es i e → e.at ≡ k → (lo hi : ℕ)
      → EntriesRise period lo hi es → All (λ (f : EntryValue A). f.at ≡ k → length f.rows ≡ length e.rows) es
  only_at k es i e l read at lo hi h =
      let a = around es i e e l read lo hi h in
      let P : EntryValue A → Type 0 = λ f. f.at ≡ k → length f.rows ≡ length e.rows in
      let front : All P (take i es) = λ j d b p. let q = entries_below lo e.at (take i es) a.front j d b in absurd (omega (arith, p, q, at)) in
      let back : All P (drop (suc i) es) = λ j d b p. let q = rises_all period (e.at + 1) hi (drop (suc i) es) a.back j d b in absurd (omega (arith, p, q, at)) in
      subst (All P) (sym (split_read es i e l read)) (All-append P (take i es) (e ∷ drop (suc i) es) front (All-cons P e (drop (suc i) es) (λ p. refl) back))

  pub none_at : (k n : ℕ) (es : List (EntryValue A)) (i : ℕ) (lo hi : ℕ) → EntriesRise period lo hi es
      → (IsNonDecreasingBy (λ (e : EntryValue A). ordering_index (nat_cmp e.at k)) es
      → IsPartitionPoint (λ (e : EntryValue A). nat_cmp e.at k ≡ Less) (λ (e : EntryValue A). nat_cmp e.at k ≡ Greater) es i)
      → All (λ (f : EntryValue A). f.at ≡ k → length f.rows ≡ n) es
  none_at k n es i lo hi h found =
      let m = missing period k es i lo hi h found in
      let P : EntryValue A → Type 0 = λ f. f.at ≡ k → length f.rows ≡ n in
      subst (All P) (take-append-drop i es) (All-append P (take i es) (drop i es)
      (λ j d l e. let p = m.0 j d l in absurd (omega (arith, p, e))) (λ j d l e. let p = m.1 j d l in absurd (omega (arith, p, e))))

  pub absent_held : (k : ℕ) (n : Name) (rows : List (Row A)) → Holds period k n rows → IsAbsent period k n rows → ⊥
  absent_held k n rows h absent =
      let P : Row A → Type 0 = λ r. rank_of period r ≡ k → (name_of r) ≡ n → ⊥ in
      All-head P h.row h.back (all_right P h.front (h.row ∷ h.back) (subst (All P) h.is absent)) h.placed h.named
