-- The rows of a key, and the row of a name among them.
use Rattle.std.proofs.Common.{◌≡◌, ℕ, suc, ◌+◌, ◌<◌, nat_eq, take, drop, List, [], ◌∷◌, ◌++◌, filter, length, get_or, Bool, true, refl, sym, ap, ◌∙◌, subst, arith}
use Rattle.std.specs.List.{All}
use Rattle.std.proofs.lemmas.Bool.{eqb-true, eq-eqb}
use Rattle.std.proofs.lemmas.List.Elements.{All-head, All-tail, filter-append as filter_append}
use Rattle.st_key.specs.declared.period.Period.{Period}
use Rattle.st_index.specs.declared.row.Row.{Row}
use Rattle.st_index.specs.inner.Index.{IsAbsent, IsLeafAt, Region}
use Rattle.st_index.specs.inner.Entries.{Name, name_of, EntryValue, rank_of, rows_of}
use Rattle.st_index.proofs.Climbing.{all_left, all_right}
use Rattle.st_index.proofs.Taking.{absent_entries, absent_high, absent_join, absent_low, around, rows_at, rows_below, rows_from}
use Rattle.st_table.proofs.Standing.{filter_none}

-- what is true of all rows of the entries is true of those of each
pub all_in : {A : Type 0} (P : Row A → Type 0) (es : List (EntryValue A)) (i : ℕ) (e : EntryValue A) → i < length es → e ≡ get_or es i e → All P (rows_of es) → All P e.rows
all_in P es i e low read all = all_left P e.rows _ (all_right P _ _ (subst (All P) (rows_at es i e e low read) all))

nil_after : {X : Type 0} (xs : List X) → xs ++ [] ≡ xs
nil_after [] = refl
nil_after (x ∷ xs) = ap (λ ys. x ∷ ys) (nil_after xs)

module _ {A : Type 0} (period : Period) (k : ℕ) (name : Name) (content : List (Row A)) (region : Region) (entries : List (EntryValue A)) (leaf : IsLeafAt period k content region entries) where
  -- what is absent among the entries of the key's region is absent
  pub absent_all : IsAbsent period k name (rows_of entries) → IsAbsent period k name content
  absent_all absent =
      let early = absent_low period k name leaf.before (λ j d l. let p = leaf.earlier j d l in let f = leaf.from in omega (arith, p, f)) in
      let late = absent_high period k name leaf.after (λ j d l. let p = leaf.later j d l in let t = leaf.to in omega (arith, p, t)) in
      subst (IsAbsent period k name) (sym leaf.parts)
      (absent_join period k name leaf.before (rows_of entries ++ leaf.after) early (absent_join period k name (rows_of entries) leaf.after absent late))

  -- what is absent is absent among them
  pub absent_here : IsAbsent period k name content → IsAbsent period k name (rows_of entries)
  absent_here absent =
      let P : Row A → Type 0 = λ r. rank_of period r ≡ k → name_of r ≡ name → ⊥ in
      let all = subst (All P) leaf.parts absent in
      all_left P (rows_of entries) leaf.after (all_right P leaf.before (rows_of entries ++ leaf.after) all)

  abbrev stands : Row A → Bool
  stands r = nat_eq (rank_of period r) k

  filter_all : (xs : List (Row A)) → All (λ r. rank_of period r ≡ k) xs → filter stands xs ≡ xs
  filter_all [] h = refl
  filter_all (x ∷ xs) h =
      let P : Row A → Type 0 = λ r. rank_of period r ≡ k in
      let e : stands x ≡ true = eq-eqb (rank_of period x) k (All-head P x xs h) in
      let ih = filter_all xs (All-tail P x xs h) in
      simp (e, ih)

  apart : (xs : List (Row A)) → All (λ r. rank_of period r ≡ k → ⊥) xs → filter stands xs ≡ []
  apart xs h = filter_none stands xs (λ i d l e. h i d l (eqb-true _ _ e))

  -- the rows of the key are those among the entries
  among : filter stands content ≡ filter stands (rows_of entries)
  among =
      let early = apart leaf.before (λ j d l e. let p = leaf.earlier j d l in let f = leaf.from in absurd (omega (arith, p, f, e))) in
      let late = apart leaf.after (λ j d l e. let p = leaf.later j d l in let t = leaf.to in absurd (omega (arith, p, t, e))) in
      ap (filter stands) leaf.parts ∙ filter_append stands leaf.before (rows_of entries ++ leaf.after)
      ∙ ap (λ xs. xs ++ filter stands (rows_of entries ++ leaf.after)) early
      ∙ filter_append stands (rows_of entries) leaf.after ∙ ap (λ xs. filter stands (rows_of entries) ++ xs) late ∙ nil_after (filter stands (rows_of entries))

  pub entry_rows : (i : ℕ) (e : EntryValue A) → i < length entries → e ≡ get_or entries i e → e.at ≡ k → e.rows ≡ filter stands content
  entry_rows i e low read at =
      let a = around period entries i e e low read region.first (region.last + 1) leaf.rising in
      let front = apart (rows_of (take i entries)) (λ j d l q. let p = rows_below period region.first e.at (take i entries) a.front j d l in absurd (omega (arith, p, q, at))) in
      let back = apart (rows_of (drop (suc i) entries)) (λ j d l q. let p = rows_from period (e.at + 1) (region.last + 1) (drop (suc i) entries) a.back j d l in absurd (omega (arith, p, q, at))) in
      let here = filter_all e.rows (λ j d l. a.entry.placed j d l ∙ at) in
      sym (among ∙ ap (filter stands) (rows_at entries i e e low read)
      ∙ filter_append stands (rows_of (take i entries)) (e.rows ++ rows_of (drop (suc i) entries))
      ∙ ap (λ xs. xs ++ filter stands (e.rows ++ rows_of (drop (suc i) entries))) front
      ∙ filter_append stands e.rows (rows_of (drop (suc i) entries)) ∙ ap (λ xs. filter stands e.rows ++ xs) back ∙ nil_after (filter stands e.rows) ∙ here)

  pub no_entry : All (λ (e : EntryValue A). e.at ≡ k → ⊥) entries → [] ≡ filter stands content
  no_entry none = sym (among ∙ apart (rows_of entries) (λ j d l e.
      absent_entries period k (name_of (get_or (rows_of entries) j d)) entries region.first (region.last + 1) leaf.rising none j d l e refl))
