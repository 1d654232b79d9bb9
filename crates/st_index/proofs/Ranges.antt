-- Rows that are picked by their ranks.
use Rattle.std.proofs.Common.{◌≡◌, ℕ, ◌<◌, ◌≤◌, ◌&&◌, nat_le, List, [], ◌∷◌, ◌++◌, length, get_or, Bool, true, false, cond, filter, refl, ap, ◌∙◌, arith, length-append}
use Rattle.std.proofs.lemmas.Bool.{le-leb, lt-leb}
use Rattle.std.proofs.lemmas.List.{append-nil}
use Rattle.std.proofs.lemmas.List.Elements.{All-head, All-tail, filter-append}
use Rattle.std.specs.List.{All}
use Rattle.st_key.specs.declared.period.Period.{Period}
use Rattle.st_index.specs.declared.row.Row.{Row}
use Rattle.st_index.specs.inner.Entries.{rank_of}
use Rattle.st_index.specs.inner.Index.{rows_between, rows_from}

module _ {X : Type 0} (p : X → Bool) where
  picks_all : (xs : List X) → All (λ x. p x ≡ true) xs → filter p xs ≡ xs
  picks_all [] h = refl
  picks_all (x ∷ xs) h =
      ap (λ b. cond b (x ∷ filter p xs) (filter p xs)) (All-head (λ y. p y ≡ true) x xs h)
      ∙ ap (λ ys. x ∷ ys) (picks_all xs (All-tail (λ y. p y ≡ true) x xs h))

  picks_none : (xs : List X) → All (λ x. p x ≡ false) xs → filter p xs ≡ []
  picks_none [] h = refl
  picks_none (x ∷ xs) h =
      ap (λ b. cond b (x ∷ filter p xs) (filter p xs)) (All-head (λ y. p y ≡ false) x xs h)
      ∙ picks_none xs (All-tail (λ y. p y ≡ false) x xs h)

not_either : (b : Bool) → b && false ≡ false
not_either true = refl
not_either false = refl

module _ (first last n : ℕ) where
  is_between : first ≤ n → n ≤ last → nat_le first n && nat_le n last ≡ true
  is_between a b = ap (λ t. t && nat_le n last) (le-leb first n a) ∙ le-leb n last b

  is_earlier : n < first → nat_le first n && nat_le n last ≡ false
  is_earlier a = ap (λ t. t && nat_le n last) (lt-leb first n a)

  is_later : last < n → nat_le first n && nat_le n last ≡ false
  is_later b = ap (λ t. nat_le first n && t) (lt-leb n last b) ∙ not_either (nat_le first n)

module _ {A : Type 0} (period : Period) where
  pub from_all : (from : ℕ) (rows : List (Row A)) → All (λ r. from ≤ rank_of period r) rows → rows_from period from rows ≡ rows
  from_all from rows h = picks_all (λ r. nat_le from (rank_of period r)) rows (λ k d l. le-leb from (rank_of period (get_or rows k d)) (h k d l))

  -- of rows in three parts, those in the middle stand at or after this rank
  pub from_middle : (from : ℕ) (before part after : List (Row A)) → All (λ r. from ≤ rank_of period r) part
      → length part ≤ length (rows_from period from (before ++ (part ++ after)))
  from_middle from before part after h =
      let P : Row A → Bool = λ r. nat_le from (rank_of period r) in
      let two = filter-append P part after ∙ ap (λ rs. rs ++ filter P after) (from_all from part h) in
      let all = filter-append P before (part ++ after) ∙ ap (λ rs. filter P before ++ rs) two in
      let long = ap length all in
      omega (arith, long, length-append (filter P before) (part ++ filter P after), length-append part (filter P after))

  module _ (first last : ℕ) where
    pub between_all : (rows : List (Row A)) → All (λ r. first ≤ rank_of period r) rows → All (λ r. rank_of period r ≤ last) rows
        → rows_between period first last rows ≡ rows
    between_all rows a b = picks_all (λ r. nat_le first (rank_of period r) && nat_le (rank_of period r) last) rows
        (λ k d l. is_between first last (rank_of period (get_or rows k d)) (a k d l) (b k d l))

    between_earlier : (rows : List (Row A)) → All (λ r. rank_of period r < first) rows → rows_between period first last rows ≡ []
    between_earlier rows a = picks_none (λ r. nat_le first (rank_of period r) && nat_le (rank_of period r) last) rows
        (λ k d l. is_earlier first last (rank_of period (get_or rows k d)) (a k d l))

    between_later : (rows : List (Row A)) → All (λ r. last < rank_of period r) rows → rows_between period first last rows ≡ []
    between_later rows a = picks_none (λ r. nat_le first (rank_of period r) && nat_le (rank_of period r) last) rows
        (λ k d l. is_later first last (rank_of period (get_or rows k d)) (a k d l))

    -- of rows in three parts, those in the middle are from the first rank to the last
    pub between_middle : (before part after : List (Row A)) → All (λ r. rank_of period r < first) before
        → All (λ r. first ≤ rank_of period r) part → All (λ r. rank_of period r ≤ last) part → All (λ r. last < rank_of period r) after
        → rows_between period first last (before ++ (part ++ after)) ≡ part
    between_middle before part after e a b l =
        let P : Row A → Bool = λ r. nat_le first (rank_of period r) && nat_le (rank_of period r) last in
        filter-append P before (part ++ after) ∙ ap (λ rs. rs ++ filter P (part ++ after)) (between_earlier before e)
        ∙ filter-append P part after ∙ ap (λ rs. rs ++ filter P after) (between_all part a b)
        ∙ ap (λ rs. part ++ rs) (between_later after l) ∙ append-nil part
