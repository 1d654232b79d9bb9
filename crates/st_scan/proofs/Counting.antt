-- Counts of the rows inside a query, range by range.
use Rattle.std.proofs.Common.{◌≡◌, ℕ, ◌+◌, ◌^◌, ◌<◌, ◌≤◌, List, [], ◌∷◌, Bool, true, false, cond, ◌&&◌, length, nat_eq, nat_le, count_by, get_or, inl, inr, refl, sym, ap, ◌∙◌, arith}
use Rattle.std.proofs.lemmas.Bool.{cases_lt, le-leb, leb-true, lt-leb}
use Rattle.std.proofs.lemmas.List.Elements.{All-head, All-tail}
use Rattle.std.proofs.lemmas.List.Sums.{count_by-le-length, length-filter, sum_by-cons}
use Rattle.std.specs.List.{All}
use Rattle.st_key.specs.declared.key.Key.{Key}
use Rattle.st_key.specs.declared.period.Period.{Period}
use Rattle.st_key.specs.declared.point.Point.{Point}
use Rattle.st_key.specs.Key.{rank}
use Rattle.st_text.specs.Texts.{Text}
use Rattle.st_box.specs.declared.query.Query.{Query}
use Rattle.st_box.specs.Query.{HasKey}
use Rattle.st_index.specs.declared.row.Row.{Row}
use Rattle.st_index.specs.inner.Counting.{count_of, is_counted}
use Rattle.st_index.specs.inner.Fields.{CanAdd, Counts, count_in}
use Rattle.st_index.specs.inner.Index.{rows_between, rows_from}
use Rattle.st_index.specs.inner.Entries.{key_end, rank_of}
use Rattle.st_index.proofs.Tallying.{zero_at}
use Rattle.st_scan.specs.inner.Rows.{has_row}
use Rattle.st_scan.proofs.Filters.{filter_all, filter_none, filter_same}
use Rattle.st_scan.proofs.Keys.{has_below, row_has, row_key}
use Rattle.st_scan.proofs.Steps.{from_parts}
use Rattle.st_scan.proofs.Visible.{count_kept, filter_le}

abbrev one_if : Bool → ℕ
one_if b = cond b 1 0

and_true : (b : Bool) → (b && true) ≡ b
and_true true = refl
and_true false = refl

and_false : (b : Bool) → (b && false) ≡ false
and_false true = refl
and_false false = refl

-- what is so of the tests is so of those that pass another
both : (a b c w : Bool) → (w ≡ true → one_if a ≡ one_if b + one_if c) → one_if (a && w) ≡ one_if (b && w) + one_if (c && w)
both a b c true h = ap one_if (and_true a) ∙ h refl ∙ ap (λ n. n + one_if c) (ap one_if (sym (and_true b))) ∙ ap (λ n. one_if (b && true) + n) (ap one_if (sym (and_true c)))
both a b c false h = ap one_if (and_false a) ∙ ap (λ n. n + 0) (ap one_if (sym (and_false b))) ∙ ap (λ n. one_if (b && false) + n) (ap one_if (sym (and_false c)))

module _ (start first last : ℕ) (from : start ≤ first) (on : first ≤ last + 1) where
  -- a number from the start on is in the range or after it, if it is not between the start and the range
  parted_at : (n : ℕ) → (start ≤ n → first ≤ n) → one_if (nat_le start n) ≡ one_if (nat_le first n && nat_le n last) + one_if (nat_le (last + 1) n)
  parted_at n gap = elim (cases_lt n start) [
    | inl low ↦
        let a : one_if (nat_le start n) ≡ 0 = ap one_if (lt-leb start n low) in
        let b : one_if (nat_le first n && nat_le n last) ≡ 0 = ap (λ b. one_if (b && nat_le n last)) (lt-leb first n (omega (arith, low, from))) in
        let c : one_if (nat_le (last + 1) n) ≡ 0 = ap one_if (lt-leb (last + 1) n (omega (arith, low, from, on))) in
        omega (arith, a, b, c)
    | inr there ↦
        let a : one_if (nat_le start n) ≡ 1 = ap one_if (le-leb start n there) in
        let b : one_if (nat_le first n && nat_le n last) ≡ one_if (nat_le n last) = ap (λ b. one_if (b && nat_le n last)) (le-leb first n (gap there)) in
        elim (cases_lt last n) [
          | inl beyond ↦
              let d : one_if (nat_le n last) ≡ 0 = ap one_if (lt-leb n last beyond) in
              let c : one_if (nat_le (last + 1) n) ≡ 1 = ap one_if (le-leb (last + 1) n (omega (arith, beyond))) in
              omega (arith, a, b, c, d)
          | inr within ↦
              let d : one_if (nat_le n last) ≡ 1 = ap one_if (le-leb n last within) in
              let c : one_if (nat_le (last + 1) n) ≡ 0 = ap one_if (lt-leb (last + 1) n (omega (arith, within))) in
              omega (arith, a, b, c, d)
        ]
  ]

  -- a number is not both in the range and after it
  apart_at : (n : ℕ) → one_if (nat_le first n && nat_le n last) + one_if (nat_le (last + 1) n) ≤ one_if (nat_le start n)
  apart_at n = elim (cases_lt n first) [
    | inl low ↦
        let b : one_if (nat_le first n && nat_le n last) ≡ 0 = ap (λ b. one_if (b && nat_le n last)) (lt-leb first n low) in
        let c : one_if (nat_le (last + 1) n) ≡ 0 = ap one_if (lt-leb (last + 1) n (omega (arith, low, on))) in
        omega (arith, b, c)
    | inr there ↦ let parts = parted_at n (λ _. there) in omega (arith, parts)
  ]

module _ {X : Type 0} where
  -- the counts of two tests are together that of a third
  count_sum : (p r s : X → Bool) (xs : List X) → All (λ x. one_if (p x) ≡ one_if (r x) + one_if (s x)) xs → count_by p xs ≡ count_by r xs + count_by s xs
  count_sum p r s [] h = refl
  count_sum p r s (x ∷ xs) h =
      let here = All-head (λ y. one_if (p y) ≡ one_if (r y) + one_if (s y)) x xs h in
      let rest = count_sum p r s xs (All-tail (λ y. one_if (p y) ≡ one_if (r y) + one_if (s y)) x xs h) in
      omega (arith, here, rest, sum_by-cons (λ y. one_if (p y)) x xs, sum_by-cons (λ y. one_if (r y)) x xs, sum_by-cons (λ y. one_if (s y)) x xs)

  -- or at most that
  count_sum_le : (p r s : X → Bool) (xs : List X) → All (λ x. one_if (r x) + one_if (s x) ≤ one_if (p x)) xs → count_by r xs + count_by s xs ≤ count_by p xs
  count_sum_le p r s [] h = omega arith
  count_sum_le p r s (x ∷ xs) h =
      let here = All-head (λ y. one_if (r y) + one_if (s y) ≤ one_if (p y)) x xs h in
      let rest = count_sum_le p r s xs (All-tail (λ y. one_if (r y) + one_if (s y) ≤ one_if (p y)) x xs h) in
      omega (arith, here, rest, sum_by-cons (λ y. one_if (p y)) x xs, sum_by-cons (λ y. one_if (r y)) x xs, sum_by-cons (λ y. one_if (s y)) x xs)

module _ {A : Type 0} (period : Period) (content : List (Row A)) where
  -- the rows of a range and those after it are no more than those from a place before it on
  parts_fit : (start first last : ℕ) → start ≤ first → first ≤ last + 1
      → length (rows_between period first last content) + length (rows_from period (last + 1) content) ≤ length (rows_from period start content)
  parts_fit start first last from on =
      let p : Row A → Bool = λ row. nat_le start (rank_of period row) in
      let r : Row A → Bool = λ row. nat_le first (rank_of period row) && nat_le (rank_of period row) last in
      let s : Row A → Bool = λ row. nat_le (last + 1) (rank_of period row) in
      let fits = count_sum_le p r s content (λ k d l. apart_at start first last from on (rank_of period (get_or content k d))) in
      omega (arith, fits, length-filter p content, length-filter r content, length-filter s content)

module _ {A : Type 0} (period : Period) (q : Query) (judges : Text → Bool) (field_of : Point → ℕ) (content : List (Row A)) (old : List ℕ) where
  abbrev counts_in : ℕ → Row A → Bool
  counts_in field row = is_counted q judges row && nat_eq (field_of row.point) field

  inside : (field : ℕ) (row : Row A) → counts_in field row ≡ true → has_row q row ≡ true
  inside field row h =
      let counted = from_parts (is_counted q judges row) (nat_eq (field_of row.point) field) h in
      (from_parts (has_row q row) (judges row.label) counted.0).0

  -- how many of the rows from a place on are counted in a field
  abbrev pub in_from : ℕ → ℕ → ℕ
  in_from field place = count_in q judges field_of field (rows_from period place content)

  -- so many are counted in each field before a place
  pub record CountedIn (place : ℕ) (counts : List ℕ) : Type 0 where
    pub is : (field : ℕ) → get_or counts field 0 + in_from field place ≡ get_or old field 0 + count_in q judges field_of field content
    pub fits : (field : ℕ) → get_or counts field 0 + length (rows_from period place content) ≤ length content

  pub in_none : All (λ n. n ≡ 0) old → CountedIn 0 old
  in_none zeros = record {
    is = λ field.
        let whole : rows_from period 0 content ≡ content = filter_all (λ (row : Row A). nat_le 0 (rank_of period row)) content (λ k d l. le-leb 0 _ (omega arith)) in
        ap (λ rows. get_or old field 0 + count_in q judges field_of field rows) whole;
    fits = λ field. let zero = zero_at old zeros field in omega (arith, zero, filter_le (λ (row : Row A). nat_le 0 (rank_of period row)) content);
  }

  pub in_all : (place : ℕ) (counts : List ℕ) → CountedIn place counts → ((k : Key) → HasKey q period k → rank k < place) → Counts q judges field_of content old counts
  in_all place counts counted none = λ field.
      let test : Row A → Bool = λ row. nat_le place (rank_of period row) && counts_in field row in
      let no_row = filter_none test content (λ k d l h.
      let row : Row A = get_or content k d in
      let parts = from_parts (nat_le place (rank_of period row)) (counts_in field row) h in
      let key = row_key period row in
      let low = none key.key (row_has period q row (inside field row parts.1)) in
      let high = leb-true place (rank_of period row) parts.0 in
      absurd (omega (arith, low, key.by_rank, high))) in
      let kept = count_kept (counts_in field) (λ (row : Row A). nat_le place (rank_of period row)) content in
      let is = counted.is field in
      omega (arith, is, kept, length-filter test content, ap length no_row)

  pub in_end : (counts : List ℕ) → CountedIn (key_end period) counts → Counts q judges field_of content old counts
  in_end counts counted = in_all (key_end period) counts counted (λ k has. has_below q period k has)

  module _ (start : ℕ) (now : List ℕ) (counted : CountedIn start now) where
    -- the rows from there on can be counted
    pub in_fits : length content < 2 ^ 64 → CanAdd (length (rows_from period start content)) now
    in_fits few = λ field. let fits = counted.fits field in omega (arith, fits, few)

    -- one more range is counted, and no key of the query is before it
    pub in_more : (first last : ℕ) (new : List ℕ) → start ≤ first → first ≤ last + 1 → ((k : Key) → HasKey q period k → start ≤ rank k → first ≤ rank k)
        → Counts q judges field_of (rows_between period first last content) now new → CountedIn (last + 1) new
    in_more first last new from on gap counts = record {
      is = λ field.
          let p : Row A → Bool = λ row. nat_le start (rank_of period row) in
          let r : Row A → Bool = λ row. nat_le first (rank_of period row) && nat_le (rank_of period row) last in
          let s : Row A → Bool = λ row. nat_le (last + 1) (rank_of period row) in
          let w : Row A → Bool = counts_in field in
          let split = count_sum (λ row. p row && w row) (λ row. r row && w row) (λ row. s row && w row) content (λ k d l.
          let row : Row A = get_or content k d in
          both (p row) (r row) (s row) (w row) (λ h. parted_at start first last from on (rank_of period row) (λ there.
          let key = row_key period row in
          let le = gap key.key (row_has period q row (inside field row h)) (omega (arith, there, key.by_rank)) in
          omega (arith, le, key.by_rank)))) in
          let is = counted.is field in
          let more = counts field in
          omega (arith, is, more, split, count_kept w p content, count_kept w r content, count_kept w s content);
      fits = λ field.
          let fits = counted.fits field in
          let more = counts field in
          let parts = parts_fit period content start first last from on in
          let few = count_by-le-length (counts_in field) (rows_between period first last content) in
          omega (arith, fits, more, parts, few);
    }

-- numbers that are added to zeros are added to any zeros
pub same_zeros : {A : Type 0} (q : Query) (judges : Text → Bool) (field_of : Point → ℕ) (content : List (Row A)) (old zeros new : List ℕ) → All (λ n. n ≡ 0) old → All (λ n. n ≡ 0) zeros
    → Counts q judges field_of content zeros new → Counts q judges field_of content old new
same_zeros q judges field_of content old zeros new are_zeros zeros_too counts = λ field.
    let one = zero_at old are_zeros field in
    let other = zero_at zeros zeros_too field in
    let more = counts field in
    omega (arith, one, other, more)

-- where all is one field, its number is that of all rows that are counted
pub one_field : {A : Type 0} (q : Query) (judges : Text → Bool) (content : List (Row A)) → 0 + count_in q judges (λ (_ : Point). 0) 0 content ≡ count_of q judges content
one_field {A = A} q judges content =
    let here : Row A → Bool = λ row. is_counted q judges row && nat_eq 0 0 in
    let none : 0 + count_by here content ≡ count_by here content = omega arith in
    none
    ∙ sym (length-filter here content)
    ∙ ap length (filter_same here (is_counted q judges) content (λ k d l. and_true (is_counted q judges (get_or content k d))))
    ∙ length-filter (is_counted q judges) content
