-- Rows of the table, read one by one by their numbers.
use Rattle.std.proofs.Common.{◌≡◌, ◌<◌, ◌≤◌, ◌+◌, ℕ, zero, suc, pos, true, false, List, [], ◌∷◌, ◌++◌, Some, None, map, filter, drop, take, slice_get}
use Rattle.std.proofs.Common.{get_or, length, refl, sym, ap, ◌∙◌, arith, Equal, Greater}
use Rattle.std.specs.Prelude.{Option}
use Rattle.std.proofs.lemmas.Int.{ints}
use Rattle.std.proofs.lemmas.List.{take_more}
use Rattle.std.specs.Cmp.{int_cmp_is}
use Rattle.sqlite_value.specs.declared.value.Value.TheVariants.{Int}
use Rattle.sqlite_value.specs.Order.{Row, value_cmp}
use Rattle.sqlite_value.proofs.OrderLemmas.{value_cmp-Int}
use Rattle.sqlite_trees.specs.Tree.{has_rowid}
use Rattle.sqlite_trees.specs.View.{Finds}
use Rattle.st_journal.specs.declared.record.Record.{Record}
use Rattle.st_journal_rows.specs.Table.{row_of, numbered_rows, record_in}
use Rattle.st_journal_rows.proofs.RowLemmas.{below}

even : (m n : ℕ) → m ≡ n → value_cmp (Int (pos m)) (Int (pos n)) ≡ Equal
even m n same = value_cmp-Int (pos m) (pos n) ∙ sym (int_cmp_is (pos m) (pos n) Equal (omega (arith, ints, same)))

above : (m n : ℕ) → n < m → value_cmp (Int (pos m)) (Int (pos n)) ≡ Greater
above m n high = value_cmp-Int (pos m) (pos n) ∙ sym (int_cmp_is (pos m) (pos n) Greater (omega (arith, ints, high)))

-- the row of a record, where there is one
abbrev rows_at : ℕ → Option Record → List Row
rows_at number None = []
rows_at number (Some r) = row_of number r ∷ []

no_row : (n number : ℕ) (records : List Record) → number < n → filter (has_rowid (pos number)) (numbered_rows n records) ≡ []
no_row n number [] low = refl
no_row n number (r ∷ records) low = rw (above n number low) (no_row (n + 1) number records (omega (arith, low)))

one_row : (n i k : ℕ) (records : List Record) → k ≡ n + i → filter (has_rowid (pos k)) (numbered_rows n records) ≡ rows_at k (slice_get records i)
one_row n i k [] is = refl
one_row n zero k (r ∷ records) is =
    let same : n ≡ k = omega (arith, is) in
    rw (even n k same, no_row (n + 1) k records (omega (arith, is))) (ap (λ j. row_of j r ∷ []) same)
one_row n (suc i) k (r ∷ records) is = rw (below n k (omega (arith, is))) (one_row (n + 1) i k records (omega (arith, is)))

head_of : (r s : Record) → record_in (row_of 0 r) ∷ [] ≡ record_in (row_of 0 s) ∷ [] → r ≡ s
head_of r s is = cc (is)

some_at : (number : ℕ) (o : Option Record) (r : Record) → rows_at number o ≡ row_of number r ∷ [] → Some r ≡ o
some_at number None r is = absurd (cc (is))
some_at number (Some s) r is = ap Some (sym (head_of s r (ap (map record_in) is)))

none_at : (number : ℕ) (o : Option Record) → rows_at number o ≡ [] → None ≡ o
none_at number None is = refl
none_at number (Some s) is = absurd (cc (is))

-- the row that was found is that of the record at this number
pub found_row : (number : ℕ) (rows : List Row) (records : List Record) (row : Row) (r : Record) → Finds rows (pos number) row true
    → rows ≡ numbered_rows 0 records → row ≡ row_of number r → Some r ≡ slice_get records number
found_row number rows records row r finds are is =
    some_at number (slice_get records number) r
    (sym (one_row 0 number number records (omega arith)) ∙ ap (filter (has_rowid (pos number))) (sym are) ∙ finds ∙ ap (λ x. x ∷ []) is)

pub found_none : (number : ℕ) (rows : List Row) (records : List Record) (row : Row) → Finds rows (pos number) row false
    → rows ≡ numbered_rows 0 records → None ≡ slice_get records number
found_none number rows records row finds are =
    none_at number (slice_get records number)
    (sym (one_row 0 number number records (omega arith)) ∙ ap (filter (has_rowid (pos number))) (sym are) ∙ finds)

slice_drop : (n i : ℕ) (all : List Record) → slice_get all (n + i) ≡ slice_get (drop n all) i
slice_drop zero i all = let same : 0 + i ≡ i = omega arith in ap (slice_get all) same
slice_drop (suc n) i [] = refl
slice_drop (suc n) i (r ∷ all) = let same : suc n + i ≡ suc (n + i) = omega arith in ap (slice_get (r ∷ all)) same ∙ slice_drop n i all

there : (i : ℕ) (xs : List Record) (r : Record) → Some r ≡ slice_get xs i → i < length xs
there i [] r is = absurd (cc (is))
there zero (x ∷ xs) r is = omega arith
there (suc i) (x ∷ xs) r is = let low = there i xs r is in omega (arith, low)

got : (i : ℕ) (xs : List Record) (r : Record) → Some r ≡ slice_get xs i → get_or xs i r ≡ r
got i [] r is = absurd (cc (is))
got zero (x ∷ xs) r is = cc (is)
got (suc i) (x ∷ xs) r is = got i xs r is

-- one record more
pub taken_next : (n i : ℕ) (all : List Record) (r : Record) → Some r ≡ slice_get all (n + i)
    → take (i + 1) (drop n all) ≡ take i (drop n all) ++ r ∷ []
taken_next n i all r is =
    let here = is ∙ slice_drop n i all in
    take_more (drop n all) i r (there i (drop n all) r here) ∙ ap (λ c. take i (drop n all) ++ c ∷ []) (got i (drop n all) r here)

all_taken : (i m : ℕ) (xs : List Record) → None ≡ slice_get xs i → i ≤ m → take i xs ≡ take m xs
all_taken zero zero [] is low = refl
all_taken zero (suc m) [] is low = refl
all_taken (suc i) zero [] is low = refl
all_taken (suc i) (suc m) [] is low = refl
all_taken zero m (x ∷ xs) is low = absurd (cc (is))
all_taken (suc i) zero (x ∷ xs) is low = absurd (omega (arith, low))
all_taken (suc i) (suc m) (x ∷ xs) is low = ap (λ l. x ∷ l) (all_taken i m xs is (omega (arith, low)))

-- no record more
pub taken_all : (n i m : ℕ) (all : List Record) → None ≡ slice_get all (n + i) → i ≤ m → take i (drop n all) ≡ take m (drop n all)
taken_all n i m all is low = all_taken i m (drop n all) (is ∙ slice_drop n i all) low

abbrev nothing : List Record
nothing = []

dropped_none : (n : ℕ) → drop n nothing ≡ nothing
dropped_none zero = refl
dropped_none (suc n) = refl

-- what is read behind the first record is what is read of the changes
pub of_changes : (from most : ℕ) (records : List Record) → take most (drop (from + 1) records) ≡ take most (drop from (drop 1 records))
of_changes from most [] = ap (take most) (dropped_none (from + 1) ∙ sym (dropped_none from))
of_changes from most (r ∷ records) = let same : from + 1 ≡ suc from = omega arith in ap (take most) (ap (λ k. drop k (r ∷ records)) same)
