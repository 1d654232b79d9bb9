-- A row that is put behind the last.
use Rattle.std.proofs.Common.{◌≡◌, ◌≢◌, if◌then◌else◌, ◌==◌, ◌<◌, ◌+◌, ℕ, pos, List, [], ◌∷◌, ◌++◌, length, take, map, get_or, refl, sym, ap, subst, ◌∙◌, arith, Less, append_assoc, length-append}
use Rattle.std.proofs.lemmas.Int.{ints}
use Rattle.std.proofs.lemmas.Bool.Decides.{nat_tests}
use Rattle.std.proofs.lemmas.List.{take_more, length-take-le}
use Rattle.std.specs.Cmp.{int_cmp_is}
use Rattle.sqlite_value.specs.declared.value.Value.TheVariants.{Int}
use Rattle.sqlite_value.specs.Order.{value_cmp}
use Rattle.sqlite_value.proofs.OrderLemmas.{value_cmp-Int}
use Rattle.sqlite_trees.specs.Tree.{put_row}
use Rattle.sqlite_trees.specs.View.{View, OnlyWrites, SetsTree}
use Rattle.st_journal.specs.declared.record.Record.{Record}
use Rattle.st_journal_rows.specs.Table.{table_tree, row_of, numbered_rows, record_in}
use Rattle.st_journal_rows.specs.inner.Writes.{Adds}
use Rattle.st_journal_rows.proofs.ViewLemmas.{writes_then}

pub below : (m n : ℕ) → m < n → value_cmp (Int (pos m)) (Int (pos n)) ≡ Less
below m n low = value_cmp-Int (pos m) (pos n) ∙ sym (int_cmp_is (pos m) (pos n) Less (omega (arith, ints, low)))

pub put_last : (n at : ℕ) (list : List Record) (r : Record) → at ≡ n + length list → put_row (row_of at r) (numbered_rows n list) ≡ numbered_rows n (list ++ r ∷ [])
put_last n at [] r is = let same : at ≡ n = omega arith in ap (λ k. row_of k r ∷ []) same
put_last n at (x ∷ list) r is = rw (below n at (omega (arith, is))) (ap (λ rows. row_of n x ∷ rows) (put_last (n + 1) at list r (omega (arith, is))))

pub listed : (n : ℕ) (list : List Record) → map record_in (numbered_rows n list) ≡ list
listed n [] = refl
listed n (r ∷ list) = ap (λ more. r ∷ more) (listed (n + 1) list)

nil : (l : List Record) → l ≡ l ++ []
nil [] = refl
nil (r ∷ l) = ap (λ m. r ∷ m) (nil l)

pub adds_none : (v : View) (count : ℕ) → Adds v v count []
adds_none v count = record { frame = refl; others = λ _ _. refl; rows = λ list _ is. is ∙ ap (numbered_rows 0) (nil list) }

pub adds_one : (old mid new : View) (count : ℕ) (before : List Record) (r : Record) → Adds old mid count before → OnlyWrites mid new
    → SetsTree mid new table_tree (put_row (row_of (count + length before) r)) → Adds old new count (before ++ r ∷ [])
adds_one old mid new count before r had writes sets = record {
  frame = writes_then old mid new had.frame writes;
  others = λ t other. ap (λ (v : View). v.trees t) sets.is ∙ off t other ∙ had.others t other;
  rows = λ list len is.
      ap (λ (v : View). v.trees table_tree) sets.is
      ∙ ap (put_row (row_of (count + length before) r)) (had.rows list len is)
      ∙ put_last 0 (count + length before) (list ++ before) r (omega (arith, len, length-append list before))
      ∙ ap (numbered_rows 0) (append_assoc list before (r ∷ []));
}
  where
    off : (t : ℕ) → t ≢ table_tree → (if t == table_tree then put_row (row_of (count + length before) r) (mid.trees table_tree) else mid.trees t) ≡ mid.trees t
    off t other = grind (arith, nat_tests, other)

pub adds_at : (old mid new : View) (count i : ℕ) (records : List Record) (r : Record) → i < length records → get_or records i r ≡ r → Adds old mid count (take i records) → OnlyWrites mid new
    → SetsTree mid new table_tree (put_row (row_of (count + i) r)) → Adds old new count (take (i + 1) records)
adds_at old mid new count i records r low is had writes sets =
    let len : length (take i records) ≡ i = length-take-le i records (omega (arith, low)) in
    let more : take (i + 1) records ≡ take i records ++ r ∷ [] = take_more records i r low ∙ ap (λ c. take i records ++ c ∷ []) is in
    subst (Adds old new count) (sym more) (adds_one old mid new count (take i records) r had writes (subst (λ k. SetsTree mid new table_tree (put_row (row_of (count + k) r))) (sym len) sets))
