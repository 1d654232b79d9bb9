-- A list of records in place of another.
use Rattle.std.proofs.Common.{◌≡◌, ◌≢◌, if◌then◌else◌, ◌==◌, ◌<◌, ◌≤◌, ◌+◌, ◌-◌, ℕ, suc, zero, pos, false, List, [], ◌∷◌, ◌++◌, length, take, drop}
use Rattle.std.proofs.Common.{IsTrue, refl, sym, ap, subst, ◌∙◌, arith, Equal, length-append}
use Rattle.std.proofs.lemmas.Bool.Decides.{nat_tests}
use Rattle.std.proofs.lemmas.List.{length-take-le}
use Rattle.std.specs.Cmp.{int_cmp_is}
use Rattle.sqlite_value.specs.declared.value.Value.TheVariants.{Int}
use Rattle.sqlite_value.specs.Order.{value_cmp}
use Rattle.sqlite_value.proofs.OrderLemmas.{value_cmp-Int}
use Rattle.sqlite_trees.specs.Tree.{Trees, without_rowid}
use Rattle.sqlite_trees.specs.Objects.{catalog_tree}
use Rattle.sqlite_trees.specs.View.{View, OnlyWrites, SetsTree, Commits}
use Rattle.st_journal.specs.declared.record.Record.{Record}
use Rattle.st_journal_rows.specs.Table.{table_tree, row_of, numbered_rows, records_in, changes_in}
use Rattle.st_journal_rows.specs.Ready.{HasRows, IsReady}
use Rattle.st_journal_rows.specs.inner.Putting.{HasTable}
use Rattle.st_journal_rows.specs.inner.Writes.{Adds, Trims, Replaces}
use Rattle.st_journal_rows.proofs.RowLemmas.{below}
use Rattle.st_journal_rows.proofs.ViewLemmas.{writes_then}
use Rattle.st_journal_rows.proofs.CommitLemmas.{records_of, committed, has_table}

-- ---- rows are taken out from the last one on

equal_number : (n : ℕ) → value_cmp (Int (pos n)) (Int (pos n)) ≡ Equal
equal_number n = value_cmp-Int (pos n) (pos n) ∙ sym (int_cmp_is (pos n) (pos n) Equal refl)

pub without_last : (m n : ℕ) (list : List Record) → n ≡ m + length list → (r : Record)
    → without_rowid (pos n) (numbered_rows m (list ++ r ∷ [])) ≡ numbered_rows m list
without_last m n [] is r = let same : n ≡ m = omega arith in rw (same, equal_number m) refl
without_last m n (x ∷ list) is r =
    rw (below m n (omega (arith, is))) (ap (λ rows. row_of m x ∷ rows) (without_last (m + 1) n list (omega (arith, is)) r))

-- the first of a list, and the one behind them
pub one_less : (k : ℕ) (list : List Record) → k < length list → (r : Record) × (take (suc k) list ≡ take k list ++ r ∷ [])
one_less k [] low = absurd (omega arith)
one_less zero (x ∷ list) low = (x, refl)
one_less (suc k) (x ∷ list) low = let more = one_less k list (omega arith) in (more.0, ap (λ l. x ∷ l) more.1)

all_of : (l : List Record) → take (length l) l ≡ l
all_of [] = refl
all_of (x ∷ l) = ap (λ m. x ∷ m) (all_of l)

take_whole : (n : ℕ) (l : List Record) → length l ≡ n → take n l ≡ l
take_whole n l is = subst (λ k. take k l ≡ l) is (all_of l)

pub trims_none : (v : View) (count left : ℕ) → left ≡ count → Trims v v count left
trims_none v count left whole = record {
  frame = refl;
  others = λ _ _. refl;
  rows = λ list len is. is ∙ ap (numbered_rows 0) (sym (take_whole left list (len ∙ sym whole)));
}

pub trims_one : (old mid new : View) (count left number : ℕ) → left ≤ count → 0 < left → number ≡ left - 1 → Trims old mid count left → OnlyWrites mid new
    → SetsTree mid new table_tree (without_rowid (pos number)) → Trims old new count number
trims_one old mid new count left number most some is had writes sets = record {
  frame = writes_then old mid new had.frame writes;
  others = λ t other. ap (λ (v : View). v.trees t) sets.is ∙ off t other ∙ had.others t other;
  rows = λ list len rows.
      let low : number < length list = omega (arith, is, len, most, some) in
      let next : left ≡ suc number = omega (arith, is, some) in
      let last = one_less number list low in
      ap (λ (v : View). v.trees table_tree) sets.is
      ∙ ap (without_rowid (pos number)) (had.rows list len rows ∙ ap (λ k. numbered_rows 0 (take k list)) next ∙ ap (numbered_rows 0) last.1)
      ∙ without_last 0 number (take number list) (omega (arith, length-take-le number list (omega (arith, low)))) last.0;
}
  where
    off : (t : ℕ) → t ≢ table_tree → (if t == table_tree then without_rowid (pos number) (mid.trees table_tree) else mid.trees t) ≡ mid.trees t
    off t other = grind (arith, nat_tests, other)

-- ---- records behind the first of them

pub replaces : (old mid new : View) (count kept : ℕ) (more : List Record) → kept ≤ count → Trims old mid count kept → Adds mid new kept more
    → Replaces old new count kept more
replaces old mid new count kept more fewer trims adds = record {
  frame = writes_then old mid new trims.frame adds.frame;
  others = λ t other. adds.others t other ∙ trims.others t other;
  rows = λ list len rows. adds.rows (take kept list) (length-take-le kept list (omega (arith, len, fewer))) (trims.rows list len rows);
}

pub replaced : (old mid : View) (count kept : ℕ) (more : List Record) → IsReady old count → Replaces old mid count kept more
    → HasRows mid (take kept (records_in old.trees) ++ more)
replaced old mid count kept more ready it = record {
  sound = ap (λ (v : View). v.is_broken) it.frame ∙ ready.rows.sound;
  numbered = subst IsTrue (sym (ap (λ (v : View). v.is_numbered) it.frame)) ready.rows.numbered;
  listed = it.others catalog_tree (λ e. absurd (omega (arith, e))) ∙ ready.rows.listed;
  shape = ap (λ (v : View). v.shape table_tree) it.frame ∙ ready.rows.shape;
  rows = it.rows (records_in old.trees) (sym ready.counted) ready.rows.rows;
}

length_replaced : (list more : List Record) (kept : ℕ) → kept ≤ length list → kept + length more ≡ length (take kept list ++ more)
length_replaced list more kept fewer = omega (arith, length-append (take kept list) more, length-take-le kept list fewer)

-- what was written and what came of the commit, one after the other
module _ (old mid new : View) (count kept : ℕ) (more : List Record) (ready : IsReady old count) (fewer : kept ≤ count) (some : 0 < kept) where
  module _ (has : HasRows mid (take kept (records_in old.trees) ++ more)) where
    listed_as : records_in mid.trees ≡ take kept (records_in old.committed) ++ more
    listed_as = records_of mid _ has ∙ ap (λ (t : Trees). take kept (records_in t) ++ more) ready.is_committed

    counted_as : kept + length more ≡ length (take kept (records_in old.trees) ++ more)
    counted_as = length_replaced (records_in old.trees) more kept (omega (arith, ready.counted, fewer))

    pub put_ready : (new.is_open ≡ false → IsTrue new.is_broken) → Commits mid new → IsReady new (kept + length more)
    put_ready law commits = committed mid new _ (kept + length more) has counted_as (omega (arith, some)) law commits

    pub put_list : Commits mid new → records_in new.committed ≡ take kept (records_in old.committed) ++ more
    put_list commits = ap records_in (ap (λ (v : View). v.committed) commits.is) ∙ listed_as

    pub put_left : (db : Trees) → db ≡ mid.trees → records_in db ≡ take kept (records_in old.committed) ++ more
    put_left db is = ap records_in is ∙ listed_as

    pub put_table : (db : Trees) → db ≡ mid.trees → HasTable db
    put_table db is = subst HasTable (sym is) (has_table mid.trees _ has.listed has.rows (omega (arith, counted_as, some)))

-- the changes are behind the first record
drop_first : (list more : List Record) → 0 < length list → drop 1 (take 1 list ++ more) ≡ more
drop_first [] more some = absurd (omega (arith, some))
drop_first (x ∷ list) more some = refl

pub changes_replaced : (old : View) (count : ℕ) (more : List Record) (trees : Trees) → IsReady old count
    → records_in trees ≡ take 1 (records_in old.committed) ++ more → changes_in trees ≡ more
changes_replaced old count more trees ready is =
    let same = ap (λ (t : Trees). length (records_in t)) ready.is_committed in
    ap (drop 1) is ∙ drop_first (records_in old.committed) more (omega (arith, ready.counted, ready.some, same))

drop_all : (list more : List Record) (count : ℕ) → count ≡ length list → 0 < count → drop 1 (take count list ++ more) ≡ drop 1 list ++ more
drop_all [] more count is some = absurd (omega (arith, is, some))
drop_all (x ∷ list) more count is some = ap (λ l. drop 1 (l ++ more)) (take_whole count (x ∷ list) (sym is))

pub changes_added : (old : View) (count : ℕ) (more : List Record) (trees : Trees) → IsReady old count
    → records_in trees ≡ take count (records_in old.committed) ++ more → changes_in trees ≡ changes_in old.committed ++ more
changes_added old count more trees ready is =
    let same = ap (λ (t : Trees). length (records_in t)) ready.is_committed in
    ap (drop 1) is ∙ drop_all (records_in old.committed) more count (ready.counted ∙ same) ready.some
