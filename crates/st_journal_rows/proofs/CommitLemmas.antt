-- A transaction that was committed, and one that a crash cut off.
use Rattle.std.proofs.Common.{◌≡◌, ◌≢◌, ◌<◌, Ok, Err, OnOk, OnErr, Result, ℕ, Bool, true, false, List, [], ◌∷◌, map, length, IsTrue, refl, sym, ap, subst, ◌∙◌, arith}
use Rattle.std.proofs.lemmas.Bool.Decides.{nat_tests}
use Rattle.sqlite_value.specs.Order.{Row}
use Rattle.sqlite_trees.specs.Tree.{Trees, with_tree}
use Rattle.sqlite_trees.specs.Objects.{catalog_tree, version_tree}
use Rattle.sqlite_trees.specs.View.{View, IsClean, Commits, KeepsCommitted, IsRolledBack, SetsTree}
use Rattle.st_journal.specs.declared.record.Record.{Record}
use Rattle.st_journal.specs.declared.journal.AppendError.{AppendError}
use Rattle.st_journal.specs.declared.journal.AppendError.TheVariants.{Unknown}
use Rattle.st_journal_rows.specs.Table.{table_tree, numbered_rows, record_in, records_in}
use Rattle.st_journal_rows.specs.Ready.{ListsTable, HasRows, IsReady}
use Rattle.st_journal_rows.specs.inner.Putting.{HasTable}
use Rattle.st_journal_rows.specs.inner.Writes.{Adds}
use Rattle.st_journal_rows.proofs.RowLemmas.{listed}

pub records_of : (v : View) (records : List Record) → HasRows v records → records_in v.trees ≡ records
records_of v records has = ap (map record_in) has.rows ∙ listed 0 records

pub open_of : (is_open is_broken : Bool) → (is_open ≡ false → IsTrue is_broken) → is_broken ≡ false → IsTrue is_open
open_of true is_broken law sound = refl
open_of false is_broken law sound = absurd (let e = law refl in cc)

pub committed : (mid new : View) (records : List Record) (count : ℕ) → HasRows mid records → count ≡ length records → 0 < count
    → (new.is_open ≡ false → IsTrue new.is_broken) → Commits mid new → IsReady new count
committed mid new records count has counted some law commits =
    let sound : new.is_broken ≡ false = ap (λ (v : View). v.is_broken) commits.is ∙ has.sound in
    let trees : new.trees ≡ mid.trees = ap (λ (v : View). v.trees) commits.is in
    let rows : new.trees table_tree ≡ numbered_rows 0 records = ap (λ (t : Trees). t table_tree) trees ∙ has.rows in
    let same : records_in new.trees ≡ records = ap (map record_in) rows ∙ listed 0 records in
    record {
      is_open = open_of new.is_open new.is_broken law sound;
      is_committed = trees ∙ sym (ap (λ (v : View). v.committed) commits.is);
      shapes = ap (λ (v : View). v.shape) commits.is ∙ sym (ap (λ (v : View). v.committed_shape) commits.is);
      rows = record {
        sound = sound;
        numbered = subst IsTrue (sym (ap (λ (v : View). v.is_numbered) commits.is)) has.numbered;
        listed = ap (λ (t : Trees). t catalog_tree) trees ∙ has.listed;
        shape = ap (λ (v : View). v.shape table_tree) commits.is ∙ has.shape;
        rows = rows ∙ ap (numbered_rows 0) (sym same);
      };
      counted = counted ∙ ap length (sym same);
      some = some;
    }

-- records that were committed into an empty table
pub committed_records : (mid new : View) (records : List Record) → HasRows mid records → Commits mid new → records_in new.committed ≡ records
committed_records mid new records has commits = ap records_in (ap (λ (v : View). v.committed) commits.is) ∙ records_of mid records has

unless : (trees : Trees) (rows : List Row) (t tree : ℕ) → t ≢ tree → with_tree trees tree rows t ≡ trees t
unless trees rows t tree other = grind (arith, nat_tests, other)

-- the first record of an empty table, behind the number of the format
pub written : (old mid new : View) (edit : List Row → List Row) (first : Record) → HasRows old [] → SetsTree old mid version_tree edit
    → Adds mid new 0 (first ∷ []) → HasRows new (first ∷ [])
written old mid new edit first empty sets adds = record {
  sound = ap (λ (v : View). v.is_broken) adds.frame ∙ ap (λ (v : View). v.is_broken) sets.is ∙ sets.sound;
  numbered = subst IsTrue (sym (ap (λ (v : View). v.is_numbered) adds.frame ∙ ap (λ (v : View). v.is_numbered) sets.is)) empty.numbered;
  listed = adds.others catalog_tree (λ e. absurd (omega (arith, e))) ∙ ap (λ (v : View). v.trees catalog_tree) sets.is
      ∙ unless old.trees (edit (old.trees version_tree)) catalog_tree version_tree (λ e. absurd (omega (arith, e))) ∙ empty.listed;
  shape = ap (λ (v : View). v.shape table_tree) adds.frame ∙ ap (λ (v : View). v.shape table_tree) sets.is ∙ empty.shape;
  rows = adds.rows [] refl (ap (λ (v : View). v.trees table_tree) sets.is
      ∙ unless old.trees (edit (old.trees version_tree)) table_tree version_tree (λ e. absurd (omega (arith, e))) ∙ empty.rows);
}

-- a database whose table has such rows
pub has_table : (trees : Trees) (records : List Record) → ListsTable trees → trees table_tree ≡ numbered_rows 0 records → 0 < length records → HasTable trees
has_table trees [] listed rows some = absurd (omega (arith, some))
has_table trees (r ∷ records) listed rows some = record { listed = listed; some = omega (arith, ap length rows) }

pub ready_table : (v : View) (count : ℕ) → IsReady v count → HasTable v.committed
ready_table v count ready =
    subst HasTable ready.is_committed (has_table v.trees (records_in v.trees) ready.rows.listed ready.rows.rows (omega (arith, ready.counted, ready.some)))

pub on_ok : {X E P Q : Type 0} (r : Result X E) → (P → Q) → OnOk r P → OnOk r Q
on_ok (Ok x) so h = so h
on_ok (Err e) so h = h

pub on_both : {X E P Q R : Type 0} (r : Result X E) → (P → Q → R) → OnOk r P → OnOk r Q → OnOk r R
on_both (Ok x) so h q = so h q
on_both (Err e) so h q = h

pub on_err_both : {X E P Q R : Type 0} (r : Result X E) → (P → Q → R) → OnErr r P → OnErr r Q → OnErr r R
on_err_both (Ok x) so h q = h
on_err_both (Err e) so h q = so h q

-- what was written is undone, so that the table is as it was
pub rolled_back : (old mid new : View) (count : ℕ) → IsReady old count → KeepsCommitted old mid → IsRolledBack mid new → IsClean new
    → IsTrue new.is_open → IsReady new count
rolled_back old mid new count ready kept rolled clean open' =
    let back = rolled.kept clean in
    let undone = rolled.undone open' in
    let trees : new.trees ≡ old.trees = undone.0 ∙ kept.committed (back.was_open open') ∙ sym ready.is_committed in
    let shapes : mid.shape ≡ mid.committed_shape = kept.shape ∙ ready.shapes ∙ sym kept.committed_shape in
    record {
      is_open = open';
      is_committed = undone.0 ∙ sym (back.committed open');
      shapes = rolled.shape shapes ∙ shapes ∙ sym rolled.committed_shape;
      rows = record {
        sound = undone.1;
        numbered = subst IsTrue (sym (rolled.numbered ∙ kept.numbered)) ready.rows.numbered;
        listed = ap (λ (t : Trees). t catalog_tree) trees ∙ ready.rows.listed;
        shape = ap (λ f. f table_tree) (rolled.shape shapes ∙ kept.shape) ∙ ready.rows.shape;
        rows = ap (λ (t : Trees). t table_tree) trees ∙ ready.rows.rows ∙ ap (λ (t : Trees). numbered_rows 0 (records_in t)) (sym trees);
      };
      counted = ready.counted ∙ ap (λ (t : Trees). length (records_in t)) (sym trees);
      some = ready.some;
    }

-- an error that is known to be another one
pub when_known : {X Y P : Type 0} (e : AppendError) (result : Result X AppendError) (last : Result Y AppendError) → result ≡ Err e → last ≡ Err e
    → last ≢ Err Unknown → (result ≢ Err Unknown → OnErr result P) → P
when_known {P = P} e result last is was known so =
    subst (λ r. OnErr r P) is (so (λ bad. let both : Err e ≡ Err Unknown = sym is ∙ bad in let same : e ≡ Unknown = cc in known (was ∙ ap Err same)))
