-- Why the records of a table are refused to an opening.
use Rattle.std.proofs.Common.{◌≡◌, ◌<◌, ◌++◌, ℕ, true, List, [], ◌∷◌, map, length, Some, refl, sym, ap, subst, ◌∙◌, arith}
use Rattle.sqlite_value.specs.Order.{Row}
use Rattle.sqlite_trees.specs.Tree.{Trees}
use Rattle.sqlite_trees.specs.View.{View, Advances}
use Rattle.st_journal.specs.declared.record.Record.{Record}
use Rattle.st_journal_rows.specs.declared.error.OpenError.{OpenError}
use Rattle.st_journal_rows.specs.declared.error.OpenError.TheVariants.{OtherOwner, OtherOpening, InUse, LaterFormat, NotAJournal}
use Rattle.st_journal_rows.specs.declared.error.OpenError.TheVariants.{Damaged, Interrupted, Io, NoMemory}
use Rattle.st_journal_rows.specs.Table.{table_tree, row_of, numbered_rows, record_in, records_in, opening_record}
use Rattle.st_journal_rows.specs.Openings.{AreOf, AreRefused}
use Rattle.st_journal_rows.specs.inner.NoOther.{IsNoOther}
use Rattle.st_journal_rows.specs.OpenedTable.{IsAtRest}
use Rattle.st_journal_rows.proofs.Reading.{HasRead}

-- what other records are, these are too
carried : (opening : List ℕ) (some all : List Record) (error : OpenError) → ((other : List ℕ) → AreOf other some → AreOf other all)
    → AreRefused opening some error → AreRefused opening all error
carried opening some all OtherOwner more (other, are, why) = (other, more other are, why)
carried opening some all OtherOpening more (other, are, why) = (other, more other are, why)
carried opening some all InUse more why = tt
carried opening some all (LaterFormat n) more why = tt
carried opening some all NotAJournal more why = tt
carried opening some all Damaged more why = tt
carried opening some all Interrupted more why = tt
carried opening some all Io more why = tt
carried opening some all NoMemory more why = tt

pub told_none : (opening : List ℕ) (records : List Record) (error : OpenError) → IsNoOther error → AreRefused opening records error
told_none opening records OtherOwner none = absurd none
told_none opening records OtherOpening none = absurd none
told_none opening records InUse none = tt
told_none opening records (LaterFormat n) none = tt
told_none opening records NotAJournal none = tt
told_none opening records Damaged none = tt
told_none opening records Interrupted none = tt
told_none opening records Io none = tt
told_none opening records NoMemory none = tt

same_first : (change other : Record) (more others : List Record) → change ∷ more ≡ other ∷ others → change ≡ other
same_first change other more others is = cc

-- a record that is not taken tells why the table is refused
pub refused : {S : Type 0} (applies : S → Record → S → Type 0) (opening : List ℕ) (old mid new : View) (change : Record) (count : ℕ) (before m : S)
    (row : Row) (error : OpenError) → HasRead applies opening old mid count before m → Advances mid new 0 row true → row ≡ row_of count change
    → AreRefused opening (change ∷ []) error → (0 < count → IsNoOther error) → AreRefused opening (records_in old.trees) error
refused applies opening old mid new change count before m row error had moves is first later = go had.done refl
  where
    go : (done : List Record) → had.done ≡ done → AreRefused opening (records_in old.trees) error
    go (x ∷ done) some = told_none opening (records_in old.trees) error (later (omega (arith, had.counted, ap length some)))
    go [] none =
        let split : Some had.left ≡ Some (row ∷ moves.0) = sym had.cursor ∙ moves.1 in
        let left : had.left ≡ row ∷ moves.0 = cc in
        let rows : old.trees table_tree ≡ row_of count change ∷ moves.0 =
        had.rows ∙ ap (λ l. numbered_rows 0 l ++ had.left) none ∙ left ∙ ap (λ r. r ∷ moves.0) is in
        let records : records_in old.trees ≡ change ∷ map record_in moves.0 = ap (map record_in) rows in
        carried opening (change ∷ []) (records_in old.trees) error (λ other are. record {
          time = are.time;
          changes = map record_in moves.0;
          are = records ∙ ap (λ r. r ∷ map record_in moves.0) (same_first change (opening_record are.time other) [] are.changes are.are);
        }) first

pub refused_at_rest : (opening : List ℕ) (old : View) (error : OpenError) → IsAtRest old → AreRefused opening (records_in old.trees) error
    → AreRefused opening (records_in old.committed) error
refused_at_rest opening old error rest = subst (λ (t : Trees). AreRefused opening (records_in t) error) rest.is_committed
