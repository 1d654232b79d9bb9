-- The rows of the table, read one after another.
use Rattle.std.proofs.Common.{◌≡◌, inl, inr, ◌<◌, ◌+◌, ℕ, ℤ, pos, true, false, IsTrue, IfOk, OnOk, Ok, Err, Result, List, [], ◌∷◌, ◌++◌, map, length}
use Rattle.std.proofs.Common.{Some, refl, sym, ap, subst, ◌∙◌, arith, length-append}
use Rattle.sqlite_value.specs.declared.value.Value.TheVariants.{Null, Int, Text}
use Rattle.sqlite_value.specs.Order.{Row, column}
use Rattle.sqlite_value.specs.Keys.{plain}
use Rattle.sqlite_trees.specs.Tree.{from_key, sought, order_of}
use Rattle.sqlite_trees.specs.declared.store.Direction.TheVariants.{Forward}
use Rattle.sqlite_trees.specs.declared.store.Shape.TheVariants.{Table}
use Rattle.sqlite_trees.specs.Objects.{catalog_tree}
use Rattle.sqlite_trees.specs.View.{View, with_cursor, Advances}
use Rattle.st_journal.specs.declared.record.Record.{Record}
use Rattle.st_journal.specs.Replays.{Replays}
use Rattle.st_journal_rows.specs.Table.{table_tree, row_of, numbered_rows, opening_record}
use Rattle.st_journal_rows.specs.Table.{record_in, records_in}
use Rattle.st_journal_rows.specs.Ready.{HasRows, IsReady}
use Rattle.st_journal_rows.specs.OpenedTable.{IsAtRest, OpensTable}
use Rattle.st_journal_rows.specs.inner.Taking.{Takes, AreTaken, Reads}
use Rattle.st_journal_rows.proofs.RowLemmas.{listed}
use Rattle.st_journal_rows.proofs.CommitLemmas.{open_of}

-- a row of eight columns is these columns
pub eight : (r : Row) → length r ≡ 8
    → r ≡ column r 0 ∷ column r 1 ∷ column r 2 ∷ column r 3 ∷ column r 4 ∷ column r 5 ∷ column r 6 ∷ column r 7 ∷ []
eight (a ∷ b ∷ c ∷ d ∷ e ∷ f ∷ g ∷ h ∷ []) is = refl
eight [] is = absurd (omega (arith, is))
eight (a ∷ []) is = absurd (omega (arith, is))
eight (a ∷ b ∷ []) is = absurd (omega (arith, is))
eight (a ∷ b ∷ c ∷ []) is = absurd (omega (arith, is))
eight (a ∷ b ∷ c ∷ d ∷ []) is = absurd (omega (arith, is))
eight (a ∷ b ∷ c ∷ d ∷ e ∷ []) is = absurd (omega (arith, is))
eight (a ∷ b ∷ c ∷ d ∷ e ∷ f ∷ []) is = absurd (omega (arith, is))
eight (a ∷ b ∷ c ∷ d ∷ e ∷ f ∷ g ∷ []) is = absurd (omega (arith, is))
eight (a ∷ b ∷ c ∷ d ∷ e ∷ f ∷ g ∷ h ∷ i ∷ more) is = absurd (omega (arith, is))

-- a row whose columns are those of a record
pub record_read : (r : Row) (number : ℕ) (time : ℤ) (user request name body result : List ℕ) → length r ≡ 8
    → column r 0 ≡ Int (pos number) → column r 1 ≡ Null → column r 2 ≡ Int time → column r 3 ≡ Text user → column r 4 ≡ Text request
    → column r 5 ≡ Text name → column r 6 ≡ Text body → column r 7 ≡ Text result
    → r ≡ row_of number (record { time = time; user = user; request = request; name = name; body = body; result = result })
record_read r number time user request name body result len is0 is1 is2 is3 is4 is5 is6 is7 =
    eight r len ∙ rw (is0, is1, is2, is3, is4, is5, is6, is7) refl

pub all_rows : (rows : List Row) → from_key plain [] rows ≡ rows
all_rows [] = refl
all_rows ([] ∷ rows) = refl
all_rows ((v ∷ r) ∷ rows) = refl

rows_push : (n at : ℕ) (done : List Record) (change : Record) (left : List Row) → at ≡ n + length done
    → numbered_rows n done ++ row_of at change ∷ left ≡ numbered_rows n (done ++ change ∷ []) ++ left
rows_push n at [] change left is = let same : at ≡ n = omega (arith, is) in ap (λ k. row_of k change ∷ left) same
rows_push n at (x ∷ done) change left is = ap (λ rows. row_of n x ∷ rows) (rows_push (n + 1) at done change left (omega (arith, is)))

nil_rows : (l : List Row) → l ++ [] ≡ l
nil_rows [] = refl
nil_rows (r ∷ l) = ap (λ m. r ∷ m) (nil_rows l)

module _ {S : Type 0} (applies : S → Record → S → Type 0) where
  replays_push : (s t u : S) (changes : List Record) (change : Record) → Replays applies s changes t → applies t change u
      → Replays applies s (changes ++ change ∷ []) u
  replays_push s t u [] change is one = (u, subst (λ x. applies x change u) is one, refl)
  replays_push s t u (x ∷ changes) change (mid, first, rest) one = (mid, first, replays_push mid t u changes change rest one)

  -- what is read so far, and what the cursor has left
  pub record HasRead (opening : List ℕ) (old now : View) (count : ℕ) (before after : S) : Type 0 where
    pub done : List Record
    pub left : List Row
    pub rows : old.trees table_tree ≡ numbered_rows 0 done ++ left
    pub counted : count ≡ length done
    pub cursor : now.cursors 0 ≡ Some left
    pub same : now ≡ record old { cursors = now.cursors }
    pub taken : AreTaken applies opening done before after

  moved : (old new : View) (left : List Row) → new ≡ with_cursor old 0 left → new ≡ record old { cursors = new.cursors }
  moved old new left is = is ∙ ap (λ c. record old { cursors = c }) (sym (ap (λ (v : View). v.cursors) is))

  pub starts : (opening : List ℕ) (old now : View) (before : S) → old.shape table_tree ≡ Table
      → now ≡ with_cursor old 0 (sought (order_of (old.shape table_tree)) Forward [] (old.trees table_tree)) → HasRead opening old now 0 before before
  starts opening old now before table found = let is = rw table at found in record {
    done = [];
    left = old.trees table_tree;
    rows = refl;
    counted = refl;
    cursor = ap (λ (v : View). v.cursors 0) is ∙ ap Some (all_rows (old.trees table_tree));
    same = moved old now _ is;
    taken = refl;
  }

  -- what is read once cursors have moved
  pub behind : (opening : List ℕ) (old mid now : View) (count : ℕ) (before after : S) → mid ≡ record old { cursors = mid.cursors }
      → HasRead opening mid now count before after → HasRead opening old now count before after
  behind opening old mid now count before after move had = record {
    done = had.done;
    left = had.left;
    rows = ap (λ (v : View). v.trees table_tree) (sym move) ∙ had.rows;
    counted = had.counted;
    cursor = had.cursor;
    same = had.same ∙ ap (λ (v : View). record v { cursors = now.cursors }) move;
    taken = had.taken;
  }

  takes : (opening : List ℕ) (count : ℕ) (change : Record) (before m n : S) (done : List Record) → count ≡ length done
      → Takes applies opening count change m n → AreTaken applies opening done before m → AreTaken applies opening (done ++ change ∷ []) before n
  takes opening count change before m n [] counted one taken =
      let first = one.first counted in (first.0, first.1, first.2 ∙ taken)
  takes opening count change before m n (x ∷ done) counted one (time, is, rest) =
      (time, is, replays_push before m n done change rest (one.later (omega (arith, counted))))

  pub reads : (opening : List ℕ) (old mid new : View) (change : Record) (count : ℕ) (before m n : S) (row : Row)
      → HasRead opening old mid count before m → Advances mid new 0 row true → row ≡ row_of count change
      → Takes applies opening count change m n → HasRead opening old new (count + 1) before n
  reads opening old mid new change count before m n row had moves is one =
      let split : Some had.left ≡ Some (row ∷ moves.0) = sym had.cursor ∙ moves.1 in
      let left : had.left ≡ row ∷ moves.0 = cc in
      let now = moved mid new moves.0 moves.2 in
      record {
        done = had.done ++ change ∷ [];
        left = moves.0;
        rows = had.rows ∙ ap (λ l. numbered_rows 0 had.done ++ l) (left ∙ ap (λ r. r ∷ moves.0) is) ∙ rows_push 0 count had.done change moves.0 (omega (arith, had.counted));
        counted = omega (arith, had.counted, length-append had.done (change ∷ []));
        cursor = ap (λ (v : View). v.cursors 0) moves.2;
        same = now ∙ ap (λ (v : View). record v { cursors = new.cursors }) had.same;
        taken = takes opening count change before m n had.done had.counted one had.taken;
      }

  pub ends : (opening : List ℕ) (old mid new : View) (count : ℕ) (before after : S) (row : Row) → HasRead opening old mid count before after
      → Advances mid new 0 row false → Reads applies opening old new count before after
  ends opening old mid new count before after row had stops =
      let none : Some had.left ≡ Some [] = sym had.cursor ∙ stops.0 in
      let left : had.left ≡ [] = cc in
      record {
        records = had.done;
        rows = had.rows ∙ ap (λ l. numbered_rows 0 had.done ++ l) left ∙ nil_rows (numbered_rows 0 had.done);
        counted = had.counted;
        taken = had.taken;
        same = stops.1 ∙ had.same ∙ ap (λ c. record old { cursors = c }) (ap (λ (v : View). v.cursors) (sym stops.1));
      }

  -- a table with records is a journal
  pub resumed : (opening : List ℕ) (old new : View) (count : ℕ) (before after : S) → Reads applies opening old new count before after → 0 < count
      → IsAtRest old → old.shape table_tree ≡ Table → (old.is_open ≡ false → IsTrue old.is_broken) → OpensTable applies opening old new count before after
  resumed opening old new count before after read some rest table law = go read.records refl
    where
      go : (records : List Record) → read.records ≡ records → OpensTable applies opening old new count before after
      go [] none = absurd (omega (arith, some, read.counted, ap length none))
      go (first ∷ changes) is =
          let taken : AreTaken applies opening (first ∷ changes) before after = rw is at read.taken in
          let trees : new.trees ≡ old.trees = ap (λ (v : View). v.trees) read.same in
          let committed : new.committed ≡ old.committed = ap (λ (v : View). v.committed) read.same in
          let found : records_in old.trees ≡ read.records = ap (map record_in) read.rows ∙ listed 0 read.records in
          let same : records_in new.trees ≡ read.records = ap records_in trees ∙ found in
          record {
            ready = record {
              is_open = subst IsTrue (sym (ap (λ (v : View). v.is_open) read.same)) (open_of old.is_open old.is_broken law rest.sound);
              is_committed = trees ∙ rest.is_committed ∙ sym committed;
              shapes = ap (λ (v : View). v.shape) read.same ∙ rest.shapes ∙ sym (ap (λ (v : View). v.committed_shape) read.same);
              rows = record {
                sound = ap (λ (v : View). v.is_broken) read.same ∙ rest.sound;
                numbered = subst IsTrue (sym (ap (λ (v : View). v.is_numbered) read.same)) rest.numbered;
                listed = ap (λ t. t catalog_tree) trees ∙ rest.listed;
                shape = ap (λ (v : View). v.shape table_tree) read.same ∙ table;
                rows = ap (λ t. t table_tree) trees ∙ read.rows ∙ ap (numbered_rows 0) (sym same);
              };
              counted = read.counted ∙ ap length (sym same);
              some = some;
            };
            time = taken.0;
            changes = changes;
            records_are = ap records_in (committed ∙ sym rest.is_committed) ∙ found ∙ is ∙ ap (λ r. r ∷ changes) taken.1;
            made = taken.2;
            found = inl (ap (λ t. t table_tree) committed);
          }

  -- an empty table gets a journal
  pub begun : (opening : List ℕ) (time : ℤ) (old mid new : View) (count : ℕ) (before after : S) → Reads applies opening old mid 0 before after
      → IsAtRest old → IsReady new count → records_in new.committed ≡ opening_record time opening ∷ [] → OpensTable applies opening old new count before after
  begun opening time old mid new count before after read rest ready list = go read.records refl
    where
      go : (records : List Record) → read.records ≡ records → OpensTable applies opening old new count before after
      go (first ∷ changes) is = absurd (omega (arith, read.counted, ap length is))
      go [] none = record {
        ready = ready;
        time = time;
        changes = [];
        records_are = list;
        made = rw none at read.taken;
        found = inr (ap (λ t. t table_tree) (sym rest.is_committed) ∙ read.rows ∙ ap (numbered_rows 0) none, refl);
      }

  -- the table of which no record was read is empty
  pub emptied : (opening : List ℕ) (old mid : View) (before after : S) → Reads applies opening old mid 0 before after → IsAtRest old
      → old.shape table_tree ≡ Table → HasRows mid []
  emptied opening old mid before after read rest table = record {
    sound = ap (λ (v : View). v.is_broken) read.same ∙ rest.sound;
    numbered = subst IsTrue (sym (ap (λ (v : View). v.is_numbered) read.same)) rest.numbered;
    listed = ap (λ (v : View). v.trees catalog_tree) read.same ∙ rest.listed;
    shape = ap (λ (v : View). v.shape table_tree) read.same ∙ table;
    rows = go read.records refl;
  }
    where
      go : (records : List Record) → read.records ≡ records → mid.trees table_tree ≡ []
      go (first ∷ changes) is = absurd (omega (arith, read.counted, ap length is))
      go [] none = ap (λ (v : View). v.trees table_tree) read.same ∙ read.rows ∙ ap (numbered_rows 0) none

pub if_both : {X E Q : Type 0} {P R : X → Type 0} (r : Result X E) → ((x : X) → P x → Q → R x) → IfOk r P → OnOk r Q → IfOk r R
if_both (Ok x) so h q = so x h q
if_both (Err e) so h q = h
