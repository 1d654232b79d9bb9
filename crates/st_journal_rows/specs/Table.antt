-- The records of a journal as the rows of one table.
use Rattle.std.specs.Prelude.{◌+◌, ◌++◌, ℕ, ℤ, pos, List, [], ◌∷◌, drop, map, codes}
use Rattle.sqlite_value.specs.declared.value.Value.{Value}
use Rattle.sqlite_value.specs.declared.value.Value.TheVariants.{Null, Int, Text}
use Rattle.sqlite_value.specs.Order.{Row, column, bytes}
use Rattle.sqlite_trees.specs.Tree.{Trees}
use Rattle.sqlite_trees.specs.declared.store.Shape.TheVariants.{Table}
use Rattle.sqlite_store.specs.declared.catalog.Wanted.{Wanted}
use Rattle.st_journal.specs.declared.record.Record.{Record}

-- the table, as SQL makes it
abbrev pub table_text : List ℕ
table_text =
    codes "CREATE TABLE changes (number INTEGER PRIMARY KEY, time INTEGER NOT NULL, user TEXT NOT NULL, "
    ++ codes "request TEXT NOT NULL, name TEXT NOT NULL, body TEXT NOT NULL, result TEXT NOT NULL) STRICT"

-- the schema of the database: this table alone
abbrev pub schema : List Wanted
schema = record {
  shape = Table;
  reals = 0;
  row = Text (codes "table") ∷ Text (codes "changes") ∷ Text (codes "changes") ∷ Text table_text ∷ [];
} ∷ []

-- the number of the table, the only one in the file
abbrev pub table_tree : ℕ
table_tree = 0

-- The columns are number, time, user, request, name, body and result. The number is the rowid, which a row of SQLite has before its
-- columns, and then there is NULL in its column.
abbrev pub row_of : ℕ → Record → Row
row_of number r =
    Int (pos number) ∷ Null ∷ Int r.time ∷ Text r.user ∷ Text r.request ∷ Text r.name ∷ Text r.body ∷ Text r.result ∷ []

-- the rows of these records, numbered on from this number
abbrev pub numbered_rows : ℕ → List Record → List Row
numbered_rows number [] = []
numbered_rows number (r ∷ records) = row_of number r ∷ numbered_rows (number + 1) records

abbrev pub integer : Value → ℤ
integer (Int n) = n
integer _ = pos 0

-- the record in a row
abbrev pub record_in : Row → Record
record_in cells = record {
  time = integer (column cells 2);
  user = bytes (column cells 3);
  request = bytes (column cells 4);
  name = bytes (column cells 5);
  body = bytes (column cells 6);
  result = bytes (column cells 7);
}

-- the records in a database
abbrev pub records_in : Trees → List Record
records_in trees = map record_in (trees table_tree)

-- The first record, number 0, is not a change: its body says what the store was opened with.
abbrev pub opening_record : ℤ → List ℕ → Record
opening_record time opening =
    record { time = time; user = []; request = codes "open"; name = []; body = opening; result = [] }

-- the records of the changes, which are numbered from 1
abbrev pub changes_in : Trees → List Record
changes_in trees = drop 1 (records_in trees)
