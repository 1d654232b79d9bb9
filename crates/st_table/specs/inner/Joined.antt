-- What laws say of the rows of all tables: how those of one table stand among them.
use Rattle.std.specs.Prelude.{◌≡◌, List, [], ◌++◌, Bool, filter, map}
use Rattle.st_text.specs.Texts.{Text, same, in_order}
use Rattle.st_key.specs.declared.period.Period.{Period}
use Rattle.st_index.specs.declared.row.Row.{Row}
use Rattle.st_index.specs.Order.{scan_key}
use Rattle.st_table.specs.Rows.{Held, full_name, without_row}

-- rows of a table, as they are held
abbrev pub all_held : {A : Type 0} → Text → List (Row A) → List (Held A)
all_held table rows = map (λ row. record { table = table; row = row }) rows

-- the rows without the one of the same table, id and label text
abbrev pub without_held : {A : Type 0} → Held A → List (Held A) → List (Held A)
without_held held rows = without_row held.table held.row.id held.row.label rows

-- no row is in the table
abbrev pub HoldsNone : {A : Type 0} → Text → List (Held A) → Type 0
HoldsNone table rows = filter (λ held. same held.table table) rows ≡ []

-- a table, and rows before its own and behind them
pub record Rest (A : Type 0) : Type 0 where
  pub table : Text
  pub front : List (Held A)
  pub back : List (Held A)

-- the rest is in other tables
abbrev pub IsApart : {A : Type 0} → Rest A → Type 0
IsApart rest = HoldsNone rest.table rest.front × HoldsNone rest.table rest.back

-- a row of the table, as it is held
abbrev pub held_in : {A : Type 0} → Rest A → Row A → Held A
held_in rest row = record { table = rest.table; row = row }

-- the rows of all tables, where the table has these
abbrev pub joined : {A : Type 0} → Rest A → List (Row A) → List (Held A)
joined rest rows = in_order full_name (rest.front ++ (all_held rest.table rows ++ rest.back))

-- a table's rows, and those of all tables in any order
pub record TableInAll (A : Type 0) : Type 0 where
  pub table : Text
  pub rows : List (Row A)
  pub all : List (Held A)
  pub own : filter (λ held. same held.table table) all ≡ all_held table rows

-- the rows that pass a test, as they are scanned
abbrev pub rows_by_key : {A : Type 0} → Period → (Row A → Bool) → List (Row A) → List (Row A)
rows_by_key period test rows = in_order (scan_key period) (filter test rows)
