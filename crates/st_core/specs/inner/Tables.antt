-- An invariant of a representation, which no reader has to believe: the names and periods of the tables of a store, and all their rows.
use Rattle.std.specs.Prelude.{List, [], ◌∷◌, Bool, Option, find, filter, map, not, if◌then◌else◌}
use Rattle.st_text.specs.Texts.{Text, same}
use Rattle.st_key.specs.declared.period.Period.{Period}
use Rattle.st_dir.specs.declared.table.TableInfo.{TableInfo}
use Rattle.st_table.specs.Rows.{Held, without_table}

-- a table's name and its period
pub record Heading : Type 0 where
  pub table : Text
  pub period : Period

-- headings by the bytes of their names, and the rows of all tables by their full names
pub record TablesValue (A : Type 0) : Type 0 where
  pub headings : List Heading
  pub rows : List (Held A)

abbrev pub heading_key : Heading → List Text
heading_key heading = heading.table ∷ []

abbrev pub is_of : Text → Heading → Bool
is_of table heading = same heading.table table

abbrev pub heading_named : Text → List Heading → Option Heading
heading_named table headings = find (is_of table) headings

-- the headings of the directory's tables
abbrev pub headings_of : List TableInfo → List Heading
headings_of infos = map (λ info. record { table = info.table; period = info.period }) infos

abbrev pub headings_without : Text → List Heading → List Heading
headings_without table headings = filter (λ heading. not (is_of table heading)) headings

-- the table of this name has another period
abbrev pub headings_with : Text → Period → List Heading → List Heading
headings_with table period headings = map (λ heading. if is_of table heading then record heading { period = period } else heading) headings

-- the tables without the one of this name
abbrev pub tables_without : {A : Type 0} → Text → TablesValue A → TablesValue A
tables_without table tables = record { headings = headings_without table tables.headings; rows = without_table table tables.rows }
