-- A stage of the code, which no reader has to believe: what is known of the changes behind the one that is looked at.
use Rattle.std.specs.Prelude.{◌≡◌, List, ◌∷◌, ◌++◌, length, reverse, map, Bool, ◌||◌, Ok}
use Rattle.std.specs.List.{AllByRecursion}
use Rattle.std.specs.HashSet.{contains_text}
use Rattle.std.specs.declared.alloc.Global.{Global}
use Rattle.st_text.specs.Texts.{Text}
use Rattle.st_policy.specs.declared.request.Request.{Request}
use Rattle.st_table.specs.Rows.{Held}
use Rattle.st_journal_record.specs.Records.{ReadsAs}
use Rattle.st_journal_compact.specs.declared.decided.Decided.{Decided}
use Rattle.st_journal_compact.specs.declared.judged_record.JudgedRecord.{JudgedRecord}
use Rattle.st_journal_compact.specs.declared.sieve.Sieve.{Sieve}
use Rattle.st_journal_compact.specs.Shortening.{Noted, is_decided, records_of, shortened}
use Rattle.st_journal_compact.specs.Judging.{judged}

-- the name of a row as one text: the numbers of the bytes of the table's name and of the id, and the three texts
abbrev pub joined : (table id label : Text) → Text
joined table id label = length table ∷ length id ∷ (table ++ (id ++ label))

-- whether a later change decides what becomes of the row
abbrev pub knows_row : Decided → (table id label : Text) → Bool
knows_row d table id label = contains_text d.tables table || contains_text d.rows (joined table id label)

abbrev pub knows : Decided → Held Global → Bool
knows d held = knows_row d held.table held.row.id held.row.label

-- these changes were looked at
pub record Stands (s : Sieve) (rest : List (Noted Global)) : Type 0 where
  pub kept : reverse s.kept.items ≡ records_of (shortened rest)
  pub behind : s.behind ≡ length rest
  pub knows_each : (held : Held Global) → knows s.decided held ≡ is_decided rest held

-- the change was looked at too
pub record Took (old new : Sieve) (it : JudgedRecord) : Type 0 where
  pub request : Request Global
  pub reads : ReadsAs it.note (Ok request)
  pub stands : (rest : List (Noted Global)) → Stands old rest
      → Stands new (record { note = it.note; request = request; accepted = it.accepted } ∷ rest)

-- those behind these were looked at
pub record Past (all left : List JudgedRecord) (s : Sieve) : Type 0 where
  pub rest : List (Noted Global)
  pub all_are : all ≡ left ++ map judged rest
  pub read : AllByRecursion (λ c. ReadsAs c.note (Ok c.request)) rest
  pub stands : Stands s rest
