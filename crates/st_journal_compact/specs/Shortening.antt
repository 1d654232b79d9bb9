-- Which recorded changes a short list leaves out.
use Rattle.std.specs.Prelude.{◌≡◌, List, [], ◌∷◌, length, map, Bool, true, false, not, ◌&&◌, ◌||◌, nat_le, if◌then◌else◌, is_none, Ok, ⊤}
use Rattle.std.specs.List.{list_any}
use Rattle.st_dir.specs.Directory.{Directory}
use Rattle.st_policy.specs.declared.request.Request.{Request}
use Rattle.st_policy.specs.declared.request.Request.TheVariants.{Put, Delete, DropTable}
use Rattle.st_policy.specs.Policy.{refusal_of}
use Rattle.st_table.specs.Rows.{Held, is_held}
use Rattle.st_text.specs.Texts.{same}
use Rattle.st_core.specs.Changes.{directory_after}
use Rattle.st_core.specs.State.{State}
use Rattle.st_journal.specs.declared.record.Record.{Record}
use Rattle.st_journal_record.specs.Records.{ReadsAs}

-- it has neither rows nor a change in its audit listing, as the state that a server begins with
abbrev pub IsFresh : {A : Type 0} → State A → Type 0
IsFresh s = (s.rows ≡ []) × (s.audit ≡ [])

-- a change: its record, the request that this is read as, and whether the policy accepts it
pub record Noted (A : Type 0) : Type 0 where
  pub note : Record
  pub request : Request A
  pub accepted : Bool

-- whether the change, if it is accepted, decides what becomes of the row, whatever was there before
abbrev pub decides : {A : Type 0} → Request A → Held A → Bool
decides (Put table row) held = is_held table row.id row.label held
decides (Delete table id label) held = is_held table id label held
decides (DropTable table) held = same held.table table
decides _ held = false

-- whether one of these changes decides what becomes of the row
abbrev pub is_decided : {A : Type 0} → List (Noted A) → Held A → Bool
is_decided rest held = list_any (λ c. c.accepted && decides c.request held) rest

-- whether the change leaves nothing in the rows, where later changes decide of these: it takes a row away, or puts one of them
abbrev pub is_undone : {A : Type 0} → Request A → (Held A → Bool) → Bool
is_undone (Put table row) decided = decided (record { table = table; row = row })
is_undone (Delete table id label) decided = true
is_undone _ decided = false

-- The list does without a change that was refused or is undone, once 1,024 changes stand behind it, for so many are in the audit listing.
abbrev pub is_left_out : {A : Type 0} → Noted A → List (Noted A) → Bool
is_left_out c rest = nat_le 1024 (length rest) && (not c.accepted || is_undone c.request (is_decided rest))

abbrev pub shortened : {A : Type 0} → List (Noted A) → List (Noted A)
shortened [] = []
shortened (c ∷ rest) = if is_left_out c rest then shortened rest else c ∷ shortened rest

-- each is read from its record, and the directory that it meets accepts it or not
abbrev pub AreNoted : {A : Type 0} → Directory A → List (Noted A) → Type 0
AreNoted d [] = ⊤
AreNoted d (c ∷ rest) =
    ReadsAs c.note (Ok c.request)
    × (c.accepted ≡ is_none (refusal_of d c.note.user c.request))
    × AreNoted (if c.accepted then directory_after c.note.user c.request d else d) rest

abbrev pub records_of : {A : Type 0} → List (Noted A) → List Record
records_of = map (λ c. c.note)

-- The first are the records of changes that the directories which they meet, from this one on, judge so; the others those of their short
-- list.
pub record IsShortList {A : Type 0} (d : Directory A) (old short : List Record) : Type 0 where
  pub changes : List (Noted A)
  pub noted : AreNoted d changes
  pub old_are : old ≡ records_of changes
  pub short_are : short ≡ records_of (shortened changes)
