-- The server's whole state.
use Rattle.std.specs.Prelude.{ℕ, List, []}
use Rattle.st_text.specs.Texts.{Text}
use Rattle.st_dir.specs.Directory.{Directory, first_directory}
use Rattle.st_policy.specs.declared.entry.Entry.{Entry}
use Rattle.st_table.specs.Rows.{Held}

-- the directory; the rows of all tables, by their tables' names, their ids and their labels, no two of one table, id and label
-- text; and the audit listing
pub record State (A : Type 0) : Type 0 where
  pub directory : Directory A
  pub rows : List (Held A)
  pub audit : List Entry

-- the state that a server begins with
abbrev pub first_state : {A : Type 0} → List ℕ → List Text → State A
first_state digest auths = record { directory = first_directory digest auths; rows = []; audit = [] }
