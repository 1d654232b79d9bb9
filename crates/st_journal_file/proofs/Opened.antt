-- What a journal that was opened was found as.
use Rattle.std.proofs.Common.{◌≡◌, ◌⊎◌, inl, inr, ℕ, List, [], ◌∷◌, map, drop, sym, ap, subst, ◌∙◌}
use Rattle.sqlite_wal.specs.Recovery.{Image}
use Rattle.sqlite_trees.specs.View.{View}
use Rattle.st_journal.specs.declared.record.Record.{Record}
use Rattle.st_journal_rows.specs.Table.{table_tree, record_in, records_in, changes_in, opening_record}
use Rattle.st_journal_file.specs.inner.Finding.{Finds}
use Rattle.st_journal_file.specs.Opening.{HoldJournal, HoldNoJournal, Opens}
use Rattle.st_journal_rows.specs.OpenedTable.{OpensTable}

pub opened : {S : Type 0} (applies : S → Record → S → Type 0) (opening : List ℕ) (image : Image) (old new : View) (count : ℕ) (before after : S)
    → Finds image old.committed → OpensTable applies opening old new count before after
    → Opens applies image opening (changes_in new.committed) before after
opened {S} applies opening image old new count before after finds begins =
    let changes : changes_in new.committed ≡ begins.changes = ap (drop 1) begins.records_are in
    subst (λ list. Opens applies image opening list before after) (sym changes) (record { found = go finds begins.found; made = begins.made })
  where
    go : Finds image old.committed
        → (new.committed table_tree ≡ old.committed table_tree) ⊎ ((old.committed table_tree ≡ []) × (begins.changes ≡ []))
        → HoldJournal image opening begins.changes ⊎ (HoldNoJournal image × (begins.changes ≡ []))
    go (inl hold) (inl same) = inl (record {
      trees = old.committed;
      hold = hold;
      time = begins.time;
      records = ap (map record_in) (sym same) ∙ begins.records_are;
    })
    go (inr nothing) (inl same) =
        let none : records_in new.committed ≡ [] = ap (map record_in) (same ∙ nothing.1) in
        absurd (let e : opening_record begins.time opening ∷ begins.changes ≡ [] = sym begins.records_are ∙ none in cc)
    go (inl hold) (inr empty) = inr (inr (old.committed, hold, empty.0), empty.1)
    go (inr nothing) (inr empty) = inr (inl nothing.0, empty.1)
