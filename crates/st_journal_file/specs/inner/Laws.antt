-- A proof that a clause needs, which no reader has to believe.
use Rattle.std.proofs.Common.{◌≡◌, List, ap, ◌∙◌}
use Rattle.sqlite_trees.specs.Tree.{Trees}
use Rattle.st_journal.specs.declared.record.Record.{Record}
use Rattle.st_journal_rows.specs.Table.{changes_in}

pub left_at : (committed db : Trees) (left : List Record) → db ≡ committed → left ≡ changes_in db → left ≡ changes_in committed
left_at committed db left same is = is ∙ ap changes_in same
