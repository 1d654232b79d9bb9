use Rattle.std.proofs.Common.{true, string_bytes}
use Rattle.std.proofs.lemmas.Map.Text.{hash_set_updates_text}
use Rattle.st_journal_compact.specs.inner.Stages.{joined}
use Rattle.st_journal_compact.proofs.Joining.{knows_row_more}
use Rattle.st_journal_compact.proofs.decided.Decided.add_row.Goals as goal

pub returns : goal.returns
returns c held =
    let key = string_bytes c.in_ok-text.text in
    knows_row_more c.args.table.now c.args.id.now c.args.label.now key held _ _ _ c.in_ok-text.ensures
    (hash_set_updates_text key c.args.self.now.rows c.insert.new.self true c.in-Ok.ensures.updates (joined held.table held.row.id held.row.label))
