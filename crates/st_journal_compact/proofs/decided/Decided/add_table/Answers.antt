use Rattle.std.proofs.Common.{true, string_bytes}
use Rattle.std.proofs.lemmas.Map.Text.{hash_set_updates_text}
use Rattle.st_journal_compact.proofs.Joining.{knows_table_more}
use Rattle.st_journal_compact.proofs.decided.Decided.add_table.Goals as goal

pub returns : goal.returns
returns c held =
    let key = string_bytes c.in-Ok.text in
    knows_table_more c.args.table.now key held.table _ _ _ c.in-Ok.ensures.ok
    (hash_set_updates_text key c.args.self.now.tables c.insert.new.self true c.in-Ok-insert.ensures.updates held.table)
