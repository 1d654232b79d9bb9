use Rattle.std.proofs.Common.{rules}
use Rattle.st_journal_rows.proofs.Reading.{record_read}
use Rattle.st_journal_rows.proofs.read.read_row.Goals as goal

pub returns-clause-ok : goal.returns-clause-ok
returns-clause-ok c = record_read c.args.row.now c.args.number _ _ _ _ _ _ (search rules) (search rules) (search rules) (search rules) (search rules)
    (search rules) (search rules) (search rules) (search rules)
