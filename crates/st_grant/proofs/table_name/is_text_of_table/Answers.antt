use Rattle.std.proofs.Common.{rules}
use Rattle.st_grant.proofs.table_name.is_text_of_table.Goals as goal

pub returns-then-is_text_of_name : goal.returns-then-is_text_of_name
returns-then-is_text_of_name c = search rules
