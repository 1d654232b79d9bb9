use Rattle.std.proofs.Common.{rules}
use Rattle.st_grant.proofs.name.is_byte_of_name.Goals as goal

pub returns-else-is_ascii_alphanumeric : goal.returns-else-is_ascii_alphanumeric
returns-else-is_ascii_alphanumeric c = search rules
