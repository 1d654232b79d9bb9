use Rattle.std.proofs.Common.{sym}
use Rattle.st_json_reply.proofs.refusal.write_refusal.Goals as goal

pub returns-in-TableExists : goal.returns-in-TableExists
returns-in-TableExists g c = rw (c.in-TableExists.is, sym c.as_str-in-TableExists.ensures.value) c.write_two-in-TableExists.ensures

pub returns-in-UserExists : goal.returns-in-UserExists
returns-in-UserExists g c = rw (c.in-UserExists.is, sym c.as_str-in-UserExists.ensures.value) c.write_two-in-UserExists.ensures
