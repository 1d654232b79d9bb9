use Rattle.st_connection.proofs.Reading.{begins_front}
use Rattle.st_connection.proofs.law.first_items.Goals as goal

pub returns : goal.returns
returns c = begins_front
