use Rattle.std.proofs.Common.{rules}
use Rattle.st_connection.specs.Render.{render}
use Rattle.st_service.proofs.answer.rendered.Goals as goal

pub returns : goal.returns
unfolding render
returns g c = search rules
