use Rattle.std.proofs.Common.{◌∙◌, rules}
use Rattle.std.proofs.lemmas.Result.{err_from_is_err_and}
use Rattle.st_command_line.specs.ServedArguments.{address_text}
use Rattle.st_server_workers.proofs.Telling.{not_bound, not_listening}
use Rattle.st_server_workers.proofs.listening.begin.Goals as goal

pub returns-in_err-listener-clause-err : goal.returns-in_err-listener-clause-err
returns-in_err-listener-clause-err g c =
    let said = c.args.said.now in
    let p = err_from_is_err_and c.from_residual.result c.from_residual.ensures.1 in
    rw p.1 (not_bound (address_text said.bind_address) said.connections (g.O.Write.contents c.args.output.now) p.0 (p.2 ∙ c.in_err-listener.ensures))

pub returns-in-Err-clause-err : goal.returns-in-Err-clause-err
returns-in-Err-clause-err g c =
    let said = c.args.said.now in
    not_listening (address_text said.bind_address) said.connections (g.O.Write.contents c.args.output.now) (g.O.Write.contents c.tell_bind_address.new.output) _ c.in-Err.ensures.err

pub returns-in-Ok-clause-ok : goal.returns-in-Ok-clause-ok
returns-in-Ok-clause-ok g c = search rules
