use Rattle.std.specs.Prelude.{option_map}
use Rattle.std.proofs.Common.{ap, sym, subst, ◌∙◌, codes}
use Rattle.st_command_line.specs.Common.{file_of}
use Rattle.st_command_line.specs.ServedArguments.{Gives, Writes, served_command, value_of}
use Rattle.st_command_line.proofs.BindAddresses.{both_named, none_named, port_given, socket_given}
use Rattle.st_command_line.proofs.Wanting.{file_is}
use Rattle.st_command_line.proofs.served_arguments.bind_address_in.Goals as goal

pub returns-in-Some-port-clause-err : goal.returns-in-Some-port-clause-err
returns-in-Some-port-clause-err c = λ words parsed. (
  parsed.whole,
  both_named (value_of (codes "port") words) (file_of (codes "socket") served_command words) _ _
      (subst (Gives Writes (value_of (codes "port") words)) c.in-Some-port.is (c.in_ok-port.ensures.ok words parsed))
      (sym (file_is served_command words (codes "socket") c.args.matches.now parsed) ∙ (sym c.get_str.ensures ∙ ap (option_map (λ s. s.now)) c.in-Some.is)),
)

pub returns-in-None-port-clause-ok : goal.returns-in-None-port-clause-ok
returns-in-None-port-clause-ok c = λ words parsed.
    socket_given (value_of (codes "port") words) (file_of (codes "socket") served_command words) c.in-Some.path
    (subst (Gives Writes (value_of (codes "port") words)) c.in-None-port.is (c.in_ok-port.ensures.ok words parsed))
    (sym (file_is served_command words (codes "socket") c.args.matches.now parsed) ∙ (sym c.get_str.ensures ∙ ap (option_map (λ s. s.now)) c.in-Some.is))

pub returns-in-Some-port-2-clause-ok : goal.returns-in-Some-port-2-clause-ok
returns-in-Some-port-2-clause-ok c = λ words parsed.
    port_given (value_of (codes "port") words) (file_of (codes "socket") served_command words) c.in-Some-port-2.port
    (subst (Gives Writes (value_of (codes "port") words)) c.in-Some-port-2.is (c.in_ok-port.ensures.ok words parsed))
    (sym (file_is served_command words (codes "socket") c.args.matches.now parsed) ∙ (sym c.get_str.ensures ∙ ap (option_map (λ s. s.now)) c.in-None.is))

pub returns-in-None-port-2-clause-err : goal.returns-in-None-port-2-clause-err
returns-in-None-port-2-clause-err c = λ words parsed. (
  parsed.whole,
  none_named (value_of (codes "port") words) (file_of (codes "socket") served_command words)
      (subst (Gives Writes (value_of (codes "port") words)) c.in-None-port-2.is (c.in_ok-port.ensures.ok words parsed))
      (sym (file_is served_command words (codes "socket") c.args.matches.now parsed) ∙ (sym c.get_str.ensures ∙ ap (option_map (λ s. s.now)) c.in-None.is)),
)
