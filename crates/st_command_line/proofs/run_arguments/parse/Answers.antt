use Rattle.st_command_line.specs.RunArguments.{run_command}
use Rattle.st_command_line.proofs.Refusing.{if_err, if_ok}
use Rattle.st_command_line.proofs.run_arguments.parse.Goals as goal

pub returns-clause-ok : goal.returns-clause-ok
returns-clause-ok c = if_ok _ _ c.parse_by.result (λ matches given. given run_command c.in_ok-command.ensures) c.parse_by.ensures.ok

pub returns-clause-root : goal.returns-clause-root
returns-clause-root c = if_ok _ _ c.parse_by.result (λ matches given. given run_command c.in_ok-command.ensures) c.parse_by.ensures.root

pub returns-clause-err : goal.returns-clause-err
returns-clause-err c = if_err _ _ c.parse_by.result (λ fault given. given run_command c.in_ok-command.ensures) c.parse_by.ensures.err
