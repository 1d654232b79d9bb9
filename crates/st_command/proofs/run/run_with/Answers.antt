use Rattle.st_command.proofs.run.run_with.Goals as goal

pub returns-in-Err : goal.returns-in-Err
returns-in-Err g c = rw c.give_up.ensures c.in-Err.ensures
