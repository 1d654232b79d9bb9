use Rattle.st_server.proofs.served.serve_with.Goals as goal

pub returns-in-Err : goal.returns-in-Err
returns-in-Err g c = rw c.give_up.ensures c.in-Err.ensures
