use Rattle.st_server_workers.proofs.attending.attend_as_said.Goals as goal

pub returns-in-None : goal.returns-in-None
returns-in-None g c = c.attend_all.ensures c.args.said.now.connections
