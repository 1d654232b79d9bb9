use Rattle.st_store_file.proofs.keeper.SqliteKeeperKeeperStoreFile.open.Goals as goal

pub returns-in-Ok-clause-found : goal.returns-in-Ok-clause-found
returns-in-Ok-clause-found g c = λ clean. (c.in-Ok.ensures.opened clean).found
