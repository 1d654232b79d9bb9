use Rattle.st_server.proofs.memory.run_in_memory.Given as goal

-- the hall that is opened here
abbrev pub ghosts-open_hall-H-HallName : goal.ghosts-open_hall-H-HallName
ghosts-open_hall-H-HallName g a = record { start = a.both.0; book = a.name.seen.book; mark = a.name.mark.name }

abbrev pub ghosts-open_hall-H-Ledger : goal.ghosts-open_hall-H-Ledger
ghosts-open_hall-H-Ledger g a = record { name = a.name.blank.name; parts = a.workers }
