use Rattle.tests_hall.proofs.opened.is_right.Given as goal

-- the hall that is opened here
abbrev pub ghosts-is_so_in-H-HallName : goal.ghosts-is_so_in-H-HallName
ghosts-is_so_in-H-HallName g a = record { start = a.both.0; book = a.name.seen.book; mark = a.name.mark.name }

abbrev pub ghosts-is_so_in-H-Ledger : goal.ghosts-is_so_in-H-Ledger
ghosts-is_so_in-H-Ledger g a = record { name = a.name.blank.name; parts = a.workers }
