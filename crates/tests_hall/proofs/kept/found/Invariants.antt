use Rattle.tests_hall.proofs.kept.found.Given as goal

-- the hall that is opened here
abbrev pub ghosts-found_by-H-HallName : goal.ghosts-found_by-H-HallName
ghosts-found_by-H-HallName g a = record { start = a.both.0; book = a.name.seen.book; mark = a.name.mark.name }

abbrev pub ghosts-found_by-H-Ledger : goal.ghosts-found_by-H-Ledger
ghosts-found_by-H-Ledger g a = record { name = a.name.blank.name; parts = a.workers }

abbrev pub ghosts-found_by-B-Beginning : goal.ghosts-found_by-B-Beginning
ghosts-found_by-B-Beginning g a = record { first = a.both.0 }
