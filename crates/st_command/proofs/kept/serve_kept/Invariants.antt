use Rattle.st_command.proofs.kept.serve_kept.Given as goal

-- the state that the changes of this journal lead on from
abbrev pub ghosts-serve_opened-B-Beginning : goal.ghosts-serve_opened-B-Beginning
ghosts-serve_opened-B-Beginning g a = record { first = g.B.Beginning.first }

-- the journal as it was opened
abbrev pub ghosts-serve_opened-B-Since : goal.ghosts-serve_opened-B-Since
ghosts-serve_opened-B-Since g a = record { faults = g.J.Journal.faults a.journal }
