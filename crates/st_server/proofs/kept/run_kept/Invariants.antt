use Rattle.st_server.proofs.kept.run_kept.Given as goal

-- the state that the changes of this journal lead on from
abbrev pub ghosts-serve_kept : goal.ghosts-serve_kept
ghosts-serve_kept g a = record { first = a.state }
