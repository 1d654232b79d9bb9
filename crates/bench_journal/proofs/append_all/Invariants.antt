use Rattle.bench_journal.proofs.append_all.Given as goal

-- the journal takes records
abbrev pub invariant-loop : goal.invariant-loop
invariant-loop g l = g.J.Journal.is_ready l.journal
