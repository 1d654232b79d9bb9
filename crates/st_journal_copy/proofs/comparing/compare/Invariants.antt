use Rattle.std.proofs.Common.{◌≡◌, ◌≤◌, ◌-◌, ℕ, List}
use Rattle.st_journal.specs.declared.record.Record.{Record}
use Rattle.st_journal_copy.proofs.Pieces.{HasCompared}
use Rattle.st_journal_copy.proofs.comparing.compare.Given as goal

abbrev pub decreases-pieces : goal.decreases-pieces
decreases-pieces g l = l.count - l.at

abbrev pub invariant-pieces : goal.invariant-pieces
invariant-pieces g l =
    let j = g.J.Journal in
    let s = g.S.RecordSource in
    record {
      low : l.at ≤ l.count;
      ready : j.is_ready l.copy;
      misreads : j.misreads l.fn.copy ≤ j.misreads l.copy;
      same : j.misreads l.copy ≡ 0 → j.list l.copy ≡ j.list l.fn.copy;
      has : j.misreads l.copy ≡ 0 → HasCompared (s.gives l.source) (j.list l.fn.copy) l.at;
      stays : (from most : ℕ) (piece : List Record) → s.gives l.fn.source from most piece → s.gives l.source from most piece;
    }
