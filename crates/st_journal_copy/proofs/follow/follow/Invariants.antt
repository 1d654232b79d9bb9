use Rattle.std.proofs.Common.{◌≡◌, ◌≤◌, ℕ, List, length}
use Rattle.st_journal.specs.declared.record.Record.{Record}
use Rattle.st_journal_copy.specs.Following.{GoesOn}
use Rattle.st_journal_copy.proofs.follow.follow.Given as goal

abbrev pub invariant-pieces : goal.invariant-pieces
invariant-pieces g l =
    let j = g.J.Journal in
    let s = g.S.RecordSource in
    record {
      ready : j.is_ready l.copy;
      misreads : j.misreads l.fn.copy ≤ j.misreads l.copy;
      has : j.misreads l.copy ≡ 0 → l.count ≡ length (j.list l.fn.copy)
          → GoesOn (s.gives l.source) (j.list l.fn.copy) (j.list l.copy) × (l.now ≡ length (j.list l.copy));
      stays : (from most : ℕ) (piece : List Record) → s.gives l.fn.source from most piece → s.gives l.source from most piece;
    }
