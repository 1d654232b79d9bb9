use Rattle.std.proofs.Common.{◌≤◌, IsSome}
use Rattle.sqlite_trees.specs.Tree.{Trees}
use Rattle.sqlite_trees.specs.View.{doubt, IsClean}
use Rattle.st_journal_rows.proofs.Reading.{HasRead}
use Rattle.st_journal_rows.proofs.read.read_all.Given as goal

abbrev pub invariant-rows : goal.invariant-rows
invariant-rows g l =
    let s = g.S.Store in
    record {
      live : IsSome ((s.view l.store).cursors 0);
      clean : doubt (s.view l.fn.store).is_clean ≤ doubt (s.view l.store).is_clean;
      outcomes : (db : Trees) → s.recovers l.store db → s.recovers l.fn.store db;
      has : IsClean (s.view l.store) → HasRead g.R.Replay.applies l.opening (s.view l.fn.store) (s.view l.store) l.count l.fn.state l.state;
    }
