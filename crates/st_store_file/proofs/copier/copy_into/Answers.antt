use Rattle.std.proofs.Common.{◌≡◌, length, arith}
use Rattle.sqlite_trees.specs.View.{IsClean}
use Rattle.sqlite_store.specs.FileStore.{view}
use Rattle.st_journal_rows.specs.Table.{changes_in}
use Rattle.st_journal_copy.proofs.Pieces.{counted}
use Rattle.st_store_file.proofs.Turns.{unknown}
use Rattle.st_store_file.proofs.copier.copy_into.Goals as goal

pub invariant_of-copy : goal.invariant_of-copy
invariant_of-copy g c = record {
  served = c.bring_up.new.copy.store.served;
  stored = c.bring_up.new.copy.store.stored;
  cookie = c.bring_up.new.copy.store.cookie;
  marked = c.bring_up.new.copy.store.marked;
  safe = c.bring_up.new.copy.store.safe;
}

pub returns-in-Ok-close : goal.returns-in-Ok-close
returns-in-Ok-close g c =
    let before = view c.in-Ok.copy.store in
    let old = changes_in before.committed in
    let was : IsClean (view c.bring_up.new.copy.store) → IsClean before = λ clean. omega (arith, clean, c.bring_up.ensures.misreads) in
    let long : IsClean (view c.bring_up.new.copy.store) → c.count-found.result ≡ length old = λ clean.
    let all = counted c.new-counting.result c.open.new.state old (c.in-Ok.ensures.opened (was clean)).made in
    omega (arith, all, c.count-found.ensures, c.new-counting.ensures) in
    record {
      copy = c.bring_up.new.copy;
      old = old;
      found = λ clean. (c.in-Ok.ensures.opened (was clean)).found;
      goes_on = λ clean. (c.in_ok-count.ensures.goes_on clean (long clean)).0;
      whole = λ clean other.
          c.in_ok-count.ensures.whole (unknown c.is_known.result c.args.left c.count-found.result old c.is_known.ensures (long clean) other)
          clean (long clean);
      counted = λ clean. (c.in_ok-count.ensures.goes_on clean (long clean)).1;
      at_end = c.in_ok-count.ensures.at_end;
    }
