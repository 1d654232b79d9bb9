use Rattle.std.proofs.Common.{[], subst, arith}
use Rattle.st_key.specs.Key.{rank}
use Rattle.st_index.specs.inner.Entries.{rows_of}
use Rattle.st_tally.specs.inner.Sums.{Sums}
use Rattle.st_ubtree.proofs.Joining.{page_beside}
use Rattle.st_ubtree.proofs.Halving.{held_at}
use Rattle.st_ubtree.proofs.node.join.join_pages.Goals as goal

pub returns-clause-joins : goal.returns-clause-joins
returns-clause-joins g c =
    let wide = c.share-are_two.ensures.some c.if-not-are_two.false in
    record {
      rest = c.share-are_two.new.right.items;
      kept = c.share-are_two.ensures.kept;
      not_less = c.share-are_two.ensures.left.0;
      not_more = c.share-are_two.ensures.left.1;
      beside = page_beside (rank c.key-first.result) c.share-are_two.new.right.items c.index-least.result.now c.page.result c.page.ensures c.key-first.ensures
          c.index-least.ensures wide.0 wide.1;
    }

pub page-requires-clause-not_more : goal.page-requires-clause-not_more
page-requires-clause-not_more g c = (c.share-are_two.ensures.some c.if-not-are_two.false).1

pub page-requires-clause-room : goal.page-requires-clause-room
page-requires-clause-room g c = c.share-are_two.ensures.right_room

pub index-least-requires : goal.index-least-requires
index-least-requires g c = held_at c.share-are_two.new.right 0 (omega (arith, (c.share-are_two.ensures.some c.if-not-are_two.false).0))

pub returns-then-not-are_two-clause-joins : goal.returns-then-not-are_two-clause-joins
returns-then-not-are_two-clause-joins g c = record {
  rest = c.share-are_two.new.right.items;
  kept = c.share-are_two.ensures.kept;
  not_less = c.share-are_two.ensures.left.0;
  not_more = c.share-are_two.ensures.left.1;
  beside = c.share-are_two.ensures.none c.if-not-are_two.true;
}

pub returns-clause-sum : goal.returns-clause-sum
returns-clause-sum g c = subst (λ es. Sums c.add_entries.new.self (rows_of es)) c.as_slice.ensures.value (c.add_entries.ensures [] c.clear.ensures)

pub returns-then-not-are_two-clause-sum : goal.returns-then-not-are_two-clause-sum
returns-then-not-are_two-clause-sum g c = subst (λ es. Sums c.add_entries.new.self (rows_of es)) c.as_slice.ensures.value (c.add_entries.ensures [] c.clear.ensures)
