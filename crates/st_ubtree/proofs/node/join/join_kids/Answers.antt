use Rattle.std.proofs.Common.{◌≡◌, ◌≤◌, ◌++◌, length, subst, sym, ap, refl, arith}
use Rattle.std.specs.List.{All}
use Rattle.st_key.specs.Key.{rank}
use Rattle.st_index.proofs.Climbing.{all_right}
use Rattle.st_tally.specs.inner.Pages.{NodeValue, rows_of_pages}
use Rattle.st_tally.specs.inner.Sums.{Sums}
use Rattle.st_ubtree.specs.inner.Kids.{HeadAt, IsKid, pages_of}
use Rattle.st_ubtree.proofs.Keeping.{sums_shared, sums_whole}
use Rattle.st_ubtree.proofs.Halving.{head_there, held_at, kids_start, kids_wide}
use Rattle.st_ubtree.specs.inner.Firsts.{AreFirsts}
use Rattle.st_tally.specs.inner.Marks.{AreMarked}
use Rattle.st_ubtree.proofs.node.join.join_kids.Given.{Over}
use Rattle.st_ubtree.proofs.node.join.join_kids.Goals.{After-share-are_two, Else-not-are_two}
use Rattle.st_ubtree.proofs.node.join.join_kids.Goals as goal

-- the others are enough for a node
wide : (g : Over) (c : Else-not-are_two g) → (16 ≤ length c.share-are_two.new.right.items) × (length c.share-are_two.new.right.items ≤ 32)
wide g c = c.share-are_two.ensures.some c.if-not-are_two.false

-- the summary of both
both : (g : Over) (c : After-share-are_two g)
    → Sums c.add_all.new.self (rows_of_pages (pages_of c.args.left.now.items) ++ rows_of_pages (pages_of c.args.right.items))
both g c = c.add_all.ensures (rows_of_pages (pages_of c.args.left.now.items)) (rows_of_pages (pages_of c.args.right.items)) c.requires.sum c.requires.right_sum

pub invariant_of-result : goal.invariant_of-result
invariant_of-result g c =
    let rest = c.share-are_two.new.right.items in
    let few = wide g (goal.at.invariant_of-result g c).Else-not-are_two in
    let each : All (IsKid c.requires.kids.below) rest =
    all_right (IsKid c.requires.kids.below) c.share-are_two.new.left.items rest
    (subst (All (IsKid c.requires.kids.below)) (sym c.share-are_two.ensures.kept) c.requires.kids.each) in
    let least : HeadAt c.index-least.result.now.first rest = head_there rest 0 c.index-least.result.now (omega (arith, few.0)) c.index-least.ensures in
    let first : c.index-least.result.now.first ≡ rank c.least.inside.first = ap (λ (v : NodeValue g.row.A.Denot). v.first) (sym c.least.view_is) in (
      record {
        below = c.requires.kids.below;
        higher = c.requires.kids.higher;
        each = each;
        head = subst (λ n. HeadAt n rest) first least;
        not_less = omega (arith, few.0);
        not_more = few.1;
        room = c.share-are_two.ensures.right_room;
      },
      subst (λ ks. Sums c.part.new.later_sum (rows_of_pages (pages_of ks))) c.as_slice-3.ensures.value c.part.ensures.later,
      subst (AreMarked c.renew-2.new.self.marks) c.as_slice-4.ensures.value c.renew-2.ensures.marks,
      subst (AreFirsts c.renew-2.new.self.firsts) c.as_slice-4.ensures.value c.renew-2.ensures.firsts,
    )

pub renew-requires : goal.renew-requires
renew-requires g c =
    omega (arith, c.share-are_two.ensures.left.1, ap length c.as_slice.ensures.value)

pub returns-clause-marks : goal.returns-clause-marks
returns-clause-marks g c = subst (AreMarked c.renew.new.self.marks) c.as_slice.ensures.value c.renew.ensures.marks

pub returns-clause-firsts : goal.returns-clause-firsts
returns-clause-firsts g c = subst (AreFirsts c.renew.new.self.firsts) c.as_slice.ensures.value c.renew.ensures.firsts

pub returns-then-not-are_two-clause-marks : goal.returns-then-not-are_two-clause-marks
returns-then-not-are_two-clause-marks g c = c.keep_longer.ensures c.share-are_two.new.left.items

pub returns-then-not-are_two-clause-firsts : goal.returns-then-not-are_two-clause-firsts
returns-then-not-are_two-clause-firsts g c = subst (AreFirsts c.renew.new.self.firsts) c.as_slice.ensures.value c.renew.ensures.firsts

pub returns-clause-joins : goal.returns-clause-joins
returns-clause-joins g c =
    let i = (invariant_of-result g c).0 in
    let few = wide g (goal.at.returns-clause-joins g c).Else-not-are_two in
    record {
      rest = c.share-are_two.new.right.items;
      kept = c.share-are_two.ensures.kept;
      not_less = c.share-are_two.ensures.left.0;
      not_more = c.share-are_two.ensures.left.1;
      beside = (
        record {
          same_height = refl;
          not_less = few.0;
          not_more = few.1;
          starts = kids_start i.below (rank c.least.inside.first) c.share-are_two.new.right.items i.each i.head;
          filled = kids_wide i.below c.share-are_two.new.right.items i.each;
        },
        refl,
      );
    }

pub index-least-requires : goal.index-least-requires
index-least-requires g c = held_at c.share-are_two.new.right 0 (omega (arith, (wide g (goal.at.index-least-requires g c).Else-not-are_two).0))

pub returns-then-not-are_two-clause-joins : goal.returns-then-not-are_two-clause-joins
returns-then-not-are_two-clause-joins g c = record {
  rest = c.share-are_two.new.right.items;
  kept = c.share-are_two.ensures.kept;
  not_less = c.share-are_two.ensures.left.0;
  not_more = c.share-are_two.ensures.left.1;
  beside = c.share-are_two.ensures.none c.if-not-are_two.true;
}

pub part-requires : goal.part-requires
part-requires g c =
    rw (c.as_slice-2.ensures.value, c.as_slice-3.ensures.value)
    (sums_shared c.add_all.new.self c.args.left.now.items c.args.right.items c.share-are_two.new.left.items c.share-are_two.new.right.items
    c.share-are_two.ensures.kept (both g (goal.at.part-requires g c).After-share-are_two))

pub returns-clause-sum : goal.returns-clause-sum
returns-clause-sum g c = subst (λ ks. Sums c.part.new.sum (rows_of_pages (pages_of ks))) c.as_slice-2.ensures.value c.part.ensures.kids

pub returns-then-not-are_two-clause-sum : goal.returns-then-not-are_two-clause-sum
returns-then-not-are_two-clause-sum g c =
    let whole = sums_whole c.add_all.new.self c.args.left.now.items c.args.right.items c.share-are_two.new.left.items c.share-are_two.new.right.items
    c.share-are_two.ensures.kept (c.share-are_two.ensures.none c.if-not-are_two.true) (both g (goal.at.returns-then-not-are_two-clause-sum g c).After-share-are_two) in
    c.set_bounds.ensures (rows_of_pages (pages_of c.share-are_two.new.left.items)) whole (rw (← c.as_slice-then-not-are_two.ensures.value) c.bounds_of.ensures)

pub renew-requires-2 : goal.renew-requires-2
renew-requires-2 g c =
    omega (arith, (wide g (goal.at.renew-requires-2 g c).Else-not-are_two).1, ap length c.as_slice-4.ensures.value)
