use Rattle.std.proofs.Common.{◌≡◌, ◌++◌, subst, sym, ap, ◌∙◌, refl, arith}
use Rattle.std.specs.List.{All}
use Rattle.st_key.specs.Key.{rank}
use Rattle.st_tally.specs.inner.Pages.{NodeValue}
use Rattle.st_ubtree.specs.inner.Kids.{IsKid}
use Rattle.st_ubtree.specs.inner.Shrinking.{KidsJoin}
use Rattle.st_ubtree.proofs.Joining.{both_kids, join_of_kids, join_of_pages, joined_each, joined_head, held_both, held_worn}
use Rattle.st_ubtree.proofs.Over.{IsOver, IsPage, is_over, is_page, not_lowest, over_pages, over_width, page_low, page_pages, page_width}
use Rattle.st_ubtree.proofs.node.Node.join.Given.{Over}
use Rattle.st_ubtree.proofs.node.Node.join.Goals.{In-Page-Page, In-Inner-Inner, in_default-via-in-Page+in_default, in_default-via-in-Inner+in_default}
use Rattle.st_ubtree.proofs.node.Node.join.Goals as goal

left_page : (g : Over) (c : In-Page-Page g) → IsPage c.self.inside c.in-Page-Page.left c.args.self.now
left_page g c = is_page c.self.inside c.in-Page-Page.is-0 c.self.invariant c.self.view_is

right_page : (g : Over) (c : In-Page-Page g) → IsPage c.right.inside c.in-Page-Page.right c.args.right
right_page g c = is_page c.right.inside c.in-Page-Page.is-1 c.right.invariant c.right.view_is

left_over : (g : Over) (c : In-Inner-Inner g) → IsOver c.self.inside c.in-Inner-Inner.left c.in-Inner-Inner.aside.value c.args.self.now
left_over g c = is_over c.self.inside c.in-Inner-Inner.is-0 refl c.self.invariant c.self.view_is

right_over : (g : Over) (c : In-Inner-Inner g) → IsOver c.right.inside c.in-Inner-Inner.right c.in-Inner-Inner.other.value c.args.right
right_over g c = is_over c.right.inside c.in-Inner-Inner.is-1 refl c.right.invariant c.right.view_is

-- both are equally high
same : (g : Over) (c : In-Inner-Inner g) → c.right.inside.height ≡ c.self.inside.height
same g c = ap (λ (v : NodeValue g.row.A.Denot). v.height) c.right.view_is ∙ c.requires.right.same_height ∙ ap (λ (v : NodeValue g.row.A.Denot). v.height) (sym c.self.view_is)

-- so that the children of both are
all : (g : Over) (c : In-Inner-Inner g) → All (IsKid (left_over g c).good.below) (c.in-Inner-Inner.left.items ++ c.in-Inner-Inner.right.items)
all g c =
    both_kids (rank c.self.inside.first) (rank c.right.inside.first) c.self.inside.height c.right.inside.height c.in-Inner-Inner.left.items
    c.in-Inner-Inner.right.items _ _ (same g c) (left_over g c).good (right_over g c).good

pub join_kids-requires-clause-kids : goal.join_kids-requires-clause-kids
join_kids-requires-clause-kids g c =
    let both = (goal.at.join_kids-requires-clause-kids g c).In-Inner-Inner in
    record { below = (left_over g both).good.below; higher = same g both ∙ (left_over g both).good.higher; each = all g both }

pub invariant_of-self : goal.invariant_of-self
invariant_of-self g c =
    let p = left_page g (goal.at.invariant_of-self g c).In-Page-Page in (
      record { lowest = p.good.lowest; not_more = c.join_pages.ensures.joins.not_more; room = c.join_pages.ensures.room },
      c.join_pages.ensures.sum,
      tt,
      tt,
    )

pub invariant_of-self-in-Inner-this : goal.invariant_of-self-in-Inner-this
invariant_of-self-in-Inner-this g c =
    let both = (goal.at.invariant_of-self-in-Inner-this g c).In-Inner-Inner in
    let good = (left_over g both).good in
    let old = c.in-Inner-Inner.left.items in
    let right = c.in-Inner-Inner.right.items in
    let new = c.join_kids.new.left.items in
    let j = c.join_kids.ensures.joins in (
      record {
        below = good.below;
        higher = good.higher;
        each = joined_each good.below old right new j.rest j.kept (all g both);
        head = joined_head c.right.inside.height (rank c.self.inside.first) old right new c.join_kids.result j good.head;
        not_less = omega (arith, j.not_less);
        not_more = j.not_more;
        room = c.join_kids.ensures.room;
      },
      c.join_kids.ensures.sum,
      c.join_kids.ensures.marks,
      c.join_kids.ensures.firsts,
    )

pub returns-in-Page-Page : goal.returns-in-Page-Page
returns-in-Page-Page g c =
    let both = (goal.at.returns-in-Page-Page g c).In-Page-Page in
    rw (← (left_page g both).seen) (record {
      joins = join_of_pages (rank c.self.inside.first) (rank c.right.inside.first) c.self.inside.height c.in-Page-Page.left.items c.in-Page-Page.right.items
          c.join_pages.new.left.items c.join_pages.result c.args.right (left_page g both).good.lowest (page_pages (right_page g both)) c.join_pages.ensures.joins;
    })

pub returns-in-Inner-Inner : goal.returns-in-Inner-Inner
returns-in-Inner-Inner g c =
    let both = (goal.at.returns-in-Inner-Inner g c).In-Inner-Inner in
    let old = c.in-Inner-Inner.left.items in
    let right = c.in-Inner-Inner.right.items in
    let new = c.join_kids.new.left.items in
    let good = (left_over g both).good in
    let j : KidsJoin c.self.inside.height old right new c.join_kids.result = subst (λ n. KidsJoin n old right new c.join_kids.result) (same g both) c.join_kids.ensures.joins in
    rw (← (left_over g both).seen) (record {
      joins = join_of_kids (rank c.self.inside.first) c.self.inside.height good.below old right new c.join_kids.result c.args.right
          (over_pages (right_over g both)) (all g both) good.head j;
    })

pub join_kids-requires-clause-sum : goal.join_kids-requires-clause-sum
join_kids-requires-clause-sum g c = (left_over g (goal.at.join_kids-requires-clause-sum g c).In-Inner-Inner).sums

pub join_kids-requires-clause-right_sum : goal.join_kids-requires-clause-right_sum
join_kids-requires-clause-right_sum g c = (right_over g (goal.at.join_kids-requires-clause-right_sum g c).In-Inner-Inner).sums

pub join_pages-requires-clause-left : goal.join_pages-requires-clause-left
join_pages-requires-clause-left g c =
    held_worn c.in-Page-Page.left _ (page_width (left_page g (goal.at.join_pages-requires-clause-left g c).In-Page-Page))
    c.requires.worn.not_less c.requires.worn.not_more

pub join_pages-requires-clause-right : goal.join_pages-requires-clause-right
join_pages-requires-clause-right g c =
    held_worn c.in-Page-Page.right _ (page_width (right_page g (goal.at.join_pages-requires-clause-right g c).In-Page-Page))
    c.requires.right.not_less c.requires.right.not_more

pub join_pages-requires-clause-both : goal.join_pages-requires-clause-both
join_pages-requires-clause-both g c =
    let both = (goal.at.join_pages-requires-clause-both g c).In-Page-Page in
    held_both c.in-Page-Page.left c.in-Page-Page.right _ _ (page_width (left_page g both)) (page_width (right_page g both)) c.requires.both

pub join_pages-requires-clause-left_room : goal.join_pages-requires-clause-left_room
join_pages-requires-clause-left_room g c = (left_page g (goal.at.join_pages-requires-clause-left_room g c).In-Page-Page).good.room

pub join_pages-requires-clause-right_room : goal.join_pages-requires-clause-right_room
join_pages-requires-clause-right_room g c = (right_page g (goal.at.join_pages-requires-clause-right_room g c).In-Page-Page).good.room

pub join_kids-requires-clause-left : goal.join_kids-requires-clause-left
join_kids-requires-clause-left g c =
    held_worn c.in-Inner-Inner.left _ (over_width (left_over g (goal.at.join_kids-requires-clause-left g c).In-Inner-Inner))
    c.requires.worn.not_less c.requires.worn.not_more

pub join_kids-requires-clause-right : goal.join_kids-requires-clause-right
join_kids-requires-clause-right g c =
    held_worn c.in-Inner-Inner.right _ (over_width (right_over g (goal.at.join_kids-requires-clause-right g c).In-Inner-Inner))
    c.requires.right.not_less c.requires.right.not_more

pub join_kids-requires-clause-both : goal.join_kids-requires-clause-both
join_kids-requires-clause-both g c =
    let both = (goal.at.join_kids-requires-clause-both g c).In-Inner-Inner in
    held_both c.in-Inner-Inner.left c.in-Inner-Inner.right _ _ (over_width (left_over g both)) (over_width (right_over g both)) c.requires.both

pub join_kids-requires-clause-left_room : goal.join_kids-requires-clause-left_room
join_kids-requires-clause-left_room g c = (left_over g (goal.at.join_kids-requires-clause-left_room g c).In-Inner-Inner).good.room

pub join_kids-requires-clause-right_room : goal.join_kids-requires-clause-right_room
join_kids-requires-clause-right_room g c = (right_over g (goal.at.join_kids-requires-clause-right_room g c).In-Inner-Inner).good.room

pub unreachable-requires : goal.unreachable-requires
unreachable-requires g c =
    elim c.in_default.branch [
      | in_default-via-in-Page+in_default w ↦
          let p = is_page c.self.inside w.in_default.is-0 c.self.invariant c.self.view_is in
          not_lowest (is_over c.right.inside w.in_default.is-1 refl c.right.invariant c.right.view_is) (c.requires.right.same_height ∙ page_low p)
      | in_default-via-in-Inner+in_default w ↦
          let p = is_page c.right.inside w.in_default.is-1 c.right.invariant c.right.view_is in
          not_lowest (is_over c.self.inside w.in_default.is-0 refl c.self.invariant c.self.view_is) (sym c.requires.right.same_height ∙ page_low p)
    ]
