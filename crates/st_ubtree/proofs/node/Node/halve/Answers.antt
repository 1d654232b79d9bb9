use Rattle.std.proofs.Common.{◌≡◌, refl, subst, length, Some, arith, ◌+◌, ◌≤◌, ℕ, Vec, vec_len}
use Rattle.st_key.specs.Key.{rank}
use Rattle.st_tally.specs.inner.Pages.{page_node}
use Rattle.st_ubtree.specs.inner.Shrinking.{Joins}
use Rattle.st_ubtree.specs.inner.Splits.{splits_in}
use Rattle.st_ubtree.proofs.Joining.{join_of_pages}
use Rattle.st_ubtree.proofs.Needing.{page_short}
use Rattle.st_ubtree.proofs.Over.{IsPage, is_over, is_page, not_lowest, page_pages, page_width}
use Rattle.st_ubtree.proofs.node.Node.halve.Given.{Over}
use Rattle.st_ubtree.proofs.node.Node.halve.Goals.{In-Page-Page, in_default-via-in-Page+in_default, in_default-via-in_default}
use Rattle.st_ubtree.proofs.node.Node.halve.Goals as goal

held_full : {X Z : Type 0} (v w : Vec X Z) (one two : ℕ) → one ≡ length v.items → two ≡ length w.items → 16 ≤ one → 16 ≤ two → one + two ≤ 62
    → (32 ≤ vec_len v + vec_len w) × (vec_len v + vec_len w ≤ 62)
held_full v w one two is other least also both = (omega (arith, v.ok.0, w.ok.0, is, other, least, also), omega (arith, v.ok.0, w.ok.0, is, other, both))

left_page : (g : Over) (c : In-Page-Page g) → IsPage c.self.inside c.in-Page-Page.left c.args.self.now
left_page g c = is_page c.self.inside c.in-Page-Page.is-0 c.self.invariant c.self.view_is

right_page : (g : Over) (c : In-Page-Page g) → IsPage c.right.inside c.in-Page-Page.right c.args.right
right_page g c = is_page c.right.inside c.in-Page-Page.is-1 c.right.invariant c.right.view_is

pub returns-clause-joins : goal.returns-clause-joins
returns-clause-joins g c =
    let both = (goal.at.returns-clause-joins g c).In-Page-Page in
    let first = rank c.self.inside.first in
    let low = (left_page g both).good.lowest in
    let new = c.halve_pages-right.new.left.items in
    let r = c.halve_pages-right.result in
    let j = join_of_pages first (rank c.right.inside.first) c.self.inside.height c.in-Page-Page.left.items c.in-Page-Page.right.items new (Some r) c.args.right
    low (page_pages (right_page g both)) c.halve_pages-right.ensures.joins in
    subst (λ n. Joins n c.args.self.now c.args.right (page_node first c.self.inside.height new) (Some r)) low
    (subst (λ v. Joins c.self.inside.height v c.args.right (page_node first c.self.inside.height new) (Some r)) (left_page g both).seen j)

pub returns-clause-left : goal.returns-clause-left
unfolding splits_in
returns-clause-left g c = λ key. page_short key c.halve_pages-right.new.left.items c.halve_pages-right.ensures.left

pub unreachable-requires : goal.unreachable-requires
unreachable-requires g c =
    elim c.in_default.branch [
      | in_default-via-in-Page+in_default w ↦
          not_lowest (is_over c.right.inside w.in_default.is-1 refl c.right.invariant c.right.view_is) c.requires.right.same_height
      | in_default-via-in_default w ↦
          not_lowest (is_over c.self.inside w.in_default.is-0 refl c.self.invariant c.self.view_is) c.requires.left.same_height
    ]

pub invariant_of-self : goal.invariant_of-self
invariant_of-self g c =
    let p = left_page g (goal.at.invariant_of-self g c).In-Page-Page in
    (record { lowest = p.good.lowest; not_more = c.halve_pages-right.ensures.joins.not_more; room = c.halve_pages-right.ensures.room }, c.renew.ensures, tt, tt)

pub halve_pages-right-requires-clause-right_room : goal.halve_pages-right-requires-clause-right_room
halve_pages-right-requires-clause-right_room g c = (right_page g (goal.at.halve_pages-right-requires-clause-right_room g c).In-Page-Page).good.room

pub halve_pages-right-requires-clause-left_room : goal.halve_pages-right-requires-clause-left_room
halve_pages-right-requires-clause-left_room g c = (left_page g (goal.at.halve_pages-right-requires-clause-left_room g c).In-Page-Page).good.room

pub halve_pages-right-requires-clause-both : goal.halve_pages-right-requires-clause-both
halve_pages-right-requires-clause-both g c =
    let both = (goal.at.halve_pages-right-requires-clause-both g c).In-Page-Page in
    held_full c.in-Page-Page.left c.in-Page-Page.right _ _ (page_width (left_page g both)) (page_width (right_page g both))
    c.requires.left.not_less c.requires.right.not_less c.requires.both

pub returns-clause-right : goal.returns-clause-right
returns-clause-right g c = c.halve_pages-right.ensures.right
