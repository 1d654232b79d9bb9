use Rattle.std.proofs.Common.{◌≡◌, ◌<◌, [], List, ℕ, length, get_or, drop, refl, subst, sym, ap, ◌∙◌, arith}
use Rattle.std.proofs.lemmas.List.{length-take-le, length-drop}
use Rattle.std.proofs.lemmas.List.Elements.{All-drop}
use Rattle.st_key.specs.Key.{rank}
use Rattle.st_tally.specs.inner.Marks.{AreMarked}
use Rattle.st_tally.specs.inner.Pages.{NodeValue, rows_of_pages}
use Rattle.st_tally.specs.inner.Sums.{Sums}
use Rattle.st_ubtree.specs.inner.Firsts.{AreFirsts}
use Rattle.st_ubtree.specs.inner.Growing.{AreBlank, IsBlank}
use Rattle.st_ubtree.specs.inner.Kids.{AreWide, IsKid, HeadAt, Starts, pages_of, widths_of}
use Rattle.st_ubtree.specs.inner.Splits.{chains_of}
use Rattle.st_ubtree.proofs.Halving.{blank_last, head_there, kids_start, kids_wide}
use Rattle.st_ubtree.proofs.node.grow.split_if_full.Given.{Over}
use Rattle.st_ubtree.proofs.node.grow.split_if_full.Goals.{Else-len-le32, In-Some}
use Rattle.st_ubtree.proofs.node.grow.split_if_full.Goals as goal

all : (g : Over) (c : Else-len-le32 g) → length c.args.kids.now.items ≡ 33
all g c = omega (arith, c.args.kids.now.ok.0, c.if-len-le32.false, c.requires.not_more, c.len.ensures)

upper : (g : Over) (c : Else-len-le32 g) → length (drop 16 c.args.kids.now.items) ≡ 17
upper g c = omega (arith, all g c, length-drop 16 c.args.kids.now.items)

blanks : (g : Over) (c : In-Some g) → AreBlank c.pop.new.self.items × IsBlank c.in-Some.blank
blanks g c = blank_last c.pop.new.self.items c.in-Some.blank (subst AreBlank c.in-Some.ensures.items c.requires.blank)

-- the upper ones begin where the seventeenth does
upper_head : {A : Type 0} (kids : List (NodeValue A)) (least : NodeValue A) (first : ℕ) → 16 < length kids → least ≡ get_or kids 16 least → first ≡ least.first
    → HeadAt first (drop 16 kids)
upper_head kids least first long read is = subst (λ n. HeadAt n (drop 16 kids)) (sym is) (head_there kids 16 least long read)

pub invariant_of-result : goal.invariant_of-result
invariant_of-result g c =
    let over = (goal.at.invariant_of-result g c).Else-len-le32 in
    let kids = c.args.kids.now.items in
    let first = ap (λ (v : NodeValue g.row.A.Denot). v.first) c.least.view_is in
    let blank = (blanks g (goal.at.invariant_of-result g c).In-Some).1 in
    rw c.split_at-upper.ensures.moved (
      (record {
        below = c.requires.kids.below;
        higher = c.requires.kids.higher;
        each = All-drop (IsKid c.requires.kids.below) 16 kids c.requires.kids.each;
        head = upper_head kids c.index-least.result.now (rank c.least.inside.first) (omega (arith, all g over)) c.index-least.ensures first;
        not_less = omega (arith, upper g over);
        not_more = omega (arith, upper g over);
        room = omega (arith, blank.1, c.split_at-upper.ensures.to_capacity);
      }),
      subst (λ ks. Sums c.add_kids.new.sum (rows_of_pages (pages_of ks))) (c.as_slice.ensures.value ∙ c.split_at-upper.ensures.moved) (c.add_kids.ensures [] c.new-sum.ensures),
      subst (AreMarked c.fill.new.self.marks) (c.as_slice-2.ensures.value ∙ c.split_at-upper.ensures.moved) c.fill.ensures.marks,
      subst (AreFirsts c.fill.new.self.firsts) (c.as_slice-2.ensures.value ∙ c.split_at-upper.ensures.moved) c.fill.ensures.firsts,
    )

pub fill-requires : goal.fill-requires
fill-requires g c =
    omega (arith, ap length (c.as_slice-2.ensures.value ∙ c.split_at-upper.ensures.moved), upper g (goal.at.fill-requires g c).Else-len-le32)

pub returns-clause-split : goal.returns-clause-split
returns-clause-split g c =
    let over = (goal.at.returns-clause-split g c).Else-len-le32 in
    let kids = c.args.kids.now.items in
    let first = rank c.least.inside.first in
    let each = All-drop (IsKid c.requires.kids.below) 16 kids c.requires.kids.each in
    let starts : Starts first (pages_of (drop 16 kids)) (chains_of (drop 16 kids)) =
    kids_start c.requires.kids.below first (drop 16 kids) each (upper_head kids c.index-least.result.now first (omega (arith, all g over)) c.index-least.ensures
    (ap (λ (v : NodeValue g.row.A.Denot). v.first) c.least.view_is)) in
    let is = c.split_at-upper.ensures.moved in
    let width : length c.split_at-upper.result.items ≡ 17 = ap length is ∙ upper g over in (
      c.split_at-upper.ensures.kept,
      ap length c.split_at-upper.ensures.kept ∙ length-take-le 16 kids (omega (arith, all g over)),
      record {
        same_height = refl;
        not_less = omega (arith, width);
        not_more = omega (arith, width);
        starts = subst (λ vs. Starts first (pages_of vs) (chains_of vs)) (sym is) starts;
        filled = subst (λ vs. AreWide (pages_of vs) (widths_of vs)) (sym is) (kids_wide c.requires.kids.below (drop 16 kids) each);
      },
      ap pages_of is,
      all g over,
    )

pub returns-clause-blank : goal.returns-clause-blank
returns-clause-blank g c = (blanks g (goal.at.returns-clause-blank g c).In-Some).0

pub split_at-upper-requires-clause-empty : goal.split_at-upper-requires-clause-empty
split_at-upper-requires-clause-empty g c = (blanks g (goal.at.split_at-upper-requires-clause-empty g c).In-Some).1.0

pub split_at-upper-requires-clause-room : goal.split_at-upper-requires-clause-room
split_at-upper-requires-clause-room g c =
    let blank = (blanks g (goal.at.split_at-upper-requires-clause-room g c).In-Some).1 in
    omega (arith, c.args.kids.now.ok.0, c.requires.not_more, blank.1)

pub split_at-upper-requires-clause-within : goal.split_at-upper-requires-clause-within
split_at-upper-requires-clause-within g c = omega (arith, c.if-len-le32.false, c.len.ensures)
