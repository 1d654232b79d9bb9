-- A node that is copied.
use Rattle.std.proofs.Common.{◌≡◌, ℕ, ◌≤◌, List, length, sym, ap, subst, ◌∙◌}
use Rattle.std.specs.Prelude.{IsTrue}
use Rattle.std.specs.List.{All}
use Rattle.st_index.specs.declared.row.Row.{Row}
use Rattle.st_tally.specs.inner.Pages.{NodeValue}
use Rattle.st_tally.specs.declared.bounds.Bounds.{Bounds}
use Rattle.st_tally.specs.declared.marks.Marks.{Marks}
use Rattle.st_tally.specs.declared.summary.Summary.{Summary}
use Rattle.st_tally.specs.inner.Marks.{AreMarked, AreMarkedBy}
use Rattle.st_tally.specs.inner.Sums.{IsWithin, Sums, total}
use Rattle.st_ubtree.specs.inner.Kids.{HeadAt, IsKid}
use Rattle.st_ubtree.specs.inner.Nodes.{IsInnerNode}

module _ {A : Type 0} where
  -- an equal summary is of the same rows
  pub sums_same : (s t : Summary A) (rows : List (Row A)) → t.bounds ≡ s.bounds → t.labels.counts.items ≡ s.labels.counts.items
      → t.labels.are_all ≡ s.labels.are_all → Sums s rows → Sums t rows
  sums_same s t rows bounds counts all h = record {
    within = subst (λ (b : Bounds). All (λ (r : Row A). IsWithin b r.point) rows) (sym bounds) h.within;
    counted = λ on judges. ap (total judges) counts ∙ h.counted (subst IsTrue all on) judges;
  }

  -- equal marks are those of the same children
  pub marks_same : (m n : Marks A) (kids : List (NodeValue A)) → n.labels.items ≡ m.labels.items → n.pages.items ≡ m.pages.items
      → AreMarked m kids → AreMarked n kids
  marks_same m n kids labels pages h =
      subst (λ ls. AreMarkedBy ls n.pages.items kids) (sym labels) (subst (λ ps. AreMarkedBy m.labels.items ps kids) (sym pages) h)

  -- equal children in another list
  pub kids_same : (first height : ℕ) (old new : List (NodeValue A)) (had has : ℕ) → new ≡ old → 33 ≤ has → IsInnerNode first height old had
      → IsInnerNode first height new has
  kids_same first height old new had has is room good = record {
    below = good.below;
    higher = good.higher;
    each = subst (All (IsKid good.below)) (sym is) good.each;
    head = subst (HeadAt first) (sym is) good.head;
    not_less = subst (λ (ks : List (NodeValue A)). 1 ≤ length ks) (sym is) good.not_less;
    not_more = subst (λ (ks : List (NodeValue A)). length ks ≤ 32) (sym is) good.not_more;
    room = room;
  }
