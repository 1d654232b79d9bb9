use Rattle.std.proofs.Common.{◌≡◌, ◌+◌, ◌∷◌, ◌++◌, [], length, subst, sym, ap, ◌∙◌, arith}
use Rattle.std.specs.List.{All}
use Rattle.st_key.specs.Key.{rank}
use Rattle.st_tally.specs.inner.Pages.{NodeValue, rows_of_pages}
use Rattle.st_tally.specs.inner.Sums.{Sums}
use Rattle.st_ubtree.specs.inner.Kids.{HeadAt, IsKid, pages_of}
use Rattle.std.proofs.lemmas.List.{append-nil}
use Rattle.st_tally.specs.inner.Marks.{AreMarked}
use Rattle.st_ubtree.specs.inner.Nodes.{AreMarkedUnder, IsNode, node_value, rows_under}
use Rattle.st_ubtree.proofs.Lifting.{both}
use Rattle.st_ubtree.specs.inner.Firsts.{AreFirsts, AreFirstsUnder}
use Rattle.st_ubtree.proofs.node.Node.raise.Given.{Over}
use Rattle.st_ubtree.proofs.node.Node.raise.Goals.{In-Ok-push}
use Rattle.st_ubtree.proofs.node.Node.raise.Goals as goal

-- the node, as it was, and the one beside it
two : (g : Over) (c : In-Ok-push g) → c.push-2.new.self.items ≡ c.args.self.now ∷ c.args.right ∷ []
two g c =
    let left : NodeValue g.row.A.Denot = node_value (rank c.self.inside.first) c.self.inside.height c.replace-kids.result in
    let left_is : left ≡ c.args.self.now = ap (node_value (rank c.self.inside.first) c.self.inside.height) c.replace-kids.ensures.value ∙ c.self.view_is in
    c.in-Ok-push.ensures.items ∙ ap (λ t. t ++ c.args.right ∷ []) (c.in-Ok.ensures.items ∙ ap (λ t. t ++ left ∷ []) c.requires.empty) ∙ ap (λ v. v ∷ c.args.right ∷ []) left_is

pub invariant_of-self : goal.invariant_of-self
invariant_of-self g c =
    let is = two g (goal.at.invariant_of-self g c).In-Ok-push in
    let first : c.args.self.now.first ≡ rank c.self.inside.first = ap (λ (v : NodeValue g.row.A.Denot). v.first) (sym c.self.view_is) in
    let each : All (IsKid c.args.self.now.height) (c.args.self.now ∷ c.args.right ∷ []) = both c.args.self.now.height c.args.self.now c.args.right c.requires.kids.0 c.requires.kids.1 in (
      record {
        below = c.args.self.now.height;
        higher = ap (λ (v : NodeValue g.row.A.Denot). v.height + 1) c.self.view_is;
        each = subst (All (IsKid c.args.self.now.height)) (sym is) each;
        head = subst (HeadAt (rank c.self.inside.first)) (sym is) first;
        not_less = omega (arith, ap length is);
        not_more = omega (arith, ap length is);
        room = omega (arith, c.in-Ok.ensures.capacity, c.in-Ok-push.ensures.capacity, c.requires.room);
      },
      subst (λ ks. Sums c.add_kids.new.sum (rows_of_pages (pages_of ks))) c.as_slice.ensures.value
          (c.add_kids.ensures [] (subst (λ s. Sums s []) (sym c.replace-sum.ensures.after) c.new-none.ensures)),
      subst (AreMarked c.fill.new.self.marks) c.as_slice-2.ensures.value c.fill.ensures.marks,
      subst (AreFirsts c.fill.new.self.firsts) c.as_slice-2.ensures.value c.fill.ensures.firsts,
    )

pub returns-clause-first : goal.returns-clause-first
returns-clause-first g c = ap (λ (v : NodeValue g.row.A.Denot). v.first) c.self.view_is

pub returns-clause-height : goal.returns-clause-height
returns-clause-height g c = ap (λ (v : NodeValue g.row.A.Denot). v.height + 1) c.self.view_is

pub returns-clause-width : goal.returns-clause-width
returns-clause-width g c =
    ap length (two g (goal.at.returns-clause-width g c).In-Ok-push)

pub overflow_add-self : goal.overflow_add-self
overflow_add-self g c =
    omega (arith, ap (λ (v : NodeValue g.row.A.Denot). v.height) c.self.view_is, c.requires.height)

pub unreachable-requires : goal.unreachable-requires
unreachable-requires g c =
    omega (arith, c.args.blank.kids.ok.0, c.in_default.ensures.full, ap length c.requires.empty, c.requires.room)

pub unreachable-requires-in_default-push : goal.unreachable-requires-in_default-push
unreachable-requires-in_default-push g c =
    omega (arith, c.args.blank.kids.ok.0, c.in_default-push.ensures.full, c.in-Ok.ensures.len, ap length c.requires.empty, c.in-Ok.ensures.capacity, c.requires.room)

pub invariant_of-left : goal.invariant_of-left
invariant_of-left g c = (
  subst (IsNode (rank c.self.inside.first) c.self.inside.height) (sym c.replace-kids.ensures.value) c.self.invariant.0,
  subst (λ s. Sums s (rows_under c.replace-kids.result)) (sym c.replace-sum.ensures.value) (subst (λ k. Sums c.self.inside.sum (rows_under k)) (sym c.replace-kids.ensures.value) c.self.invariant.1),
  subst AreMarkedUnder (sym c.replace-kids.ensures.value) c.self.invariant.2,
  subst AreFirstsUnder (sym c.replace-kids.ensures.value) c.self.invariant.3,
)

pub fill-requires : goal.fill-requires
fill-requires g c =
    omega (arith, ap length (c.as_slice-2.ensures.value ∙ two g (goal.at.fill-requires g c).In-Ok-push))

pub unreachable-unreachable : goal.unreachable-unreachable
unreachable-unreachable g c = c.unreachable.result

pub unreachable-unreachable-in_default-push : goal.unreachable-unreachable-in_default-push
unreachable-unreachable-in_default-push g c = c.unreachable-in_default-push.result

pub returns-clause-pages : goal.returns-clause-pages
returns-clause-pages g c =
    ap pages_of (two g (goal.at.returns-clause-pages g c).In-Ok-push) ∙ ap (λ ps. c.args.self.now.pages ++ ps) (append-nil c.args.right.pages)
