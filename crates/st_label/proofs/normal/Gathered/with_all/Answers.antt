use Rattle.std.specs.Prelude.{vec_len}
use Rattle.std.proofs.Common.{arith, [], ◌∷◌, refl, sym, ap, ◌∙◌, map}
use Rattle.std.proofs.lemmas.List.{append-nil}
use Rattle.st_label.specs.Normal.{insert_all, insert_operand}
use Rattle.st_label.specs.inner.Views.{tree_view}
use Rattle.st_label.proofs.Popped.{one_popped, all_popped, nothing_left}
use Rattle.st_label.proofs.normal.Gathered.with_all.Goals as goal

pub loop-tree-init : goal.loop-tree-init
loop-tree-init g c = ([], sym (append-nil _), refl)

pub loop-tree-preserved : goal.loop-tree-preserved
loop-tree-preserved g c =
    let i = c.loop-tree.invariant in (
      tree_view c.in-Some.tree ∷ i.0,
      one_popped c.args.others.items c.loop-tree.others.items c.pop.new.self.items c.in-Some.tree i.0 i.1 c.in-Some.ensures.items,
      c.in_ok-all.ensures ∙ ap (insert_operand (tree_view c.in-Some.tree)) i.2,
    )

pub returns : goal.returns
returns g c =
    let i = c.loop-tree.invariant in
    i.2 ∙ ap (λ l. insert_all l (map tree_view c.args.self.trees.items))
    (sym (all_popped c.args.others.items c.loop-tree.others.items i.0 i.1
    (nothing_left c.loop-tree.others.items (vec_len c.loop-tree.others) (omega (arith, c.loop-tree.others.ok.0)) c.in_default.ensures.variant.1)))
