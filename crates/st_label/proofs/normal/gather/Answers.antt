use Rattle.std.specs.Prelude.{vec_len}
use Rattle.std.proofs.Common.{arith, [], ◌∷◌, sym, ap, ◌∙◌, map}
use Rattle.std.proofs.lemmas.List.{append-nil}
use Rattle.st_label.specs.Normal.{insert_all, parts}
use Rattle.st_label.specs.inner.Gathered.{gathered}
use Rattle.st_label.specs.inner.Views.{tree_view, op_view}
use Rattle.st_label.proofs.Popped.{one_popped, all_popped, nothing_left}
use Rattle.st_label.proofs.normal.gather.Goals as goal

pub loop-tree-init : goal.loop-tree-init
loop-tree-init g c = ([], sym (append-nil _), ap (map tree_view) c.new-all.ensures)

pub loop-tree-preserved : goal.loop-tree-preserved
loop-tree-preserved g c =
    let i = c.loop-tree.invariant in (
      tree_view c.in-Some.tree ∷ i.0,
      one_popped c.args.trees.items c.loop-tree.trees.items c.pop.new.self.items c.in-Some.tree i.0 i.1 c.in-Some.ensures.items,
      c.in_ok-all.ensures ∙ ap (insert_all (parts (op_view c.args.operator) (tree_view c.in-Some.tree))) i.2,
    )

pub returns : goal.returns
returns g c =
    let i = c.loop-tree.invariant in
    i.2 ∙ ap (gathered (op_view c.args.operator))
    (sym (all_popped c.args.trees.items c.loop-tree.trees.items i.0 i.1
    (nothing_left c.loop-tree.trees.items (vec_len c.loop-tree.trees) (omega (arith, c.loop-tree.trees.ok.0)) c.in_default.ensures.variant.1)))
