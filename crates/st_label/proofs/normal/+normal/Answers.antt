use Rattle.std.proofs.Common.{◌≡◌, length, map, ap, ◌∙◌, sym, arith}
use Rattle.std.proofs.lemmas.Simd.{map-map}
use Rattle.std.proofs.lemmas.List.{take_all}
use Rattle.st_label.specs.Normal.{normal, whole_of}
use Rattle.st_label.specs.inner.Gathered.{gathered}
use Rattle.st_label.specs.inner.Views.{tree_view, op_view}
use Rattle.st_label.proofs.Gather.{one_more_normal, level_gathered}
use Rattle.st_label.proofs.normal.+normal.Goals as goal

pub normal_each-loop-tree-preserved : goal.normal_each-loop-tree-preserved
normal_each-loop-tree-preserved g t c =
    let all : c.deref-tree-items.result.now ≡ c.args.trees.now.items = c.deref-tree-items.ensures.value in
    ap (map tree_view) c.in_ok-push.ensures.items
    ∙ one_more_normal c.loop-tree.others.items c.args.trees.now.items c.loop-tree.tree-index c.tree-item.result c.in_ok-normal.field-0
    (omega (arith, ap length all, c.loop-tree-test.true)) (rw all at c.tree-item.is) c.loop-tree.invariant c.in_ok-normal.ensures

pub normal_each-returns : goal.normal_each-returns
normal_each-returns g t c =
    let all : c.deref-tree-items.result.now ≡ c.args.trees.now.items = c.deref-tree-items.ensures.value in
    c.loop-tree.invariant
    ∙ ap (map (λ tree. normal (tree_view tree))) (take_all c.loop-tree.tree-index c.args.trees.now.items (omega (arith, ap length all, c.loop-tree-test.false, c.loop-tree.auto.tree-index-end)))

pub normal_level-returns : goal.normal_level-returns
normal_level-returns g t c =
    c.whole.ensures
    ∙ ap (whole_of (op_view c.args.operator)) (
    c.in_ok-all.ensures
    ∙ ap (gathered (op_view c.args.operator)) (c.in_ok-normals.ensures ∙ sym (map-map normal tree_view c.args.trees.now.items))
    ∙ level_gathered (op_view c.args.operator) (map tree_view c.args.trees.now.items))
