use Rattle.std.specs.Prelude.{vec_len}
use Rattle.std.proofs.Common.{◌∙◌, ap, arith}
use Rattle.st_label.specs.inner.Views.{tree_view, op_view}
use Rattle.st_label.proofs.Popped.{whole_all, whole_any, one_left, none_left, nothing_left}
use Rattle.st_label.proofs.normal.Gathered.whole.Goals.{in-Some, in-None}
use Rattle.st_label.proofs.normal.Gathered.whole.Goals as goal

pub returns-then-len-lt2 : goal.returns-then-len-lt2
returns-then-len-lt2 g c =
    elim c.match-pop.branch [
      | in-Some w ↦ ap tree_view w.result-is
          ∙ one_left (op_view c.args.operator) c.args.self.trees.items _ w.in-Some.tree w.in-Some.ensures.items
          (omega (arith, c.len.ensures, c.if-len-lt2.true))
      | in-None w ↦ ap tree_view w.result-is
          ∙ none_left (op_view c.args.operator) c.args.self.trees.items
          (nothing_left c.args.self.trees.items (vec_len c.args.self.trees) (omega (arith, c.args.self.trees.ok.0)) w.in-None.ensures.variant.1)
    ]

pub returns-in-All : goal.returns-in-All
returns-in-All g c = whole_all c.args.operator c.args.self.trees c.in-All.is (omega (arith, c.len.ensures, c.if-len-lt2.false))

pub returns : goal.returns
returns g c = whole_any c.args.operator c.args.self.trees c.in-Any.is (omega (arith, c.len.ensures, c.if-len-lt2.false))
