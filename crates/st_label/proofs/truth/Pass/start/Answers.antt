use Rattle.std.proofs.Common.{ap, arith, reverse}
use Rattle.std.proofs.lemmas.List.{length-reverse}
use Rattle.st_label.specs.inner.Views.{class_view}
use Rattle.st_label.proofs.Passing.{deep}
use Rattle.st_label.proofs.truth.Pass.start.Goals as goal

pub returns-then-len-ge-MAX_DEPTH : goal.returns-then-len-ge-MAX_DEPTH
returns-then-len-ge-MAX_DEPTH c =
    deep (reverse c.args.self.now.outer.items) c.args.self.now.level c.args.at (class_view c.args.class) (ap class_view c.in-Open.is)
    (omega (arith, length-reverse c.args.self.now.outer.items, c.len.ensures.value, c.if-len-ge-MAX_DEPTH.true))
