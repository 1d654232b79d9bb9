use Rattle.std.proofs.Common.{arith, []}
use Rattle.st_label.specs.inner.Views.{outer_view, level_view}
use Rattle.st_label.proofs.Steps.{full}
use Rattle.st_label.proofs.Seen.{outer_length}
use Rattle.st_label.proofs.reader.opened.Goals as goal

pub returns-then-len-ge-MAX_DEPTH : goal.returns-then-len-ge-MAX_DEPTH
returns-then-len-ge-MAX_DEPTH g c =
    rw c.refused.ensures (full (outer_view c.args.outer.items) (level_view c.args.level) [] (omega (arith, outer_length c.args.outer.items, c.args.outer.ok.0)))
