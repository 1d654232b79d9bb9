use Rattle.st_label.specs.inner.Views.{reader_view}
use Rattle.st_label.proofs.Chars.{one_more, never_refused, whole_label, some_none, same_tree}
use Rattle.st_label.proofs.label.tree_of.Goals as goal

pub loop-c-preserved : goal.loop-c-preserved
loop-c-preserved g c = one_more (reader_view c.loop-c.reader) (reader_view c.in-Ok.next) c.args.label.now _ _ c.in-Some.c c.in-Some.ensures.steps.0 c.in-Ok.ensures c.loop-c.invariant

pub unreachable-requires : goal.unreachable-requires
unreachable-requires g c =
    let none = rw c.in-Err-Refused.field-0-is at c.in-Err-Refused.ensures in
    never_refused (reader_view c.loop-c.reader) c.args.label.now _ _ c.in-Some.c c.requires c.in-Some.ensures.steps.0 c.loop-c.invariant none

pub unreachable-requires-in-Err-Refused-finish : goal.unreachable-requires-in-Err-Refused-finish
unreachable-requires-in-Err-Refused-finish g c =
    let none = rw c.in-Err-Refused-finish.field-0-is at c.in-Err-Refused-finish.ensures in
    some_none _ _ (whole_label (reader_view c.loop-c.reader) c.args.label.now _ c.requires c.in-None.ensures.steps.0.0 c.loop-c.invariant) none

pub returns-in-Ok-finish : goal.returns-in-Ok-finish
returns-in-Ok-finish g c =
    same_tree _ _ _ c.in-Ok-finish.ensures (whole_label (reader_view c.loop-c.reader) c.args.label.now _ c.requires c.in-None.ensures.steps.0.0 c.loop-c.invariant)
