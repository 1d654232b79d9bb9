use Rattle.std.proofs.Common.{◌≡◌}
use Rattle.std.specs.Str.Iter.{chars_rest}
use Rattle.st_label.specs.inner.Machine.{init, run}
use Rattle.st_label.specs.Refusals.{max_depth}
use Rattle.st_label.specs.inner.Views.{reader_view}
use Rattle.st_label.proofs.label.tree_of.Given as goal

-- what is left decides
abbrev pub invariant-loop-c : goal.invariant-loop-c
invariant-loop-c g l = run max_depth (reader_view l.reader) (chars_rest l.c-iterator) ≡ run max_depth init l.label
