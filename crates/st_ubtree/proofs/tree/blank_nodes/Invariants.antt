use Rattle.std.proofs.Common.{◌≡◌, length}
use Rattle.st_ubtree.specs.inner.Growing.{AreBlank}
use Rattle.st_ubtree.proofs.tree.blank_nodes.Given as goal

abbrev pub invariant-loop-at : goal.invariant-loop-at
invariant-loop-at g l = record {
  blank : AreBlank l.blanks.items;
  count : length l.blanks.items ≡ l.at;
}
