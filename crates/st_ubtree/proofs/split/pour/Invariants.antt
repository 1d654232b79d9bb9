use Rattle.std.proofs.Common.{◌≡◌, ◌+◌, ◌≤◌, ◌++◌, min, vec_len, vec_capacity}
use mathlib.Core.List.{reverse}
use Rattle.st_ubtree.proofs.split.pour.Given as goal

abbrev pub decreases-loop-from : goal.decreases-loop-from
decreases-loop-from g l = vec_len l.from

abbrev pub invariant-loop-from : goal.invariant-loop-from
invariant-loop-from g l = record {
  kept : l.from.items ++ reverse l.to.items ≡ l.initial.from.items ++ reverse l.initial.to.items;
  room : vec_len l.from + vec_len l.to ≤ l.count + vec_capacity l.to;
  count : min l.count (vec_len l.from) ≡ min l.count (vec_len l.initial.from);
  from_room : vec_capacity l.initial.from ≤ vec_capacity l.from;
  to_room : vec_capacity l.initial.to ≤ vec_capacity l.to;
}
