use Rattle.std.specs.Prelude.{◌≡◌}
use mathlib.Core.List.{IsPrefix}
use Rattle.st_hall_group_commit.proofs.draft.hand_all.Given as goal

abbrev pub invariant-loop : goal.invariant-loop
invariant-loop g l = record {
  pushed : IsPrefix l.press.pushed l.kept;
  published : l.press.published ≡ l.fn.press.published;
}
