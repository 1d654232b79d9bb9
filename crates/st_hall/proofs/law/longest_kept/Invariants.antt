use Rattle.std.specs.Prelude.{take}
use Rattle.std.specs.List.{All}
use mathlib.Core.List.{IsPrefix}
use Rattle.st_hall.proofs.law.longest_kept.Given as goal

abbrev pub invariant-loop-kept : goal.invariant-loop-kept
invariant-loop-kept g l = record {
  first : IsPrefix l.first l.longest;
  others : All (λ front. IsPrefix front l.longest) (take l.kept-index l.others);
}
