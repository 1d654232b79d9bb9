use Rattle.std.specs.Prelude.{take}
use Rattle.std.specs.List.{All}
use mathlib.Core.List.{IsPrefix}
use Rattle.st_hall.proofs.law.one_list.Given as goal

abbrev pub invariant-loop-front : goal.invariant-loop-front
invariant-loop-front g l = record {
  first : IsPrefix l.first l.list;
  others : All (λ front. IsPrefix front l.list) (take l.front-index l.others);
}
