use Rattle.std.proofs.Common.{arith}
use Rattle.st_table.proofs.Numbers.{none_before, none_from}
use Rattle.st_table.proofs.places.Places.next_of.Goals as goal

pub returns-in_default-clause-none : goal.returns-in_default-clause-none
returns-in_default-clause-none g c = λ n from below.
    let empty = c.in_default.ensures.steps.0 in
    rw (← c.self.view_is) (none_from c.self.inside.numbers _ c.range.result (c.range.ensures.in_range tt) empty _ (omega (arith, from)))

pub returns-then-found-many-clause-first : goal.returns-then-found-many-clause-first
returns-then-found-many-clause-first g c = λ n from before.
    rw (← c.self.view_is) (none_before c.self.inside.numbers _ c.range.result (c.range.ensures.in_range tt) _ _ c.in-Some.ensures.steps _ (omega (arith, from)) (omega (arith, before)))

pub returns-else-found-many-clause-none : goal.returns-else-found-many-clause-none
returns-else-found-many-clause-none g c = λ n from below.
    let far = c.if-found-many.false in
    rw (← c.self.view_is) (none_before c.self.inside.numbers _ c.range.result (c.range.ensures.in_range tt) _ _ c.in-Some.ensures.steps _ (omega (arith, from)) (omega (arith, below, far)))
