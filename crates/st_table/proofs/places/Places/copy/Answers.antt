use Rattle.std.proofs.Common.{ℕ, List, sym, ap, subst, ◌∙◌}
use Rattle.st_table.specs.inner.Places.{HasNoZero}
use Rattle.st_table.proofs.Copying.{cloned}
use Rattle.st_table.proofs.places.Places.copy.Goals as goal

pub invariant_of-result : goal.invariant_of-result
invariant_of-result g c = subst HasNoZero (sym (cloned _ _ c.in_ok-clone.ensures.cases)) c.self.invariant

pub returns : goal.returns
returns g c =
    ap (λ (ns : List (ℕ × ℕ)). record { seed = c.self.inside.seed; numbers = ns }) (cloned _ _ c.in_ok-clone.ensures.cases) ∙ c.self.view_is
