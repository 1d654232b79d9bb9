use Rattle.std.proofs.Common.{subst}
use Rattle.st_box.specs.Query.{HasKey}
use Rattle.tests_index.proofs.walks.take_steps.Goals as goal

pub new-walk-requires : goal.new-walk-requires
new-walk-requires g c = record { exact = λ k held. subst (λ p. HasKey c.in_ok-query.query p k) c.period.ensures.value (c.in-Ok.ensures.exact k held) }
