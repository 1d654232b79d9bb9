use Rattle.std.proofs.Common.{IfNone, subst}
use Rattle.st_key.specs.declared.key.Key.{Key}
use Rattle.st_key.specs.Key.{IsBefore}
use Rattle.st_box.specs.Query.{HasKey}
use Rattle.st_bigmin.proofs.first.first_from.Goals as goal

pub returns-clause-none : goal.returns-clause-none
returns-clause-none c =
    subst (λ w. IfNone c.first_by.result ((k : Key) → HasKey c.args.query.now w k → IsBefore k c.args.from)) c.new.ensures.period
    (subst (λ q. IfNone c.first_by.result ((k : Key) → HasKey q c.new.result.period k → IsBefore k c.args.from)) c.new.ensures.query c.first_by.ensures.none)
