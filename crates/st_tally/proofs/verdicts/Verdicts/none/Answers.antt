use Rattle.std.proofs.Common.{◌≡◌, Bool, IfSome, None, sym, subst}
use Rattle.st_tally.specs.inner.Marks.{verdict_on}
use Rattle.st_tally.proofs.Tallied.{none_read}
use Rattle.st_tally.proofs.verdicts.Verdicts.none.Goals as goal

pub returns-clause-known : goal.returns-clause-known
returns-clause-known g c = λ judges number.
    subst (λ found. IfSome found (λ (verdict : Bool). verdict ≡ verdict_on judges c.args.marks.now.labels.items number)) (sym (none_read None 512 number)) tt
