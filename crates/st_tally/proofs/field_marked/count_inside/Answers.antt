use Rattle.std.proofs.Common.{sym, subst, arith}
use Rattle.st_tally.specs.inner.Marks.{IsTested}
use Rattle.st_tally.proofs.Tested.{all_tested, all_true}
use Rattle.st_tally.proofs.field_marked.count_inside.Goals as goal

pub count_tested-requires-clause-tested : goal.count_tested-requires-clause-tested
count_tested-requires-clause-tested g c = λ i e h.
    let q = g.F.Fields.query c.args.fields.now in
    subst (IsTested q c.args.marks.now i) (sym (all_true 32 i (omega (arith, h.0, c.requires.not_more))))
    (all_tested q c.args.verdicts.now.marks.now.labels.items c.args.entries.now c.args.marks.now i e c.requires.marked h c.requires.inside)
