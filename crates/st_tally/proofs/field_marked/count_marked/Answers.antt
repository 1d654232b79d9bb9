use Rattle.std.proofs.Common.{length, subst, arith, rules}
use Rattle.st_index.specs.inner.Entries.{EntryValue}
use Rattle.st_index.proofs.Tallying.{far_all}
use Rattle.st_tally.specs.inner.Marks.{IsTested}
use Rattle.st_tally.specs.inner.Spots.{IsBoxOf}
use Rattle.st_tally.proofs.Tested.{none_in_field_at, none_in_fields_to}
use Rattle.st_tally.proofs.field_marked.count_marked.Given.{Over}
use Rattle.st_tally.proofs.field_marked.count_marked.Goals.{After-new}
use Rattle.st_tally.proofs.field_marked.count_marked.Goals as goal

bounds : (g : Over) (c : After-new g) → IsBoxOf (g.F.Fields.query c.args.fields.now) c.args.marks.now.week c.new.result
bounds g c = subst (λ q. IsBoxOf q c.args.marks.now.week c.new.result) c.query.ensures c.new.ensures

pub count_tested-requires-clause-tested : goal.count_tested-requires-clause-tested
count_tested-requires-clause-tested g c = λ i e h.
    c.test_marks-tested.ensures (g.F.Fields.query c.args.fields.now) i (bounds g (goal.at.count_tested-requires-clause-tested g c).After-new)
    (omega (arith, h.0, c.requires.not_more))

pub returns-else-has_some-clause-counts : goal.returns-else-has_some-clause-counts
returns-else-has_some-clause-counts g c =
    let marks = c.args.marks.now in
    let es = c.args.entries.now in
    let q = g.F.Fields.query c.args.fields.now in
    let judges = g.J.Judge.judges c.args.judge.now in
    let field_of = g.F.Fields.field_of c.args.fields.now in
    let counts = c.args.counts.now in
    far_all q judges field_of (λ (e : EntryValue g.row.A.Denot). e.rows) es (length es) counts counts
    (none_in_fields_to q judges es field_of counts (length es) (omega arith) (λ i e h.
    none_in_field_at q judges c.args.verdicts.now.marks.now.labels.items es marks c.requires.marked (search rules, search rules) c.requires.not_more i e h
    (subst (IsTested q marks i) (c.has_some.ensures c.if-has_some.false i) (c.test_marks-tested.ensures q i
    (bounds g (goal.at.returns-else-has_some-clause-counts g c).After-new) (omega (arith, h.0, c.requires.not_more)))) field_of counts))
    (omega arith)
