use Rattle.std.proofs.Common.{◌≡◌, ℕ, ◌+◌, ◌&&◌, true, cond, get_or, nat_eq, sym, ap, ◌∙◌}
use Rattle.st_box.specs.Query.{is_inside}
use Rattle.st_tally.specs.inner.Marks.{verdict_on}
use Rattle.st_tally.proofs.field_marked.count_numbered.Goals as goal

pub field-field-requires : goal.field-field-requires
field-field-requires g c =
    let at = c.requires.spot in
    ap (is_inside (g.F.Fields.query c.args.fields.now)) (c.point_at.ensures at.0 at.1) ∙ c.requires.inside at.0 at.1

pub returns-then-of-clause-counts : goal.returns-then-of-clause-counts
returns-then-of-clause-counts g c = λ point field is.
    let field_of = g.F.Fields.field_of c.args.fields.now in
    let verdict = verdict_on (g.J.Judge.judges c.args.judge.now) c.args.verdicts.now.marks.now.labels.items c.args.number in
    let old = get_or c.args.counts.now field 0 in
    let inside = c.requires.inside point is in
    let found : verdict ≡ true = sym c.of.ensures.verdict ∙ c.if-of.true in
    c.add.ensures field
    ∙ ap {B = ℕ} (λ n. old + cond (nat_eq n field) 1 0) (c.field-field.ensures.value ∙ ap field_of (c.point_at.ensures point is))
    ∙ sym (ap {B = ℕ} (λ b. old + cond (b && verdict && nat_eq (field_of point) field) 1 0) inside ∙ ap {B = ℕ} (λ b. old + cond (b && nat_eq (field_of point) field) 1 0) found)
