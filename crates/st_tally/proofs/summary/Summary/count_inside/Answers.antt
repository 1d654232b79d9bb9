use Rattle.std.proofs.Common.{sym, ◌∙◌, arith}
use Rattle.std.proofs.lemmas.List.Sums.{count_by-le-length}
use Rattle.st_index.specs.declared.row.Row.{Row}
use Rattle.st_tally.proofs.Bounding.{all_counted}
use Rattle.st_tally.proofs.summary.Summary.count_inside.Goals as goal

pub total-requires : goal.total-requires
total-requires g c =
    let judges = g.J.Judge.judges c.args.judge.now in
    let fits = count_by-le-length (λ (r : Row g.row.A.Denot). judges r.label) c.requires.0 in
    omega (arith, c.requires.1.counted (sym c.are_all.ensures ∙ c.if-not-are_all.false) judges, fits, c.requires.2)

pub returns-clause-some : goal.returns-clause-some
returns-clause-some g c = λ rows sums.
    let judges = g.J.Judge.judges c.args.judge.now in
    c.total.ensures.total
    ∙ sums.counted (sym c.are_all.ensures ∙ c.if-not-are_all.false) judges
    ∙ sym (all_counted c.args.self.now.bounds c.args.query.now judges rows sums.within (sym c.lies_in.ensures ∙ c.if-not-lies_in.false))
