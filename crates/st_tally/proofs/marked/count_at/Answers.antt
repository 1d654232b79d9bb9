use Rattle.std.proofs.Common.{◌<◌, length, sym, ap, subst, ◌∙◌}
use Rattle.st_index.specs.inner.Counting.{count_of}
use Rattle.st_index.specs.inner.Entries.{rows_of}
use Rattle.st_tally.proofs.ByMarks.{one_entry, rows_of_one}
use Rattle.st_tally.proofs.Placing.{there_is}
use Rattle.st_tally.proofs.marked.count_at.Goals as goal

pub count-requires : goal.count-requires
count-requires g c =
    let es = c.args.entries.now in
    let some = there_is es c.args.at c.requires.within in
    subst (λ rows. length rows < 18446744073709551616) (sym (ap rows_of (one_entry es c.args.at some.0 some.1) ∙ rows_of_one some.0)) (c.requires.fits some.0 some.1)

pub returns-clause-count : goal.returns-clause-count
returns-clause-count g c = λ e h.
    c.count.ensures.count
    ∙ ap (λ es. count_of c.args.query.now (g.J.Judge.judges c.args.judge.now) (rows_of es)) (one_entry c.args.entries.now c.args.at e h)
    ∙ ap (count_of c.args.query.now (g.J.Judge.judges c.args.judge.now)) (rows_of_one e)
