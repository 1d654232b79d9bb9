use Rattle.st_index.specs.inner.Entries.{rows_of}
use Rattle.st_tally.proofs.Summing.{sums_more, wider}
use Rattle.st_tally.proofs.summary.Summary.add_page.Goals as goal

pub returns : goal.returns
returns g c = λ rows sums.
    let more = rows_of c.args.entries.now in
    sums_more c.args.self.now _ rows more sums c.joined-self.ensures.own
    (wider c.args.page.now.bounds c.joined-self.result c.joined-self.ensures.others more c.requires.within)
    c.put_entries.ensures
