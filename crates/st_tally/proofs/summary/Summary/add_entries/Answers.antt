use Rattle.std.proofs.Common.{◌<◌, ◌++◌, length, take, sym, ap, subst, arith}
use Rattle.std.proofs.lemmas.List.{append-nil, take_all}
use Rattle.st_index.specs.inner.Entries.{EntryValue, rows_of}
use Rattle.st_tally.specs.inner.Sums.{Sums}
use Rattle.st_tally.proofs.Summing.{next_lists}
use Rattle.st_tally.proofs.summary.Summary.add_entries.Goals as goal

pub loop-entry-init : goal.loop-entry-init
loop-entry-init g c = λ rows sums. subst (Sums c.args.self.now) (sym (append-nil rows)) sums

pub loop-entry-preserved : goal.loop-entry-preserved
loop-entry-preserved g c = λ rows sums.
    let entries = c.args.entries.now in
    let i = c.loop-entry.entry-index in
    let below : i < length entries = omega arith in
    subst (Sums c.add_entry.new.self) (next_lists (λ (e : EntryValue g.row.A.Denot). e.rows) rows entries i c.entry-item.result below c.entry-item.is)
    (c.add_entry.ensures (rows ++ rows_of (take i entries)) (c.loop-entry.invariant rows sums))

pub returns : goal.returns
returns g c = λ rows sums. subst (Sums c.loop-entry.self)
    (ap (λ es. rows ++ rows_of es) (take_all c.loop-entry.entry-index c.args.entries.now c.loop-entry-test.false)) (c.loop-entry.invariant rows sums)
