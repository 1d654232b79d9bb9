use Rattle.std.proofs.Common.{◌<◌, Bool, cond, length, arith}
use Rattle.st_text.specs.Texts.{Text}
use Rattle.st_index.specs.declared.row.Row.{Row}
use Rattle.st_index.specs.inner.Entries.{EntryValue}
use Rattle.st_index.proofs.Sums.{sum_by-flat_map}
use Rattle.st_tally.specs.inner.Sums.{labelled}
use Rattle.st_tally.proofs.Labels.{more_all, more_next}
use Rattle.st_tally.proofs.label_counts.LabelCounts.put_entries.Goals as goal

pub loop-entry-init : goal.loop-entry-init
loop-entry-init g c = λ h. (h, λ judges. omega arith)

pub loop-entry-preserved : goal.loop-entry-preserved
loop-entry-preserved g c =
    let entries = c.args.entries.now in
    let i = c.loop-entry.entry-index in
    let below : i < length entries = omega arith in
    more_next (λ (judges : Text → Bool) (e : EntryValue g.row.A.Denot). labelled judges e.rows) entries i c.entry-item.result below c.entry-item.is
    c.args.self.now c.loop-entry.self c.put_entry.new.self c.loop-entry.invariant c.put_entry.ensures

pub returns : goal.returns
returns g c = λ h.
    let all = more_all (λ (judges : Text → Bool) (e : EntryValue g.row.A.Denot). labelled judges e.rows) c.args.entries.now c.loop-entry.entry-index
    c.loop-entry-test.false c.args.self.now c.loop-entry.self c.loop-entry.invariant h in (
      all.0,
      λ judges.
          let flat = sum_by-flat_map (λ (r : Row g.row.A.Denot). cond (judges r.label) 1 0) (λ (e : EntryValue g.row.A.Denot). e.rows) c.args.entries.now in
          omega (arith, all.1 judges, flat),
    )
