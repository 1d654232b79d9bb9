use Rattle.std.proofs.Common.{◌≡◌, ap, ◌∙◌}
use Rattle.st_index.specs.inner.Entries.{name_of}
use Rattle.st_index.proofs.Names.{name_equal}
use Rattle.st_index.proofs.Taking.{swapped, swapped_named, names_missing}
use Rattle.st_index.proofs.entry.Entry.swap.Goals as goal

pub returns-in-Ok-clause-ok : goal.returns-in-Ok-clause-ok
returns-in-Ok-clause-ok g c =
    let id : c.as_str.result.now ≡ c.args.row.id = c.as_str.ensures.value in
    let label : c.text.result.now ≡ c.args.row.label = c.text.ensures.value in
    let same = rw (id, label) at (c.in-Ok.ensures.place c.replace.result) in
    rw c.replace.ensures.rows (
      swapped c.args.self.now.rows c.in-Ok.i c.replace.result c.args.row c.in-Ok.ensures.bound c.replace.ensures.value,
      ap name_of c.replace.ensures.value ∙ name_equal _ _ same,
    )

pub returns-in-Ok-clause-named : goal.returns-in-Ok-clause-named
returns-in-Ok-clause-named g c =
    let id : c.as_str.result.now ≡ c.args.row.id = c.as_str.ensures.value in
    let label : c.text.result.now ≡ c.args.row.label = c.text.ensures.value in
    let same = rw (id, label) at (c.in-Ok.ensures.place c.replace.result) in
    rw c.replace.ensures.rows
    (swapped_named c.args.self.now.rows c.in-Ok.i c.replace.result c.args.row c.in-Ok.ensures.bound c.replace.ensures.value
    (ap name_of c.replace.ensures.value ∙ name_equal _ _ same))

pub returns-in-Err-clause-absent : goal.returns-in-Err-clause-absent
returns-in-Err-clause-absent g c =
    let id : c.as_str.result.now ≡ c.args.row.id = c.as_str.ensures.value in
    let label : c.text.result.now ≡ c.args.row.label = c.text.ensures.value in
    let found = rw (id, label) at c.in-Err.ensures.place in
    names_missing _ c.args.self.now.rows c.in-Err.field-0 found
