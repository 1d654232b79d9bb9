use Rattle.std.proofs.Common.{ap, ◌∙◌}
use Rattle.st_index.specs.inner.Entries.{name_of}
use Rattle.st_index.proofs.Names.{name_equal}
use Rattle.st_index.proofs.Taking.{removed_adds, removed_named, names_missing}
use Rattle.st_index.proofs.entry.Entry.take.Goals as goal

pub returns-in-Ok-clause-some : goal.returns-in-Ok-clause-some
returns-in-Ok-clause-some g c =
    rw c.remove.ensures.rows (
      removed_adds c.args.self.now.rows c.in-Ok.i c.remove.result c.in-Ok.ensures.bound c.remove.ensures.value,
      ap name_of c.remove.ensures.value ∙ name_equal _ _ (c.in-Ok.ensures.place c.remove.result),
    )

pub returns-in-Ok-clause-named : goal.returns-in-Ok-clause-named
returns-in-Ok-clause-named g c =
    rw c.remove.ensures.rows (removed_named c.args.self.now.rows c.in-Ok.i c.remove.result c.in-Ok.ensures.bound c.remove.ensures.value)

pub returns-in-Err-clause-absent : goal.returns-in-Err-clause-absent
returns-in-Err-clause-absent g c = names_missing _ c.args.self.now.rows c.in-Err.field-0 c.in-Err.ensures.place
