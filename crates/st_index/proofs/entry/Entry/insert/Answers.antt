use Rattle.std.proofs.Common.{◌<◌, ◌≤◌, List, length, vec_capacity, sym, ap, subst, ◌∙◌}
use Rattle.st_index.specs.declared.row.Row.{Row}
use Rattle.st_index.specs.inner.Storages.{stored_at}
use Rattle.st_index.proofs.Places.{entry_at, entry_rows}
use Rattle.st_index.proofs.entry.Entry.insert.Goals as goal

pub with_row-requires-clause-some : goal.with_row-requires-clause-some
with_row-requires-clause-some g c = subst (λ (rs : List (Row g.row.A.Denot)). 0 < length rs) (sym (entry_rows _ c.self.inside.place _ c.replace-place.ensures.value c.self.view_is)) c.requires.some

pub with_row-requires-clause-index : goal.with_row-requires-clause-index
with_row-requires-clause-index g c =
    subst (λ (rs : List (Row g.row.A.Denot)). c.args.index ≤ length rs)
    (sym (entry_rows _ c.self.inside.place _ c.replace-place.ensures.value c.self.view_is)) c.requires.index

pub with_row-requires-clause-room : goal.with_row-requires-clause-room
with_row-requires-clause-room g c =
    subst (λ (rs : List (Row g.row.A.Denot)). length rs < vec_capacity c.args.list)
    (sym (entry_rows _ c.self.inside.place _ c.replace-place.ensures.value c.self.view_is)) c.requires.room

pub returns-clause-at : goal.returns-clause-at
returns-clause-at g c = ap stored_at c.overwrite.ensures ∙ c.with_row.ensures.at ∙ entry_at _ c.self.inside.place _ c.replace-place.ensures.value c.self.view_is
