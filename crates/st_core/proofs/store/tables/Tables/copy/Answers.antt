use Rattle.std.proofs.Common.{List, sym, ap, subst, ◌∙◌}
use Rattle.st_dir.specs.Sorted.{Rises}
use Rattle.st_core.specs.inner.Tables.{heading_key}
use Rattle.st_core.specs.inner.Shelves.{headings_in, tables_in}
use Rattle.st_core.specs.declared.store.tables.Shelf.{Shelf}
use Rattle.st_core.proofs.store.tables.Tables.copy.Goals as goal

pub invariant_of-result : goal.invariant_of-result
invariant_of-result g c =
    subst (λ (items : List (Shelf g.row.A.Denot)). Rises heading_key (headings_in items)) (sym (c.in_ok-copies.ensures ∙ c.deref.ensures.value)) c.self.invariant

pub returns : goal.returns
returns g c =
    ap (λ (items : List (Shelf g.row.A.Denot)). tables_in items) (c.in_ok-copies.ensures ∙ c.deref.ensures.value) ∙ c.self.view_is
