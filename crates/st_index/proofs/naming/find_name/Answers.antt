use Rattle.std.proofs.Common.{rules}
use Rattle.std.proofs.lemmas.Fn.{always_returns_same}
use Rattle.st_index.specs.declared.row.Row.{Row}
use Rattle.st_index.specs.inner.Entries.{name_of, name_cmp}
use Rattle.st_index.proofs.naming.find_name.Goals as goal

pub returns-clause-place : goal.returns-clause-place
returns-clause-place g c =
    c.binary_search_by.ensures.position (λ (r : Row g.row.A.Denot). name_cmp (name_of r) (record { id = c.args.id.now; label = c.args.label.now }))
    (always_returns_same _ _ _ (λ a r f called. search rules))
