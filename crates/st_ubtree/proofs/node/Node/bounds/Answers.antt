use Rattle.std.proofs.Common.{sym, subst}
use Rattle.std.specs.List.{All}
use Rattle.st_index.specs.declared.row.Row.{Row}
use Rattle.st_tally.specs.inner.Sums.{IsWithin}
use Rattle.st_ubtree.specs.inner.Nodes.{rows_under}
use Rattle.st_ubtree.proofs.Over.{seen_rows}
use Rattle.st_ubtree.proofs.node.Node.bounds.Goals as goal

pub returns : goal.returns
returns g c =
    subst (λ rows. All (λ (row : Row g.row.A.Denot). IsWithin c.bounds.result row.point) rows) (sym (seen_rows c.self.inside c.self.view_is))
    (subst (λ b. All (λ (row : Row g.row.A.Denot). IsWithin b row.point) (rows_under c.self.inside.kids)) (sym c.bounds.ensures) c.self.invariant.1.within)
