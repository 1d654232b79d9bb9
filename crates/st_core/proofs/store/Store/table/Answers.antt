use Rattle.std.proofs.Common.{◌≡◌, true, sym, ap, subst, ◌∙◌}
use Rattle.st_dir.specs.Directory.{is_table}
use Rattle.st_core.specs.State.{State}
use Rattle.st_dir.specs.Directory.{period_of}
use Rattle.st_core.specs.inner.Tables.{heading_named}
use Rattle.st_core.proofs.Headings.{has_heading, period_is}
use Rattle.st_core.proofs.store.Store.table.Goals as goal

pub table-requires : goal.table-requires
table-requires g c =
    let headings = c.self.invariant.1 in
    let name = c.as_str.ensures.value in
    rw (name, headings) (has_heading c.self.inside.directory c.args.table.now (subst (λ (s : State g.row.A.Denot). is_table s.directory c.args.table.now ≡ true) (sym c.self.view_is) c.requires))

pub returns-clause-period : goal.returns-clause-period
returns-clause-period g c =
    let name = c.args.table.now in
    let found = rw c.as_str.ensures.value at c.table.ensures.period in
    let headings = c.self.invariant.1 in
    period_is c.self.inside.directory name c.table.result.now.period (ap (heading_named name) (sym headings) ∙ found)
    ∙ ap (λ (s : State g.row.A.Denot). period_of s.directory name) c.self.view_is
