use Rattle.std.proofs.Common.{◌≡◌, true, sym, subst, rules}
use Rattle.st_dir.specs.Directory.{is_table}
use Rattle.st_core.specs.State.{State}
use Rattle.st_core.proofs.Headings.{has_heading}
use Rattle.st_core.proofs.store.Store.delete.Goals as goal

pub delete-requires : goal.delete-requires
delete-requires g c =
    let headings = c.self.invariant.1 in
    let name = c.as_str.ensures.value in
    rw (name, headings) (has_heading c.self.inside.directory c.args.table.now (subst (λ (s : State g.row.A.Denot). is_table s.directory c.args.table.now ≡ true) (sym c.self.view_is) c.requires))

pub returns : goal.returns
returns g c = search rules
