use Rattle.std.proofs.Common.{rules, sym, ap, ◌∙◌}
use Rattle.st_dir.specs.Directory.{Directory}
use Rattle.st_core.specs.inner.Tables.{headings_of}
use Rattle.st_core.proofs.Headings.{directory_stays}
use Rattle.st_core.proofs.Shelving.{either_way}
use Rattle.st_core.proofs.store.Store.make.Goals as goal

pub invariant_of-self : goal.invariant_of-self
invariant_of-self g c =
    let d : Directory g.row.A.Denot = c.self.inside.directory in
    let at = c.in_default in (
      c.self.invariant.0,
      c.self.invariant.1 ∙ sym (either_way c.change_directory.result c.change_directory.ensures.ok c.change_directory.ensures.err
          (λ e. ap (λ (f : Directory g.row.A.Denot). headings_of f.tables) e ∙ directory_stays c.args.asker.now c.args.request.now d at.not-CreateTable at.not-DropTable at.not-Period)
          (λ e. ap (λ (f : Directory g.row.A.Denot). headings_of f.tables) e)),
    )

pub returns-in-Delete-clause-ok : goal.returns-in-Delete-clause-ok
returns-in-Delete-clause-ok g c = search rules
