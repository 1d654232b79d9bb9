use Rattle.std.proofs.Common.{◌≡◌, true, sym, ap, subst, ◌∙◌}
use Rattle.st_dir.specs.Directory.{is_table}
use Rattle.st_core.specs.State.{State}
use Rattle.st_dir.specs.Directory.{Directory}
use Rattle.st_core.specs.inner.Tables.{TablesValue, headings_of, headings_without}
use Rattle.st_core.proofs.Headings.{has_heading, headings_dropped}
use Rattle.st_core.proofs.Shelving.{surely}
use Rattle.st_core.proofs.store.Store.drop_table.Goals as goal

pub remove-requires : goal.remove-requires
remove-requires g c =
    let headings = c.self.invariant.1 in
    let name = c.as_str.ensures.value in
    rw (name, headings) (has_heading c.self.inside.directory c.args.table.now (subst (λ (s : State g.row.A.Denot). is_table s.directory c.args.table.now ≡ true) (sym c.self.view_is) c.requires))

pub invariant_of-self : goal.invariant_of-self
invariant_of-self g c =
    let name = c.args.table.now in
    let d : Directory g.row.A.Denot = c.self.inside.directory in
    let removed = rw c.as_str.ensures.value at c.remove.ensures in
    let there = subst (λ (s : State g.row.A.Denot). is_table s.directory name ≡ true) (sym c.self.view_is) c.requires in
    let made = surely c.drop_table.result (c.drop_table.ensures.there there) c.drop_table.ensures.ok in (
      c.self.invariant.0,
      ap (λ (t : TablesValue g.row.A.Denot). t.headings) removed ∙ ap (headings_without name) c.self.invariant.1
          ∙ sym (headings_dropped name d.tables) ∙ sym (ap (λ (e : Directory g.row.A.Denot). headings_of e.tables) made),
    )
