use Rattle.std.proofs.Common.{◌≡◌, true, sym, ap, subst, ◌∙◌}
use Rattle.st_dir.specs.Directory.{is_table}
use Rattle.st_core.specs.State.{State}
use Rattle.st_dir.specs.Directory.{Directory}
use Rattle.st_core.specs.inner.Tables.{TablesValue, headings_of, headings_with}
use Rattle.st_core.proofs.Headings.{has_heading, headings_changed}
use Rattle.st_core.proofs.Shelving.{surely}
use Rattle.st_core.proofs.store.Store.set_period.Goals as goal

pub rebuild-requires : goal.rebuild-requires
rebuild-requires g c =
    let headings = c.self.invariant.1 in
    let name = c.as_str.ensures.value in
    rw (name, headings) (has_heading c.self.inside.directory c.args.table.now (subst (λ (s : State g.row.A.Denot). is_table s.directory c.args.table.now ≡ true) (sym c.self.view_is) c.requires))

pub invariant_of-self-2 : goal.invariant_of-self-2
invariant_of-self-2 g c =
    let name = c.args.table.now in
    let d : Directory g.row.A.Denot = c.self.inside.directory in
    let rebuilt = rw c.as_str.ensures.value at c.in_ok-rebuild.ensures.ok in
    let there = subst (λ (s : State g.row.A.Denot). is_table s.directory name ≡ true) (sym c.self.view_is) c.requires in
    let made = surely c.set_period.result (c.set_period.ensures.there there) c.set_period.ensures.ok in (
      c.self.invariant.0,
      ap (λ (t : TablesValue g.row.A.Denot). t.headings) rebuilt ∙ ap (headings_with name c.args.period) c.self.invariant.1
          ∙ sym (headings_changed name c.args.period d.tables) ∙ sym (ap (λ (e : Directory g.row.A.Denot). headings_of e.tables) made),
    )
