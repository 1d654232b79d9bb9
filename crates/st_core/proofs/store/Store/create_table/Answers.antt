use Rattle.std.proofs.Common.{◌≡◌, ◌∷◌, false, sym, ap, subst, ◌∙◌}
use Rattle.st_dir.specs.Directory.{is_table}
use Rattle.st_core.specs.State.{State}
use Rattle.st_text.specs.Texts.{in_order}
use Rattle.st_dir.specs.Directory.{Directory}
use Rattle.st_core.specs.inner.Tables.{TablesValue, heading_key, headings_of}
use Rattle.st_core.proofs.Headings.{has_no_heading, headings_added, now_named}
use Rattle.st_core.proofs.store.Store.create_table.Goals as goal

pub add-requires : goal.add-requires
add-requires g c =
    let headings = c.self.invariant.1 in
    rw headings (has_no_heading c.self.inside.directory c.args.table.now (subst (λ (s : State g.row.A.Denot). is_table s.directory c.args.table.now ≡ false) (sym c.self.view_is) c.requires.new))

pub invariant_of-self-in-Ok : goal.invariant_of-self-in-Ok
invariant_of-self-in-Ok g c =
    let name = c.args.table.now in
    let d : Directory g.row.A.Denot = c.self.inside.directory in (
      c.self.invariant.0,
      ap (λ (t : TablesValue g.row.A.Denot). t.headings) c.in_ok-add.ensures.ok
          ∙ ap (λ hs. in_order heading_key (record { table = name; period = c.args.period } ∷ hs)) c.self.invariant.1
          ∙ sym (headings_added name c.args.period d.tables) ∙ sym (ap (λ (e : Directory g.row.A.Denot). headings_of e.tables) c.in-Ok.ensures.ok),
    )

pub remove-requires : goal.remove-requires
remove-requires g c =
    let name = c.args.table.now in
    let headings = ap (λ (t : TablesValue g.row.A.Denot). t.headings) c.in_ok-add.ensures.ok in
    let is = c.as_str.ensures.value in
    rw (is, headings) (now_named name c.args.period c.self.inside.tables.headings)
