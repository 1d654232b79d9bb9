use Rattle.std.proofs.Common.{◌≡◌, ◌<◌, length, sym, ap, ◌∙◌, arith, vec_capacity}
use Rattle.std.specs.List.{All}
use Rattle.st_index.specs.inner.Entries.{EntryValue, rank_of}
use Rattle.st_tally.specs.inner.Pages.{entries_of_pages}
use Rattle.st_ubtree.specs.inner.Splits.{made_nodes, split_nodes, splits}
use Rattle.st_ubtree.proofs.tree.UbTreeRowIndex.prepare.Goals as goal

pub returns : goal.returns
returns g c =
    let root = c.self.inside.root in
    let key = c.key.ensures.value in
    let place = rank_of c.self.inside.period c.args.row.now in
    let split : splits root place ≡ split_nodes c.needs-needs.result.inners = ap (splits root) (sym key) ∙ c.needs-needs.ensures.splits in
    let enough : All (λ (e : EntryValue g.row.A.Denot). e.at ≡ place → 0 < length e.rows → length e.rows < vec_capacity c.in_ok-rows.rows) (entries_of_pages root.pages) =
    λ k d l at some. let n = c.needs-needs.ensures.rows k d l (at ∙ sym key) in let room = c.in_ok-rows.ensures.room (omega (arith, n, some)) in omega (arith, n, room) in
    let none : All (λ (e : EntryValue g.row.A.Denot). e.at ≡ place → ⊥) (entries_of_pages root.pages) → vec_capacity c.in_ok-rows.rows ≡ 0 =
    λ no. c.in_ok-rows.ensures.no_room (c.needs-needs.ensures.no_rows (rw (← key) at no)) in
    let made = c.in_ok-inners.ensures.count ∙ c.in_ok-made.ensures ∙ ap (λ h. made_nodes h (split_nodes c.needs-needs.result.inners)) c.height.ensures ∙ ap (made_nodes root.height) (sym split) in
    rw (← c.self.view_is) (record {
      rows = record { empty = c.in_ok-rows.ensures.empty; enough = enough };
      no_rows = none;
      page = λ some. c.in_ok-page.ensures.some (omega (arith, split, some));
      no_page = λ none. c.in_ok-page.ensures.none (omega (arith, split, none));
      blank = c.in_ok-inners.ensures.blank;
      inners = made;
      count = omega (arith, c.self.invariant.counted, c.self.invariant.most, c.if-self.false);
    })
