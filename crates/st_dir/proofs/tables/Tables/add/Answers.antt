use Rattle.std.proofs.Common.{◌∷◌, not, sym, ◌∙◌, ap, subst, filter}
use Rattle.st_text.specs.Texts.{same, in_order}
use Rattle.st_text.proofs.Same.{same-refl}
use Rattle.st_dir.specs.Order.{table_key}
use Rattle.st_sorted.specs.Sorted.{Rises}
use Rattle.st_sorted.specs.inner.Places.{NoneOf}
use Rattle.st_dir.proofs.Keys.{own_name}
use Rattle.st_sorted.proofs.Sorted.{none_from_find, rises_in, put_in, back}
use Rattle.st_dir.proofs.tables.Tables.add.Goals as goal

pub invariant_of-self : goal.invariant_of-self
invariant_of-self g c = subst (Rises table_key) (sym c.in_default.ensures.items) c.self.invariant

pub invariant_of-self-2 : goal.invariant_of-self-2
invariant_of-self-2 g c =
    let value = c.deref.ensures.value in
    let none : NoneOf (λ other. same other.table c.args.info.table) c.self.inside.tables.items =
    none_from_find table_key (λ other. same other.table c.args.info.table) c.self.inside.tables.items (rw (sym c.self.view_is) at c.requires) in
    subst (Rises table_key) (sym c.in-Ok.ensures.items)
    (rises_in table_key c.args.info (λ other. same other.table c.args.info.table) (λ other e. own_name other.table c.args.info.table e)
    c.self.inside.tables.items c.place_of-place.result c.self.invariant
    (rw c.as_str.ensures.value at (rw value at c.place_of-place.ensures.place)) none)

pub returns-clause-ok : goal.returns-clause-ok
returns-clause-ok g c =
    let value = c.deref.ensures.value in
    c.in-Ok.ensures.items
    ∙ put_in table_key c.args.info c.self.inside.tables.items c.place_of-place.result c.self.invariant (rw c.as_str.ensures.value at (rw value at c.place_of-place.ensures.place))
    ∙ ap (λ others. in_order table_key (c.args.info ∷ others)) c.self.view_is

pub returns-clause-back : goal.returns-clause-back
returns-clause-back g c =
    let items = c.self.inside.tables.items in
    let none : NoneOf (λ other. same other.table c.args.info.table) items = none_from_find table_key (λ other. same other.table c.args.info.table) items (rw (sym c.self.view_is) at c.requires) in
    ap (filter (λ other. not (same other.table c.args.info.table))) c.in-Ok.ensures.items
    ∙ back table_key (λ other. same other.table c.args.info.table) c.args.info items c.place_of-place.result none (same-refl c.args.info.table)
    ∙ c.self.view_is
