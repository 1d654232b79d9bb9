use Rattle.std.proofs.Common.{◌∷◌, sym, ◌∙◌, ap, subst}
use Rattle.st_text.specs.Texts.{same, in_order}
use Rattle.st_dir.specs.Order.{user_key}
use Rattle.st_sorted.specs.Sorted.{Rises}
use Rattle.st_sorted.specs.inner.Places.{NoneOf}
use Rattle.st_dir.proofs.Keys.{own_name}
use Rattle.st_sorted.proofs.Sorted.{none_from_find, rises_in, put_in}
use Rattle.st_dir.proofs.users.Users.add.Goals as goal

pub invariant_of-self : goal.invariant_of-self
invariant_of-self g c = subst (Rises user_key) (sym c.in_default.ensures.items) c.self.invariant

pub invariant_of-self-2 : goal.invariant_of-self-2
invariant_of-self-2 g c =
    let value = c.deref.ensures.value in
    let none : NoneOf (λ other. same other.name c.args.user.name) c.self.inside.users.items =
    none_from_find user_key (λ other. same other.name c.args.user.name) c.self.inside.users.items (rw (sym c.self.view_is) at c.requires) in
    subst (Rises user_key) (sym c.in-Ok.ensures.items)
    (rises_in user_key c.args.user (λ other. same other.name c.args.user.name) (λ other e. own_name other.name c.args.user.name e)
    c.self.inside.users.items c.place_of-place.result c.self.invariant (rw c.as_str.ensures.value at (rw value at c.place_of-place.ensures.place))
    none)

pub returns-clause-ok : goal.returns-clause-ok
returns-clause-ok g c =
    let value = c.deref.ensures.value in
    c.in-Ok.ensures.items
    ∙ put_in user_key c.args.user c.self.inside.users.items c.place_of-place.result c.self.invariant (rw c.as_str.ensures.value at (rw value at c.place_of-place.ensures.place))
    ∙ ap (λ others. in_order user_key (c.args.user ∷ others)) c.self.view_is
