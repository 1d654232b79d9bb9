use Rattle.std.proofs.Common.{◌≡◌, List, map, IfOk, ap, sym, subst, ◌∙◌}
use Rattle.st_text.specs.Texts.{in_order}
use Rattle.st_dir.specs.Order.{user_key}
use Rattle.st_dir.specs.declared.user.User.{User}
use Rattle.st_sorted.proofs.Sorted.{in_order_already}
use Rattle.st_dir.proofs.users.Users.names.Goals as goal

pub returns : goal.returns
returns g c =
    let is = c.deref.ensures.value ∙ sym (in_order_already user_key c.self.inside.users.items c.self.invariant) ∙ ap (in_order user_key) c.self.view_is in
    subst (λ (users : List (User g.row.A.Denot)). IfOk c.names_of.result (λ names. names ≡ map (λ user. user.name) users)) is c.names_of.ensures
