use Rattle.std.proofs.Common.{not, filter, sym, ◌∙◌, ap, subst, refl}
use Rattle.std.specs.Prelude.{slice_set}
use Rattle.st_text.specs.Texts.{same}
use Rattle.st_dir.specs.Changes.{with_user}
use Rattle.st_dir.specs.Order.{user_key}
use Rattle.st_grant.specs.Permissions.{same_permission}
use Rattle.st_dir.specs.declared.user.User.{User}
use Rattle.st_sorted.specs.Sorted.{Rises}
use Rattle.st_dir.proofs.Setting.{set_there, set_rises}
use Rattle.st_sorted.proofs.Sorted.{none_changed}
use Rattle.st_dir.proofs.users.Users.revoke.Goals as goal

pub invariant_of-self : goal.invariant_of-self
invariant_of-self g c =
    let f = λ (user : User g.row.A.Denot). record user { permissions = filter (λ held. not (same_permission c.args.permission held)) user.permissions } in
    subst (Rises user_key) (sym (ap (λ held. slice_set c.self.inside.users.items c.in-Some.place (record c.index_mut.result.now { permissions = held })) c.remove.ensures))
    (set_rises user_key (λ user. same user.name c.args.name.now) f c.self.inside.users.items _ c.in-Some.place c.index_mut.result.now
    c.deref.ensures.value c.in-Some.ensures.alone c.in-Some.ensures.some c.in-Some.ensures.found c.index_mut.ensures.value (λ user. refl) c.self.invariant)

pub returns-in-Some : goal.returns-in-Some
returns-in-Some g c =
    let f = λ (user : User g.row.A.Denot). record user { permissions = filter (λ held. not (same_permission c.args.permission held)) user.permissions } in
    ap (λ held. slice_set c.self.inside.users.items c.in-Some.place (record c.index_mut.result.now { permissions = held })) c.remove.ensures
    ∙ set_there user_key (λ user. same user.name c.args.name.now) f c.self.inside.users.items _ c.in-Some.place c.index_mut.result.now
    c.deref.ensures.value c.in-Some.ensures.alone c.in-Some.ensures.some c.in-Some.ensures.found c.index_mut.ensures.value
    ∙ ap (with_user c.args.name.now f) c.self.view_is

pub returns-in-None : goal.returns-in-None
returns-in-None g c =
    let value = c.deref.ensures.value in
    let f = λ (user : User g.row.A.Denot). record user { permissions = filter (λ held. not (same_permission c.args.permission held)) user.permissions } in
    sym (none_changed user_key (λ user. same user.name c.args.name.now) f c.args.self.now (rw c.self.view_is at (rw value at c.in-None.ensures.none)))
