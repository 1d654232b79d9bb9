use Rattle.std.proofs.Common.{rules, not, sym, ◌∙◌, ap, subst, filter}
use Rattle.std.proofs.lemmas.Fn.{filter_same}
use Rattle.st_text.specs.Texts.{same}
use Rattle.st_grant.specs.Order.{grant_key}
use Rattle.st_sorted.specs.Sorted.{Rises}
use Rattle.st_grant.specs.declared.grant.Grant.{Grant}
use Rattle.st_sorted.proofs.Sorted.{rises_filter}
use Rattle.st_grant.proofs.grants.Grants.remove_user.Goals as goal

pub invariant_of-self : goal.invariant_of-self
invariant_of-self g c =
    let test = (λ (grant : Grant). not (same grant.user c.args.name.now)) in
    let left = filter_same _ test _ (λ x b f' k. search rules) c.self.inside.grants.items c.retain.new.self.items c.retain.ensures.filtered in
    subst (Rises grant_key) (sym left) (rises_filter grant_key test c.self.inside.grants.items c.self.invariant)

pub returns : goal.returns
returns g c =
    let test = (λ (grant : Grant). not (same grant.user c.args.name.now)) in
    filter_same _ test _ (λ x b f' k. search rules) c.self.inside.grants.items c.retain.new.self.items c.retain.ensures.filtered ∙ ap (filter test) c.self.view_is
