use Rattle.std.proofs.Common.{◌≤◌, length, map, ap, sym, ◌∙◌, subst, rules}
use Rattle.st_auth.specs.inner.Fronts.{front, spelt}
use Rattle.st_auth.proofs.Fronts.{past_the_end}
use Rattle.st_auth.proofs.order.Fronts.front.Goals as goal

pub returns-in-None-clause-number : goal.returns-in-None-clause-number
unfolding spelt
returns-in-None-clause-number g c =
    let items = c.deref.ensures.value ∙ c.self.invariant.0 ∙ ap (map front) c.self.view_is in
    let past : length c.deref.result.now ≤ c.args.place = search rules in
    ap front (sym (past_the_end c.args.self.now c.args.place (subst (λ it. length it ≤ c.args.place) items past)))
