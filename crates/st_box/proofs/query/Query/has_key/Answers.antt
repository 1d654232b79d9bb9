use Rattle.std.proofs.Common.{◌≡◌, true, subst, sym, ◌∙◌, rules}
use Rattle.st_box.specs.Query.{is_inside}
use Rattle.st_box.proofs.query.Query.has_key.Goals as goal

pub returns-in-Some : goal.returns-in-Some
returns-in-Some c = (
  λ held. record { point = c.in-Some.point; inside = sym c.has.ensures ∙ held; key = c.in-Some.ensures.some },
  λ there. c.has.ensures ∙ subst (λ p. is_inside c.args.self.now p ≡ true) (c.in-Some.ensures.only there.point there.key) there.inside,
)

pub returns-in-None : goal.returns-in-None
returns-in-None c = (λ held. absurd (search rules), λ there. absurd (c.in-None.ensures.none there.point there.key))
