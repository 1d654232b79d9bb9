use Rattle.std.proofs.Common.{◌≡◌, List, map, IfOk, ap, subst, ◌∙◌}
use Rattle.st_text.specs.Texts.{Text}
use Rattle.st_dir.specs.Listings.{granted_on, held_on}
use Rattle.st_dir.proofs.directory.Directory.grants_on.Goals as goal

pub returns : goal.returns
returns g c =
    let is = c.as_slice.ensures ∙ c.in_ok-names.ensures ∙ ap (λ d. granted_on d c.args.scope.now) c.self.view_is in
    subst (λ (names : List Text). IfOk c.grantees.result
    (λ given. given ≡ map (λ user. record { user = user; permissions = held_on c.args.self.now c.args.scope.now user }) names)) is
    c.grantees.ensures
