use Rattle.std.proofs.Common.{Some, option_map, ap, sym, ◌∙◌}
use Rattle.st_text.specs.Texts.{set_of}
use Rattle.st_dir.specs.Directory.{user_named}
use Rattle.st_grant.specs.Permissions.{listed}
use Rattle.st_dir.specs.declared.user.User.{User}
use Rattle.st_dir.proofs.directory.Directory.who.Goals as goal

pub returns-in_ok-account-in-Some : goal.returns-in_ok-account-in-Some
returns-in_ok-account-in-Some g c =
    let is = ap (option_map (λ user. user.now)) (sym c.in-Some.is) ∙ c.get.ensures ∙ ap (λ d. user_named d c.args.name.now) c.self.view_is in
    ap Some c.in_ok-account-in-Some.ensures
    ∙ ap (option_map (λ (user : User g.row.A.Denot). record { user = user.name; auths = set_of user.auths; permissions = listed user.permissions })) is
