-- Whether a listing of grants shows a user with a permission. `law::what_is_granted_is_listed` states where it does.
use Rattle.std.specs.Prelude.{Bool, ◌&&◌, List}
use Rattle.std.specs.List.{list_any}
use Rattle.st_text.specs.Texts.{Text, same}
use Rattle.st_grant.specs.Permissions.{same_permission}
use Rattle.st_grant.specs.declared.permission.Permission.{Permission}
use Rattle.st_dir.specs.declared.grantee.Grantee.{Grantee}

abbrev pub lists : {A : Type 0} → Text → Permission → List (Grantee A) → Bool
lists user p given = list_any (λ g. same user g.user && list_any (same_permission p) g.permissions) given
