-- The key by which grants are sorted: by what they are on, tables before namespaces, then by their users, then by their
-- permissions in listing order.
use Rattle.std.specs.Prelude.{List, [], ◌∷◌}
use Rattle.st_text.specs.Texts.{Text}
use Rattle.st_grant.specs.Permissions.{place_of}
use Rattle.st_grant.specs.declared.grant.Grant.{Grant}
use Rattle.st_grant.specs.declared.grant.Scope.{Scope}
use Rattle.st_grant.specs.declared.grant.Scope.TheVariants.{OnTable, OnNamespace}

abbrev pub scope_kind : Scope → Text
scope_kind (OnTable t) = 0 ∷ []
scope_kind (OnNamespace n) = 1 ∷ []

abbrev pub scope_name : Scope → Text
scope_name (OnTable t) = t
scope_name (OnNamespace n) = n

abbrev pub grant_key : Grant → List Text
grant_key g = scope_kind g.scope ∷ scope_name g.scope ∷ g.user ∷ (place_of g.permission ∷ []) ∷ []
