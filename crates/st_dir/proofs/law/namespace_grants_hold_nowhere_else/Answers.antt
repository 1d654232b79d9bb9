use Rattle.std.proofs.Common.{◌||◌, Some, refl, ap, ◌∙◌}
use Rattle.std.specs.List.{list_any}
use Rattle.st_text.specs.Names.{namespace_of}
use Rattle.st_grant.specs.Grants.{with_grant}
use Rattle.st_grant.specs.Grants.{same_grant}
use Rattle.st_grant.specs.declared.grant.Grant.{Grant}
use Rattle.st_grant.specs.declared.grant.Scope.TheVariants.{OnTable, OnNamespace}
use Rattle.st_dir.proofs.Laws.{others_with, other_scope, other_name, by_namespace}
use Rattle.st_dir.proofs.law.namespace_grants_hold_nowhere_else.Goals as goal

pub returns : goal.returns
returns g c d user namespace table asker p q apart =
    let grant : Grant = record { user = user; scope = OnNamespace namespace; permission = p } in
    let here : Grant = record { user = asker; scope = OnTable table; permission = q } in
    let on_table = others_with here grant d.grants (other_scope here grant refl) in
    let on_namespace = by_namespace
    (λ m. list_any (same_grant (record { user = asker; scope = OnNamespace m; permission = q })) (with_grant grant d.grants))
    (λ m. list_any (same_grant (record { user = asker; scope = OnNamespace m; permission = q })) d.grants)
    (namespace_of table)
    (λ m e. others_with (record { user = asker; scope = OnNamespace m; permission = q }) grant d.grants
    (other_scope (record { user = asker; scope = OnNamespace m; permission = q }) grant (other_name m namespace (λ k. apart (e ∙ ap Some k))))) in
    λ i. on_table i || on_namespace i
