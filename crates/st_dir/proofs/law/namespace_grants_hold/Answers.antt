use Rattle.std.proofs.Common.{false, ap, ◌∙◌}
use Rattle.std.specs.List.{list_any}
use Rattle.std.specs.Option.{option_map_or}
use Rattle.st_text.specs.Names.{namespace_of}
use Rattle.st_grant.specs.Grants.{with_grant}
use Rattle.st_grant.specs.Grants.{same_grant}
use Rattle.st_grant.specs.declared.grant.Grant.{Grant}
use Rattle.st_grant.specs.declared.grant.Scope.TheVariants.{OnTable, OnNamespace}
use Rattle.st_dir.proofs.Laws.{held_with, or_true}
use Rattle.st_dir.proofs.law.namespace_grants_hold.Goals as goal

pub returns : goal.returns
returns g c d user namespace table p e =
    let grant : Grant = record { user = user; scope = OnNamespace namespace; permission = p } in
    let grants = with_grant grant d.grants in
    or_true (list_any (same_grant (record { user = user; scope = OnTable table; permission = p })) grants)
    (option_map_or (λ n. list_any (same_grant (record { user = user; scope = OnNamespace n; permission = p })) grants) (namespace_of table) false)
    (ap (λ found. option_map_or (λ n. list_any (same_grant (record { user = user; scope = OnNamespace n; permission = p })) grants) found false) e ∙ held_with grant d.grants)
