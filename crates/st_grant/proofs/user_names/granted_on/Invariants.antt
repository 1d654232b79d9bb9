use Rattle.std.proofs.Common.{◌≡◌, take, ◌&&◌}
use Rattle.std.specs.List.{list_any}
use Rattle.st_text.specs.Texts.{Text, same, is_among}
use Rattle.st_grant.specs.Grants.{same_scope}
use Rattle.st_sorted.specs.Sorted.{Rises, name_key}
use Rattle.st_grant.proofs.user_names.granted_on.Given as goal

-- the users of the grants that have come are there, by their bytes and each once
abbrev pub invariant-loop-grant : goal.invariant-loop-grant
invariant-loop-grant g l =
    Rises name_key l.names.items × ((name : Text) → is_among l.names.items name ≡ list_any (λ h. same_scope l.scope h.scope && same name h.user) (take l.grant-index l.grants))
