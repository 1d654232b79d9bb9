use Rattle.std.proofs.Common.{◌≡◌, take}
use Rattle.std.specs.List.{list_any}
use Rattle.st_text.specs.Texts.{Text, same, is_among}
use Rattle.st_auth.specs.inner.Order.{name_at}
use Rattle.st_sorted.specs.Sorted.{Rises, name_key}
use Rattle.st_dir.proofs.auth_names.each_once.Given as goal

-- the names that have come are there, by their bytes and each once
abbrev pub invariant-loop-place : goal.invariant-loop-place
invariant-loop-place g l =
    Rises name_key l.names.items × ((name : Text) → is_among l.names.items name ≡ list_any (λ place. same name (name_at l.auths place)) (take l.place-index l.order))
