-- How the keys of grants compare.
use Rattle.std.proofs.Common.{◌≡◌, refl}
use Rattle.std.specs.Ordering.{ordering_then}
use Rattle.std.specs.declared.cmp.Ordering.{Ordering}
use Rattle.std.specs.declared.cmp.Ordering.TheVariants.{Less, Equal, Greater}

-- by the scope, whose kind comes before its name, then by the user, then by the permission's place
pub key_by_parts : (kind name user place : Ordering)
    → ordering_then (ordering_then (ordering_then kind (ordering_then name Equal)) user) place
    ≡ ordering_then kind (ordering_then name (ordering_then user (ordering_then (ordering_then place Equal) Equal)))
key_by_parts Less name user place = refl
key_by_parts Greater name user place = refl
key_by_parts Equal Less user place = refl
key_by_parts Equal Greater user place = refl
key_by_parts Equal Equal Less place = refl
key_by_parts Equal Equal Greater place = refl
key_by_parts Equal Equal Equal Less = refl
key_by_parts Equal Equal Equal Equal = refl
key_by_parts Equal Equal Equal Greater = refl
