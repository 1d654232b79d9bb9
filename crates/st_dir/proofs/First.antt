-- The grants that a server begins with stand in order.
use Rattle.std.proofs.Common.{◌≡◌, [], refl}
use Rattle.std.specs.Prelude.{codes}
use Rattle.st_grant.specs.Grants.{all_on, with_all}
use Rattle.st_grant.specs.declared.grant.Scope.TheVariants.{OnTable}

pub first_in_order : with_all (codes "root") (OnTable (codes "points")) [] ≡ all_on (codes "root") (OnTable (codes "points"))
first_in_order = refl
