use Rattle.std.proofs.Common.{◌≡◌, map, take}
use Rattle.st_dir.specs.Listings.{held_on}
use Rattle.st_dir.proofs.directory.Directory.grantees.Given as goal

-- those that have come are there
abbrev pub invariant-loop-name : goal.invariant-loop-name
invariant-loop-name g l = l.given ≡ map (λ user. record { user = user; permissions = held_on l.self l.scope user }) (take l.name-index l.names)
