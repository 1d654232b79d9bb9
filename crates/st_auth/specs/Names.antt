-- Authorizations: names, and sets of them as lists, in which repeats have no effect.
use Rattle.std.specs.Prelude.{◌≡◌, ℕ, List, length, Bool, not, ◌&&◌, nat_le, Option, Some}
use Rattle.std.specs.List.{position}
use Rattle.st_text.specs.Texts.{Text}
use Rattle.st_auth.specs.declared.auths.AuthsFault.{AuthsFault}
use Rattle.st_auth.specs.declared.auths.AuthsFault.TheVariants.{BadName, NoMemory}

-- an authorization's name is 1 to 256 bytes
abbrev pub is_auth_name : Text → Bool
is_auth_name name = nat_le 1 (length name) && nat_le (length name) 256

-- the index of the first text that is not a name
abbrev pub first_bad : List Text → Option ℕ
first_bad names = position (λ name. not (is_auth_name name)) names

-- why the texts are refused as a list of names
abbrev pub RefusesNames : List Text → AuthsFault → Type 0
RefusesNames names (BadName index) = first_bad names ≡ Some index
RefusesNames names NoMemory = Unit {0}
