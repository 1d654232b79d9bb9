-- Command lines of the first program, worked out.
use Rattle.std.specs.Prelude.{Some, None}
use Rattle.std.proofs.Common.{[], ◌∷◌, codes, ◌≡◌, refl, true, false}
use Rattle.clap.specs.Words.{fault_of, first_of, matches_of}
use Rattle.clap.specs.declared.error.kind.ErrorKind.TheVariants.{ArgumentConflict, DisplayHelp, DisplayVersion, InvalidValue, MissingRequiredArgument, UnknownArgument}
use Rattle.clap.proofs.OnLiterals.{clap_on_literals}
use Rattle.st_command_line.specs.Common.{SaysRoot, has_flag}
use Rattle.st_command_line.specs.RunArguments.{run_command}

two_names : SaysRoot run_command (codes "st_run" ∷ codes "--root" ∷ codes "66" ∷ codes "A" ∷ codes "B" ∷ []) (codes "66") (codes "A" ∷ codes "B" ∷ [])
unfolding clap_on_literals
two_names = record { whole = refl; digits_are = refl; names_are = refl }

names_first : SaysRoot run_command (codes "st_run" ∷ codes "A" ∷ codes "--root=66" ∷ []) (codes "66") (codes "A" ∷ [])
unfolding clap_on_literals
names_first = record { whole = refl; digits_are = refl; names_are = refl }

no_names : SaysRoot run_command (codes "st_run" ∷ codes "--root" ∷ codes "66" ∷ []) (codes "66") []
unfolding clap_on_literals
no_names = record { whole = refl; digits_are = refl; names_are = refl }

with_store : SaysRoot run_command (codes "st_run" ∷ codes "--root" ∷ codes "66" ∷ codes "--store" ∷ codes "points.db" ∷ codes "A" ∷ []) (codes "66") (codes "A" ∷ [])
unfolding clap_on_literals
with_store = record { whole = refl; digits_are = refl; names_are = refl }

the_store : first_of (codes "store") (matches_of run_command (codes "st_run" ∷ codes "--root=66" ∷ codes "--store=points.db" ∷ [])) ≡ Some (codes "points.db")
unfolding clap_on_literals
the_store = refl

no_store : first_of (codes "store") (matches_of run_command (codes "st_run" ∷ codes "--root=66" ∷ codes "store" ∷ [])) ≡ None
unfolding clap_on_literals
no_store = refl

made_short : has_flag (codes "compact") run_command (codes "st_run" ∷ codes "--root=66" ∷ codes "--store=a" ∷ codes "--compact" ∷ []) ≡ true
unfolding clap_on_literals
made_short = refl

left_long : has_flag (codes "compact") run_command (codes "st_run" ∷ codes "--root=66" ∷ codes "compact" ∷ []) ≡ false
unfolding clap_on_literals
left_long = refl

two_stores : fault_of run_command (codes "st_run" ∷ codes "--root=66" ∷ codes "--store=a" ∷ codes "--store=b" ∷ []) ≡ ArgumentConflict ∷ []
unfolding clap_on_literals
two_stores = refl

no_digest : fault_of run_command (codes "st_run" ∷ codes "A" ∷ []) ≡ MissingRequiredArgument ∷ []
unfolding clap_on_literals
no_digest = refl

two_digests : fault_of run_command (codes "st_run" ∷ codes "--root" ∷ codes "66" ∷ codes "--root" ∷ codes "66" ∷ []) ≡ ArgumentConflict ∷ []
unfolding clap_on_literals
two_digests = refl

unknown_option : fault_of run_command (codes "st_run" ∷ codes "--root" ∷ codes "66" ∷ codes "--user" ∷ codes "A" ∷ []) ≡ UnknownArgument ∷ []
unfolding clap_on_literals
unknown_option = refl

help : fault_of run_command (codes "st_run" ∷ codes "--help" ∷ []) ≡ DisplayHelp ∷ []
unfolding clap_on_literals
help = refl

version : fault_of run_command (codes "st_run" ∷ codes "--version" ∷ []) ≡ DisplayVersion ∷ []
unfolding clap_on_literals
version = refl

no_value : fault_of run_command (codes "st_run" ∷ codes "--root" ∷ []) ≡ InvalidValue ∷ []
unfolding clap_on_literals
no_value = refl
