-- Command lines of the server, worked out.
use Rattle.std.specs.Prelude.{Some}
use Rattle.std.proofs.Common.{[], ◌∷◌, codes, ◌≡◌, refl}
use Rattle.clap.specs.Words.{fault_of, first_of, matches_of}
use Rattle.clap.specs.declared.error.kind.ErrorKind.TheVariants.{DisplayVersion, MissingRequiredArgument, ValueValidation}
use Rattle.clap.proofs.OnLiterals.{clap_on_literals}
use Rattle.st_command_line.specs.ServedArguments.{served_command, value_of}

whole : fault_of served_command (codes "st_served" ∷ codes "--root" ∷ codes "66" ∷ codes "--port" ∷ codes "47001" ∷ codes "--connections" ∷ codes "0" ∷ codes "A" ∷ []) ≡ []
unfolding clap_on_literals
whole = refl

unlimited : fault_of served_command (codes "st_served" ∷ codes "--port=47001" ∷ codes "--root=66" ∷ codes "--timeout=3600" ∷ []) ≡ []
unfolding clap_on_literals
unlimited = refl

no_root : fault_of served_command (codes "st_served" ∷ codes "--port" ∷ codes "1" ∷ []) ≡ MissingRequiredArgument ∷ []
unfolding clap_on_literals
no_root = refl

at_a_socket : fault_of served_command (codes "st_served" ∷ codes "--root=66" ∷ codes "--socket" ∷ codes "a" ∷ []) ≡ []
unfolding clap_on_literals
at_a_socket = refl

the_socket : first_of (codes "socket") (matches_of served_command (codes "st_served" ∷ codes "--root=66" ∷ codes "--socket" ∷ codes "a" ∷ [])) ≡ Some (codes "a")
unfolding clap_on_literals
the_socket = refl

port_zero : fault_of served_command (codes "st_served" ∷ codes "--root" ∷ codes "66" ∷ codes "--port" ∷ codes "0" ∷ []) ≡ ValueValidation ∷ []
unfolding clap_on_literals
port_zero = refl

too_many_connections : fault_of served_command (codes "st_served" ∷ codes "--root" ∷ codes "66" ∷ codes "--port" ∷ codes "1" ∷ codes "--connections" ∷ codes "1001" ∷ []) ≡ ValueValidation ∷ []
unfolding clap_on_literals
too_many_connections = refl

too_long : fault_of served_command (codes "st_served" ∷ codes "--root" ∷ codes "66" ∷ codes "--port" ∷ codes "1" ∷ codes "--timeout" ∷ codes "3601" ∷ []) ≡ ValueValidation ∷ []
unfolding clap_on_literals
too_long = refl

workers : fault_of served_command (codes "st_served" ∷ codes "--port=47001" ∷ codes "--root=66" ∷ codes "--workers=256" ∷ []) ≡ []
unfolding clap_on_literals
workers = refl

no_worker : fault_of served_command (codes "st_served" ∷ codes "--port=47001" ∷ codes "--root=66" ∷ codes "--workers=0" ∷ []) ≡ ValueValidation ∷ []
unfolding clap_on_literals
no_worker = refl

every_option : fault_of served_command
    (codes "st_served" ∷ codes "--root=66" ∷ codes "--port=47001" ∷ codes "--workers" ∷ codes "256" ∷ codes "--idle" ∷ codes "3600" ∷ codes "--listen"
    ∷ codes "10.0.0.7" ∷ codes "A" ∷ []) ≡ []
unfolding clap_on_literals
every_option = refl

the_listener : value_of (codes "listen") (codes "st_served" ∷ codes "--root=66" ∷ codes "--port=47001" ∷ codes "--listen" ∷ codes "10.0.0.7" ∷ []) ≡ Some (codes "10.0.0.7")
unfolding clap_on_literals
the_listener = refl

with_store : fault_of served_command (codes "st_served" ∷ codes "--root=66" ∷ codes "--store" ∷ codes "points.db" ∷ codes "--port=1" ∷ codes "A" ∷ []) ≡ []
unfolding clap_on_literals
with_store = refl

the_store : first_of (codes "store") (matches_of served_command (codes "st_served" ∷ codes "--root=66" ∷ codes "--port=1" ∷ codes "--store=points.db" ∷ [])) ≡ Some (codes "points.db")
unfolding clap_on_literals
the_store = refl

with_copy : fault_of served_command
    (codes "st_served" ∷ codes "--root=66" ∷ codes "--port=1" ∷ codes "--store=a" ∷ codes "--compact" ∷ codes "--copy=b" ∷ codes "--copy-every"
    ∷ codes "3600" ∷ []) ≡ []
unfolding clap_on_literals
with_copy = refl

the_copy : first_of (codes "copy") (matches_of served_command (codes "st_served" ∷ codes "--root=66" ∷ codes "--port=1" ∷ codes "--store=a" ∷ codes "--copy" ∷ codes "b" ∷ [])) ≡ Some (codes "b")
unfolding clap_on_literals
the_copy = refl

copy_at_once : fault_of served_command (codes "st_served" ∷ codes "--root=66" ∷ codes "--port=1" ∷ codes "--copy-every=0" ∷ []) ≡ ValueValidation ∷ []
unfolding clap_on_literals
copy_at_once = refl

no_idle_time : fault_of served_command (codes "st_served" ∷ codes "--root" ∷ codes "66" ∷ codes "--port" ∷ codes "1" ∷ codes "--idle" ∷ codes "0" ∷ []) ≡ ValueValidation ∷ []
unfolding clap_on_literals
no_idle_time = refl

version : fault_of served_command (codes "st_served" ∷ codes "--version" ∷ []) ≡ DisplayVersion ∷ []
unfolding clap_on_literals
version = refl
