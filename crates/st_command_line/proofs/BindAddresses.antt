-- Where the words of a server say that it listens, by the texts of a port and of a socket.
use Rattle.std.specs.Prelude.{Option, Some, None, is_some}
use Rattle.std.specs.Borrow.{Bor}
use Rattle.std.proofs.Common.{◌≡◌, ℕ, ap, refl, sym, subst}
use Rattle.st_text.specs.Texts.{Text}
use Rattle.st_command_line.specs.declared.served_arguments.BindAddress.TheVariants.{Port, Socket}
use Rattle.st_command_line.specs.ServedArguments.{Gives, GivesBindAddress, Writes}

pub both_named : (port socket : Option Text) (number : ℕ) (path : Text) → Gives Writes port (Some number) → socket ≡ Some path → is_some port ≡ is_some socket
both_named None socket number path gives is = absurd gives
both_named (Some text) socket number path gives is = ap is_some (sym is)

pub none_named : (port socket : Option Text) → Gives Writes port None → socket ≡ None → is_some port ≡ is_some socket
none_named None socket gives is = ap is_some (sym is)
none_named (Some text) socket gives is = absurd gives

pub port_given : (port socket : Option Text) (number : ℕ) → Gives Writes port (Some number) → socket ≡ None → GivesBindAddress port socket (Port number)
port_given None socket number gives is = absurd gives
port_given (Some text) socket number gives is = subst (λ s. GivesBindAddress (Some text) s (Port number)) (sym is) gives

pub socket_given : (port socket : Option Text) (name : Bor Text) → Gives Writes port None → socket ≡ Some name.now → GivesBindAddress port socket (Socket name)
socket_given None socket name gives is = subst (λ s. GivesBindAddress None s (Socket name)) (sym is) refl
socket_given (Some text) socket name gives is = absurd gives
