-- What a server whose store is in memory does and tells, by the status that it gives.
use Rattle.std.specs.Prelude.{◌≡◌, ⊤, ℕ, Option, None, Result, List, map}
use Rattle.std.specs.declared.alloc.Global.{Global}
use Rattle.st_text.specs.Texts.{Text}
use Rattle.st_core.specs.State.{State}
use Rattle.st_command_line.specs.declared.fault.Fault.{Fault}
use Rattle.st_command.specs.Opening.{OpensState}
use Rattle.st_command_line.specs.declared.served_arguments.ServedArguments.{ServedArguments}
use Rattle.st_command_line.specs.Common.{path_in}
use Rattle.st_command_line.specs.ServedArguments.{SaysServed, address_text}
use Rattle.st_command_line.specs.Status.{exit_status_after}
use Rattle.st_server_peer.specs.Meeting.{Call}
use Rattle.st_server_workers.specs.Telling.{Tells}
use Rattle.st_hall.specs.Steps.{Ask}
use Rattle.st_server.specs.Attending.{Attends}

-- nothing is left of a hall in memory
abbrev pub nothing_left : (kept list : List Ask) → Type 0
nothing_left kept list = ⊤

-- The words name no store and open a state. Stations of a hall that begins with it served the connections.
pub record RunsInMemory {P : Type 0} (call : P → Call) (words : List Text) (old new : Option (List ℕ)) (status : ℕ) : Type 0 where
  pub said : ServedArguments
  pub says : SaysServed words said
  pub unnamed : path_in said.store ≡ None
  pub state : State Global
  pub opens : OpensState said.digest.now (map (λ name. name.now) said.names.items) state
  pub ended : Result Unit Fault
  pub attends : Attends call state nothing_left 0 said.connections ended
  pub tells : Tells (address_text said.bind_address) said.connections old new ended
  pub status_is : status ≡ exit_status_after ended
