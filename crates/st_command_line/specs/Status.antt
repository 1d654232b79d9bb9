-- The exit status of a program.
use Rattle.std.specs.Prelude.{ℕ, Result, Ok, Err}
use Rattle.st_command_line.specs.declared.fault.Fault.{Fault}
use Rattle.st_command_line.specs.declared.fault.Fault.TheVariants.{Cut}
use Rattle.st_command_line.specs.declared.fault.Fault.TheVariants.{TurnsSpent, Io, Bind, Accept, Write, NoMemory, NoPlace, NoThread}
use Rattle.st_command_line.specs.declared.fault.Fault.TheVariants.{OtherStore, OtherNames, StoreInUse, LaterStore, NoStore, StoreDamaged}
use Rattle.st_command_line.specs.declared.fault.Fault.TheVariants.{StoreInterrupted, StoreIo, StoreLost}

-- 2 if the words are refused
abbrev pub exit_status_of : Fault → ℕ
exit_status_of Cut = 3
exit_status_of TurnsSpent = 4
exit_status_of Io = 5
exit_status_of Bind = 5
exit_status_of Accept = 5
exit_status_of Write = 5
exit_status_of StoreIo = 5
exit_status_of NoMemory = 6
exit_status_of NoPlace = 6
exit_status_of NoThread = 6
exit_status_of StoreLost = 7
exit_status_of OtherStore = 8
exit_status_of OtherNames = 8
exit_status_of StoreInUse = 9
exit_status_of (LaterStore format) = 10
exit_status_of NoStore = 11
exit_status_of StoreDamaged = 12
exit_status_of StoreInterrupted = 13
exit_status_of _ = 2

-- the exit status after a run
abbrev pub exit_status_after : Result Unit Fault → ℕ
exit_status_after (Ok done) = 0
exit_status_after (Err fault) = exit_status_of fault
