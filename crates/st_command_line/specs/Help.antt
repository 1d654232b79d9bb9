-- Whether the words of a command line ask for the help or the version of a program.
use Rattle.std.specs.Prelude.{Bool, true, false}
use Rattle.clap.specs.Words.{kind_of}
use Rattle.clap.specs.declared.error.kind.ErrorKind.{ErrorKind}
use Rattle.clap.specs.declared.error.kind.ErrorKind.TheVariants.{DisplayHelp, DisplayVersion}
use Rattle.st_command_line.specs.declared.fault.Fault.{Fault}
use Rattle.st_command_line.specs.declared.fault.Fault.TheVariants.{Usage}

-- what a parser gives in place of arguments: the help or the version
abbrev pub is_help : ErrorKind → Bool
is_help DisplayHelp = true
is_help DisplayVersion = true
is_help _ = false

-- whether the words ask for it, by why they were refused
abbrev pub asks_for_help : Fault → Bool
asks_for_help (Usage error) = is_help (kind_of error)
asks_for_help _ = false
