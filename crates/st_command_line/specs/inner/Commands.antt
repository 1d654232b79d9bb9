-- A stage of the code: the commands that it builds, the words that they parse, and what it makes of the errors of a parser.
use Rattle.std.specs.Prelude.{◌≡◌, ◌==◌, ◌&&◌, Bool, IsSome, List, [], Option, codes, false, length, not, true}
use Rattle.std.specs.Option.{option_map_or}
use Rattle.std.specs.Str.{bytes_eq}
use Rattle.clap.specs.Built.{IsParsedFrom}
use Rattle.clap.specs.Words.{App, app_of, fault_of, first_value, found_of, is_simple_and_free, matches_of, rows_of}
use Rattle.clap.specs.declared.builder.command.Command.{Command}
use Rattle.clap.specs.declared.error.Error.{Error}
use Rattle.clap.specs.declared.error.kind.ErrorKind.{ErrorKind}
use Rattle.clap.specs.declared.error.kind.ErrorKind.TheVariants.{OutOfMemory}
use Rattle.clap.specs.declared.parser.matches.ArgMatches.{ArgMatches}
use Rattle.st_text.specs.Texts.{Text}
use Rattle.st_command_line.specs.declared.fault.Fault.{Fault}
use Rattle.st_command_line.specs.declared.fault.Fault.TheVariants.{NoMemory, Usage}

-- the command is this one, and whatever it parses has a digest
pub record Builds (app : App) (command : Command) : Type 0 where
  pub is : app_of command ≡ app
  pub free : is_simple_and_free app ≡ true
  pub root : (matches : ArgMatches) → IsParsedFrom command matches → IsSome (first_value (found_of matches) (codes "root"))

-- no id that a command has of itself
abbrev pub is_own : Text → Bool
is_own id = not (length id == 0) && (not (bytes_eq id (codes "help")) && not (bytes_eq id (codes "version")))

-- the words are such a command line, and these are their matches
pub record IsParsed (app : App) (words : List Text) (matches : ArgMatches) : Type 0 where
  pub whole : fault_of app words ≡ []
  pub rows_are : rows_of (found_of matches) ≡ matches_of app words

-- whether the value of a flag says that it is given
abbrev pub says_true : Option Text → Bool
says_true value = option_map_or (λ text. bytes_eq text (codes "true")) value false

-- the fault that an error of this kind is
abbrev pub as_fault : ErrorKind → Error → Fault
as_fault OutOfMemory error = NoMemory
as_fault _ error = Usage error
