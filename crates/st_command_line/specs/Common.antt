-- What both command lines have, `--root DIGEST`, `--store FILE`, `--compact` and `[NAME]...`: what the words say by it, and why they
-- are refused.
use Rattle.std.specs.Prelude.{◌≡◌, ◌⊎◌, ℕ, ℤ, Bool, List, [], Option, Some, None, Ok, IsErr, IsSome, codes, true, false}
use Rattle.std.specs.Prelude.{option_map, unwrap_or}
use Rattle.std.specs.Option.{option_map_or}
use Rattle.std.specs.Borrow.{Bor}
use Rattle.std.specs.Str.{bytes_eq}
use Rattle.hex.specs.Hex.{decode_sized}
use Rattle.clap.specs.Words.{App, Rule, IsAmong, all_of, fault_of, first_of, kind_of, matches_of, new_rule}
use Rattle.clap.specs.declared.builder.action.ArgAction.TheVariants.{Append, Set, SetTrue}
use Rattle.clap.specs.declared.builder.value_parser.ValueParser.TheVariants.{Signed}
use Rattle.st_text.specs.Texts.{Text}
use Rattle.st_auth.specs.Names.{first_bad}
use Rattle.st_command_line.specs.declared.fault.Fault.{Fault}
use Rattle.st_command_line.specs.declared.fault.Fault.TheVariants.{Usage, WantsStore, BadDigest, BadName, NoMemory}

-- a command that tells a version when it is asked for one
abbrev pub with_version : App → App
with_version app = record app { top = record app.top { has_version = true } }

-- an option with this name that takes one value, and may be there once
abbrev pub option_rule : Text → Rule
option_rule name = record (new_rule name) { long = Some name; value_names = 1; action = Some Set }

-- one whose value is a number from the least to the most
abbrev pub number_rule : Text → ℤ → ℤ → Rule
number_rule name least most = record (option_rule name) { parser = Some (Signed least most) }

-- the option `--root DIGEST`, which must be there, once
abbrev pub root_option : Rule
root_option = record (option_rule (codes "root")) { required = true }

-- the flag `--compact`
abbrev pub compact_flag : Rule
compact_flag = record (new_rule (codes "compact")) { long = Some (codes "compact"); action = Some SetTrue }

-- the names, any number of them
abbrev pub name_operand : Rule
name_operand = record (new_rule (codes "NAME")) { action = Some Append }

-- the words are such a command line, with this digest and these names
pub record SaysRoot (app : App) (words : List Text) (digits : Text) (names : List Text) : Type 0 where
  pub whole : fault_of app words ≡ []
  pub digits_are : first_of (codes "root") (matches_of app words) ≡ Some digits
  pub names_are : unwrap_or (all_of (codes "NAME") (matches_of app words)) [] ≡ names

-- whether the words give this flag
abbrev pub has_flag : Text → App → List Text → Bool
has_flag id app words = option_map_or (λ text. bytes_eq text (codes "true")) (first_of id (matches_of app words)) false

-- the file that the words name by this option
abbrev pub file_of : Text → App → List Text → Option Text
file_of id app words = first_of id (matches_of app words)

-- the path that an argument holds, where the words name one
abbrev pub path_in : Option (Bor Text) → Option Text
path_in given = option_map (λ path. path.now) given

-- the words give `--compact`, or `--copy`, which only one of the programs takes
abbrev pub WantsAStore : App → List Text → Type 0
WantsAStore app words = (has_flag (codes "compact") app words ≡ true) ⊎ IsSome (file_of (codes "copy") app words)

-- words that want a store name one
abbrev pub NamesItsStore : App → List Text → Type 0
NamesItsStore app words = WantsAStore app words → IsSome (file_of (codes "store") app words)

-- Why the words are refused: by the parser, for a store that they want and do not name, for a digest that is not 64 hexadecimal digits, or
-- else for a name that is not an authorization. Nothing is said of them if memory runs out.
abbrev pub RefusesWords : App → List Text → Fault → Type 0
RefusesWords app words (Usage error) = IsAmong (kind_of error) (fault_of app words)
RefusesWords app words WantsStore = (fault_of app words ≡ []) × WantsAStore app words × (file_of (codes "store") app words ≡ None)
RefusesWords app words BadDigest = (digits : Text) × (names : List Text) × SaysRoot app words digits names × IsErr (decode_sized digits 32)
RefusesWords app words BadName =
    (digits : Text) × (names : List Text) × SaysRoot app words digits names × (hash : List ℕ) × (decode_sized digits 32 ≡ Ok hash)
    × (at : ℕ) × (first_bad names ≡ Some at)
RefusesWords app words NoMemory = Unit {0}
RefusesWords app words _ = ⊥
