-- The command line `st_run --root DIGEST [--store FILE] [--compact] [NAME]...`, and what its words say.
use Rattle.std.specs.Prelude.{◌≡◌, List, [], ◌∷◌, codes, map}
use Rattle.std.specs.List.{fold}
use Rattle.clap.specs.Words.{App, new_app, with_rule}
use Rattle.st_text.specs.Texts.{Text}
use Rattle.st_command_line.specs.declared.run_arguments.RunArguments.{RunArguments}
use Rattle.st_command_line.specs.Common.{SaysRoot, NamesItsStore, file_of, has_flag, path_in}
use Rattle.st_command_line.specs.Common.{root_option, option_rule, compact_flag, name_operand, with_version}

abbrev pub run_command : App
run_command =
    fold with_rule (with_version (new_app (codes "st_run"))) (root_option ∷ option_rule (codes "store") ∷ compact_flag ∷ name_operand ∷ [])

-- the words are such a command line, and say this
pub record SaysRun (words : List Text) (said : RunArguments) : Type 0 where
  pub root : SaysRoot run_command words said.digest.now (map (λ name. name.now) said.names.items)
  pub store_is : file_of (codes "store") run_command words ≡ path_in said.store
  pub compacts_is : has_flag (codes "compact") run_command words ≡ said.compacts
  pub stored : NamesItsStore run_command words
