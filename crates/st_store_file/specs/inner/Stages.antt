-- A stage of the code, which no reader has to believe: what both command lines say of a short list.
use Rattle.std.specs.Prelude.{◌≡◌, List, codes, map, option_map}
use Rattle.clap.specs.Words.{App}
use Rattle.st_text.specs.Texts.{Text}
use Rattle.st_command_line.specs.Common.{NamesItsStore, SaysRoot, file_of, has_flag}
use Rattle.st_store_file.specs.declared.asked.Asked.{Asked}

-- the words are a command line that says this
pub record Says (app : App) (words : List Text) (asked : Asked) : Type 0 where
  pub root : SaysRoot app words asked.digits.now (map (λ name. name.now) asked.names.now)
  pub store_is : file_of (codes "store") app words ≡ option_map (λ path. path.now) asked.store
  pub compacts_is : has_flag (codes "compact") app words ≡ asked.compacts
  pub stored : NamesItsStore app words
