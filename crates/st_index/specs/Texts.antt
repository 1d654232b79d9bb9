-- How long the texts of a row are, in bytes.
use Rattle.std.specs.Prelude.{◌≤◌, length}
use Rattle.st_text.specs.Texts.{Text}

abbrev pub IsId : Text → Type 0
IsId text = (1 ≤ length text) × (length text ≤ 64)

abbrev pub IsNote : Text → Type 0
IsNote text = length text ≤ 4096
