-- A stage of the code, which no reader has to believe: names that are put into a list one by one.
use Rattle.std.specs.Prelude.{List, ◌∷◌, if◌then◌else◌}
use Rattle.st_text.specs.Texts.{Text, is_among, in_order}
use Rattle.st_sorted.specs.Sorted.{name_key}

-- with the name among them, once
abbrev pub with_name : Text → List Text → List Text
with_name name names = if is_among names name then names else in_order name_key (name ∷ names)
