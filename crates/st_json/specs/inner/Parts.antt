-- A stage of the code, which no reader has to believe: what is read of a body before it is owned.
use Rattle.std.specs.Prelude.{ℕ, List, [], ◌∷◌, Option, Some, None, option_and_then, Result, Ok, Err}
use Rattle.serde_json.specs.Data.{Data, Items, no_items, item}
use Rattle.serde_json.specs.Find.{get, as_array, as_str}
use Rattle.st_text.specs.Texts.{Text}
use Rattle.st_json.specs.Fields.{as_natural, each_read}

-- what a result is once its value is seen by f
abbrev pub viewed : {S B E : Type 0} → (S → B) → Result S E → Result B E
viewed f (Ok s) = Ok (f s)
viewed f (Err e) = Err e

-- a value with P, or none where no value has it
abbrev pub Picks : {B : Type 0} → (B → Type 0) → Option B → Type 0
Picks P (Some b) = P b
Picks {B} P None = (b : B) → P b → ⊥

-- the texts, with this one before them, if it is there
abbrev pub with_text : Option Text → List Text → List Text
with_text None more = more
with_text (Some s) more = s ∷ more

-- the texts among the items
abbrev pub texts_among : Items → List Text
texts_among no_items = []
texts_among (item d ds) = with_text (as_str d) (texts_among ds)

-- the items of the list of this name
abbrev pub items_in : Text → Data → Option Items
items_in name d = option_and_then as_array (get name d)

-- the texts that the items are, and the numbers
abbrev pub texts_of : Items → Option (List Text)
texts_of = each_read as_str

abbrev pub numbers_of : Items → Option (List ℕ)
numbers_of = each_read as_natural
