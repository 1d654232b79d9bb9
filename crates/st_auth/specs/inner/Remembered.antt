-- An invariant of a representation, which no reader has to believe: what the caches of verdicts hold.
use Rattle.std.specs.Prelude.{◌≡◌, ℕ, List, Bool, Contains, String, string_bytes, bytes_eq, Option, Some, None}
use Rattle.std.specs.List.{All}
use Rattle.st_label.specs.Reading.{is_true}
use Rattle.st_text.specs.Texts.{Text, is_among}
use Rattle.st_auth.specs.declared.long_text.LongText.{LongText}
use Rattle.st_auth.specs.declared.cache.Known.{Known}
use Rattle.lru.specs.LruCache.{LruCache}

-- each verdict is whether the label is true for the set
abbrev pub AreOf : {A : Type 0} → List Text → List (String A × Bool) → Type 0
AreOf {A} names entries =
    (text : String A) (verdict : Bool) → Contains entries (text, verdict) → verdict ≡ is_true (is_among names) (string_bytes text)

-- whether a key is the text
abbrev pub has_text : {A : Type 0} → List ℕ → String A → Bool
has_text text key = bytes_eq text (string_bytes key)

-- and so is each that a cache remembers, if there is a cache
abbrev pub AreHeld : {A : Type 0} → List Text → Option (LruCache (String A) Bool) → Type 0
AreHeld names None = Unit {0}
AreHeld names (Some cache) = AreOf names cache.entries

-- each known label's verdict is whether it is true for the set, where `text` reads what is kept of it
abbrev pub AreKnown : {T : Type 0} → (T → Text) → List Text → List (Known T) → Type 0
AreKnown {T} text names known = All (λ (k : Known T). k.verdict ≡ is_true (is_among names) (text k.text)) known

-- what is kept of a label is its text itself
abbrev pub itself : Text → Text
itself text = text

-- of a long label it stands inline or on the heap
abbrev pub kept_text : {A : Type 0} → LongText A → Text
kept_text (LongText.Inline text) = text
kept_text (LongText.Heap text) = text
