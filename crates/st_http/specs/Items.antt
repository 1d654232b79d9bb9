-- The items of a text.
use Rattle.std.specs.Prelude.{◌≡◌, ℕ, Bool, true, false, List, [], ◌∷◌, drop}
use Rattle.st_http.specs.Fields.{closes_after}
use Rattle.st_http.specs.First.{First, IsFirst, IsItem, message, more, fields_of, size_of}

-- Whether no item comes after this one, since the connection is closed (RFC 9112, "Persistence") or the text is too short to tell.
abbrev pub closes : First → Bool
closes (message h body bare) = closes_after h.minor (fields_of h)
closes _ = true

-- the text after an item; a fault is no part of the text
abbrev pub after_item : List ℕ → First → List ℕ
after_item text (message h body bare) = drop (size_of h body) text
after_item text _ = text

-- the messages of a text, then perhaps a fault, none after an item that closes the connection, and what is left
pub data Items : List ℕ → List First → List ℕ → Type 0 where
  none : {text : List ℕ} {waits : Bool} → IsFirst text (more waits) → Items text [] text
  last : {text : List ℕ} {item : First} → IsFirst text item → IsItem item → closes item ≡ true
      → Items text (item ∷ []) (after_item text item)
  next : {text rest : List ℕ} {item : First} {items : List First} → IsFirst text item → closes item ≡ false
      → Items (after_item text item) items rest → Items text (item ∷ items) rest
