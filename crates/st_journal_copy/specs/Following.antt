-- What a copy has of a list that is read piece by piece, while others make it longer.
use Rattle.std.specs.Prelude.{◌≡◌, ◌+◌, ◌<◌, ◌++◌, ℕ, List, [], ◌∷◌, drop, length, take}
use mathlib.Core.List.{IsPrefix}
use Rattle.st_journal.specs.declared.record.Record.{Record}

module _ (gives : (from most : ℕ) → List Record → Type 0) where
  -- the records were read behind the first so many, piece by piece, each where the one before it ended
  abbrev pub AreGiven : ℕ → (pieces : List (List Record)) → List Record → Type 0
  AreGiven from [] records = records ≡ []
  AreGiven from (piece ∷ pieces) records =
      (rest : List Record) × (records ≡ piece ++ rest) × ((most : ℕ) × gives from most piece) × AreGiven (from + length piece) pieces rest

  abbrev pub IsGiven : ℕ → List Record → Type 0
  IsGiven from records = (pieces : List (List Record)) × AreGiven from pieces records

  -- each piece stands in the list where it was read
  abbrev pub StandIn : List Record → Type 0
  StandIn list = (from most : ℕ) (piece : List Record) → gives from most piece → IsPrefix piece (drop from list)

  -- each piece is all that the list has there, as far as so many were asked for
  abbrev pub AreWholeIn : List Record → Type 0
  AreWholeIn list = (from most : ℕ) (piece : List Record) → gives from most piece → piece ≡ take most (drop from list)

  -- a reading found the end of the list behind the first so many records
  abbrev pub IsAtEnd : ℕ → Type 0
  IsAtEnd count = (from most : ℕ) × (last : List Record) × gives from most last × (length last < most) × (count ≡ from + length last)

  -- the copy has what it had, and behind it records that were read behind as many
  abbrev pub GoesOn : (old new : List Record) → Type 0
  GoesOn old new = (more : List Record) × (new ≡ old ++ more) × IsGiven (length old) more
