-- The keys of the parts of a query.
use Rattle.std.specs.Prelude.{ℕ, ◌≡◌, ◌≤◌, ◌+◌, ◌⊎◌, List, [], ◌∷◌}
use Rattle.st_key.specs.declared.key.Key.{Key}
use Rattle.st_box.specs.declared.part.Part.{Part}
use Rattle.st_box.specs.ZBox.{IsInside}

-- the key is in the part
pub record IsInPart (p : Part) (k : Key) : Type 0 where
  pub from_bin : p.bin_lo ≤ k.bin
  pub to_bin : k.bin ≤ p.bin_hi
  pub inside : IsInside p.zbox k.address

-- the key is in one of the parts
abbrev pub HasPart : List Part → Key → Type 0
HasPart [] k = ⊥
HasPart (p ∷ ps) k = IsInPart p k ⊎ HasPart ps k

-- the parts' bins follow each other from one bin to another, so no two parts share a key
abbrev pub FollowBins : ℕ → List Part → ℕ → Type 0
FollowBins from [] to = from ≡ to + 1
FollowBins from (p ∷ ps) to = (p.bin_lo ≡ from) × (p.bin_lo ≤ p.bin_hi) × FollowBins (p.bin_hi + 1) ps to
