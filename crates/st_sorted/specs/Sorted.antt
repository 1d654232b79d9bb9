-- Lists sorted by key, no two items of one key.
use Rattle.std.specs.Prelude.{◌≡◌, List, [], ◌∷◌, true}
use Rattle.st_text.specs.Texts.{Text, comes_before}

-- the item's key comes before each of theirs
abbrev pub ComesFirst : {X : Type 0} → (X → List Text) → X → List X → Type 0
ComesFirst key x [] = Unit {0}
ComesFirst key x (y ∷ ys) = (comes_before (key x) (key y) ≡ true) × ComesFirst key x ys

-- each item's key comes before the keys of the items after it
abbrev pub Rises : {X : Type 0} → (X → List Text) → List X → Type 0
Rises key [] = Unit {0}
Rises key (x ∷ xs) = ComesFirst key x xs × Rises key xs

-- texts are sorted by their bytes
abbrev pub name_key : Text → List Text
name_key name = name ∷ []
