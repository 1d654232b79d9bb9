-- Texts as lists of bytes, and lists of texts in order.
use Rattle.std.specs.Prelude.{ℕ, List, [], ◌∷◌, Bool, if◌then◌else◌, nat_eq}
use Rattle.std.specs.List.{list_any}
use Rattle.std.specs.Ordering.{nat_cmp, is_lt}
use Rattle.std.specs.Cmp.Lexicographic.{slice_cmp}
use lib.Pointwise.{pointwise}

abbrev pub Text : Type 0
Text = List ℕ

-- whether two texts are the same, byte by byte
abbrev pub same : Text → Text → Bool
same = pointwise nat_eq

abbrev pub is_among : List Text → Text → Bool
is_among names name = list_any (same name) names

-- lists are compared by the first text that differs, texts by the first byte that differs
abbrev pub comes_before : List Text → List Text → Bool
comes_before key other = is_lt (slice_cmp (slice_cmp nat_cmp) key other)

abbrev pub put_in_order : {X : Type 0} → (X → List Text) → X → List X → List X
put_in_order key x [] = x ∷ []
put_in_order key x (y ∷ ys) = if comes_before (key y) (key x) then y ∷ put_in_order key x ys else x ∷ y ∷ ys

-- the list sorted by its elements' keys
abbrev pub in_order : {X : Type 0} → (X → List Text) → List X → List X
in_order key [] = []
in_order key (x ∷ xs) = put_in_order key x (in_order key xs)

-- each text once
abbrev pub each_once : List Text → List Text
each_once [] = []
each_once (name ∷ names) = if is_among names name then each_once names else name ∷ each_once names

-- the set of the texts as a list: each once, in byte order
abbrev pub set_of : List Text → List Text
set_of names = in_order (λ name. name ∷ []) (each_once names)
