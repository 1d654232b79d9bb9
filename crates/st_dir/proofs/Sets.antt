-- The names at all places of an order are a set.
use Rattle.std.proofs.Common.{◌≡◌, ℕ, zero, suc, ◌<◌, map, List, [], ◌∷◌, length, Bool, ◌||◌, refl, sym, ap, ◌∙◌, arith}
use Rattle.std.specs.Prelude.{slice_index_or}
use Rattle.std.specs.List.{list_any}
use Rattle.st_text.specs.Texts.{Text, same, is_among, set_of}
use Rattle.st_auth.specs.inner.Order.{IsOrder, name_at}
use Rattle.st_auth.proofs.Search.{among_in_order}
use Rattle.st_grant.proofs.Sets.{among_set, one_set, rises_set}
use Rattle.st_sorted.specs.Sorted.{Rises, name_key}

pub at_any_default : {X : Type 0} (xs : List X) (i : ℕ) (d e : X) → i < length xs → slice_index_or xs i d ≡ slice_index_or xs i e
at_any_default [] i d e less = absurd (omega (less, arith))
at_any_default (x ∷ xs) zero d e less = refl
at_any_default (x ∷ xs) (suc i) d e less = at_any_default xs i d e (omega (less, arith))

pub list_any-map : {X Y : Type 0} (p : Y → Bool) (f : X → Y) (xs : List X) → list_any p (map f xs) ≡ list_any (λ x. p (f x)) xs
list_any-map p f [] = refl
list_any-map p f (x ∷ xs) = ap (λ b. p (f x) || b) (list_any-map p f xs)

-- a list that rises and holds the names at all places of a set's order is the set
pub met_in_order : (names : List Text) (order : List ℕ) (found : List Text) → IsOrder names order → Rises name_key found
    → ((n : Text) → is_among found n ≡ list_any (λ place. same n (name_at names place)) order) → found ≡ set_of names
met_in_order names order found h rises same_names =
    one_set found (set_of names) rises (rises_set names) (λ n. same_names n ∙ sym (list_any-map (same n) (name_at names) order) ∙ sym (among_in_order names order n h) ∙ sym (among_set names n))
