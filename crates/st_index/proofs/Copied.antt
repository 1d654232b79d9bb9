-- Lists that are copied item by item.
use Rattle.std.proofs.Common.{◌≡◌, ℕ, ◌+◌, ◌<◌, List, [], ◌∷◌, ◌++◌, length, get_or, take, sym, ap, ◌∙◌}
use Rattle.std.proofs.lemmas.List.{take_more}

-- one copy more
pub one_copied : {X : Type 0} → (xs copies more : List X) (i : ℕ) (x y : X) → i < length xs → x ≡ get_or xs i x → y ≡ x → copies ≡ take i xs
    → more ≡ copies ++ y ∷ [] → more ≡ take (i + 1) xs
one_copied xs copies more i x y below read same is next =
    next ∙ ap (λ zs. zs ++ y ∷ []) is ∙ ap (λ z. take i xs ++ z ∷ []) (same ∙ read) ∙ sym (take_more xs i x below)
