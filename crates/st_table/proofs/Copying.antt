-- Places that are copied.
use Rattle.std.proofs.Common.{◌≡◌, ℕ, List, [], ◌∷◌, refl, ap, ◌∙◌}
use Rattle.std.specs.List.{AllZip}

pair_same : (p q : ℕ × ℕ) → (q.0 ≡ p.0) × (q.1 ≡ p.1) → q ≡ p
pair_same (a, b) (m, n) (first, second) = ap (λ (k : ℕ). (k, n)) first ∙ ap (λ (k : ℕ). (a, k)) second

-- clones of pairs of numbers are these pairs
pub cloned : (ps qs : List (ℕ × ℕ)) → AllZip (λ (p q : ℕ × ℕ). (q.0 ≡ p.0) × (q.1 ≡ p.1)) ps qs → qs ≡ ps
cloned [] [] all = refl
cloned [] (q ∷ qs) all = absurd all
cloned (p ∷ ps) [] all = absurd all
cloned (p ∷ ps) (q ∷ qs) all = ap (λ (rs : List (ℕ × ℕ)). q ∷ rs) (cloned ps qs all.1) ∙ ap (λ (r : ℕ × ℕ). r ∷ ps) (pair_same p q all.0)
