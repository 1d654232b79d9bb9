-- What a tree is seen as, and its regions.
use Rattle.std.specs.Prelude.{ℕ, ◌-◌, List, [], ◌∷◌}
use Rattle.st_key.specs.declared.period.Period.{Period}
use Rattle.st_index.specs.inner.Index.{Region, region}
use Rattle.st_tally.specs.inner.Pages.{PageValue, NodeValue}

pub record TreeValue (A : Type 0) : Type 0 where
  pub period : Period
  pub root : NodeValue A

-- each page's region, from its first key to the key before the next page's; the last one ends just below hi
abbrev pub regions_of : {A : Type 0} → ℕ → List (PageValue A) → List Region
regions_of hi [] = []
regions_of hi (p ∷ []) = region p.first (hi - 1) ∷ []
regions_of hi (p ∷ q ∷ ps) = region p.first (q.first - 1) ∷ regions_of hi (q ∷ ps)
