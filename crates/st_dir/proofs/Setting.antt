-- A part of the item at a key's place is set.
use Rattle.std.proofs.Common.{◌≡◌, ℕ, ◌<◌, List, map, length, Bool, true, if◌then◌else◌, sym, ◌∙◌, ap, subst}
use Rattle.std.specs.Prelude.{slice_index_or, slice_set}
use Rattle.st_text.specs.Texts.{Text}
use Rattle.st_sorted.specs.Sorted.{Rises}
use Rattle.st_sorted.specs.inner.Places.{IsAlone}
use Rattle.st_sorted.proofs.Sorted.{changed, rises_changed}

-- the place is found in the list as it is seen, and the item there is set
module _ {X : Type 0} (key : X → List Text) (test : X → Bool) (f : X → X) (xs seen : List X) (i : ℕ) (item : X) (is : seen ≡ xs)
    (alone : IsAlone test seen i) (less : i < length seen) (found : (d : X) → test (slice_index_or seen i d) ≡ true)
    (value : item ≡ slice_index_or xs i item) where
  pub set_there : slice_set xs i (f item) ≡ map (λ x. if test x then f x else x) xs
  set_there =
      ap (λ x. slice_set xs i (f x)) value
      ∙ changed key test f xs i item (subst (λ ys. IsAlone test ys i) is alone) (subst (λ ys. i < length ys) is less)
      (subst (λ ys. test (slice_index_or ys i item) ≡ true) is (found item))

  pub set_rises : ((x : X) → key (f x) ≡ key x) → Rises key xs → Rises key (slice_set xs i (f item))
  set_rises kept rises = subst (Rises key) (sym set_there) (rises_changed key test f kept xs rises)
