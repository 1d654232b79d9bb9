-- A user's reply at a desk, in the run with no more than that user may see.
use Rattle.std.proofs.Common.{◌≡◌, List, [], ◌∷◌, ◌++◌, Bool, true, false, ◌||◌, refl, sym, ◌∙◌, ap}
use Rattle.std.proofs.lemmas.List.{same_from_push}
use Rattle.std.specs.List.{list_any}
use Rattle.std.specs.declared.alloc.Global.{Global}
use Rattle.st_text.specs.Texts.{Text}
use Rattle.st_dir.specs.Directory.{Directory, has_system}
use Rattle.st_grant.specs.declared.permission.Permission.{Permission}
use Rattle.st_core.specs.Step.{asks_for_change, step, after}
use Rattle.st_core.specs.Worlds.{moments, Sight, ever, NeverSystem, names, stays, kept, keep, replies_to}
use Rattle.st_core.proofs.Steps.{read_leaves}
use Rattle.st_core.proofs.Kept.{told_the_same}
use Rattle.st_hall_press.specs.Steps.{Ask, HallState, reply_of, state_after}
use Rattle.st_hall_press.specs.Views.{EndsWith}

-- a read adds no moment that was not there
never_more : (f : Directory Global → Bool) (s : HallState) (xs : List Ask) (a : Ask) → asks_for_change a ≡ false
    → list_any f (moments s (xs ++ a ∷ [])) ≡ list_any f (moments s xs)
never_more f s [] a still = ap (λ (t : HallState). f s.directory || (f t.directory || false)) (read_leaves s a still) ∙ twice (f s.directory)
  where
    twice : (b : Bool) → (b || (b || false)) ≡ (b || false)
    twice true = refl
    twice false = refl
never_more f s (x ∷ xs) a still = ap (λ b. f s.directory || b) (never_more f (step s x).state xs a still)

module _ (user : Text) (a : Ask) (own : names a.token user ≡ true) where
  -- a user's own request at the end is kept
  kept_more : (sight : Sight) (s : HallState) (xs : List Ask) → kept user sight s (xs ++ a ∷ []) ≡ kept user sight s xs ++ a ∷ []
  kept_more sight s [] = simp own refl
  kept_more sight s (x ∷ xs) = at (stays user sight s.directory x) refl (kept_more sight (step s x).state xs)
    where
      at : (b : Bool) → stays user sight s.directory x ≡ b
          → kept user sight (step s x).state (xs ++ a ∷ []) ≡ kept user sight (step s x).state xs ++ a ∷ []
          → kept user sight s (x ∷ (xs ++ a ∷ [])) ≡ kept user sight s (x ∷ xs) ++ a ∷ []
      at true h more = simp h (ap (λ (ys : List Ask). x ∷ ys) more)
      at false h more = simp h more

  -- its reply is the last of the user's
  told_more : (s : HallState) (xs : List Ask) → replies_to user s (xs ++ a ∷ []) ≡ replies_to user s xs ++ (step (after s xs) a).reply ∷ []
  told_more s [] = simp own refl
  told_more s (x ∷ xs) = at (names x.token user) refl (told_more (step s x).state xs)
    where
      at : (b : Bool) → names x.token user ≡ b
          → replies_to user (step s x).state (xs ++ a ∷ []) ≡ replies_to user (step s x).state xs ++ (step (after (step s x).state xs) a).reply ∷ []
          → replies_to user s (x ∷ (xs ++ a ∷ [])) ≡ replies_to user s (x ∷ xs) ++ (step (after s (x ∷ xs)) a).reply ∷ []
      at true h more = simp h (ap (λ rs. (step s x).reply ∷ rs) more)
      at false h more = simp h more

pub shows_no_more : (start : HallState) (user : Text) (seen : List Ask) (a : Ask) → names a.token user ≡ true → asks_for_change a ≡ false → NeverSystem user start seen
    → EndsWith start (keep user start (seen ++ a ∷ [])) a (reply_of (state_after start seen) a)
unfolding reply_of state_after
shows_no_more start user seen a own still never =
    let sight = ever user start (seen ++ a ∷ []) in
    let before = kept user sight start seen in
    let keeps : keep user start (seen ++ a ∷ []) ≡ before ++ a ∷ [] = kept_more user a own sight start seen in
    let never_system : NeverSystem user start (seen ++ a ∷ []) = never_more (λ d. has_system d user Permission.System) start seen a still ∙ never in
    let same = sym (told_more user a own start seen) ∙ (told_the_same start user (seen ++ a ∷ []) never_system ∙ (ap (replies_to user start) keeps ∙ told_more user a own start before)) in
    (before, keeps, (same_from_push (replies_to user start seen) (replies_to user start before) (step (after start seen) a).reply (step (after start before) a).reply same).1)
