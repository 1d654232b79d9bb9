-- A reply to a user, by what is kept for that user of the list that it is told after.
use Rattle.std.proofs.Common.{◌≡◌, List, [], ◌∷◌, ◌++◌, Bool, true, false, ◌||◌, Option, None, refl, sym, ◌∙◌, ap, subst}
use Rattle.std.proofs.lemmas.List.{same_from_push}
use Rattle.std.specs.List.{list_any}
use Rattle.std.specs.declared.alloc.Global.{Global}
use mathlib.Core.List.{IsPrefix}
use Rattle.st_text.specs.Texts.{Text}
use Rattle.st_dir.specs.Directory.{Directory}
use Rattle.st_core.specs.Step.{asker_of, asks_for_change, judge_call, settle, step, after}
use Rattle.st_core.specs.Worlds.{moments, Sight, ever, NeverSystem, names, stays, kept, keep, replies_to}
use Rattle.st_core.proofs.Kept.{told_the_same}
use Rattle.st_core.proofs.Sieves.{or_false}
use Rattle.st_core.proofs.Steps.{read_leaves}
use Rattle.st_hall.specs.Steps.{Ask, HallState, Response, reply_of, state_after}
use Rattle.st_hall.specs.Views.{EndsAfter}
use Rattle.st_hall_station.specs.Seats.{no_token}

-- ---- moments

-- a beginning has no moment that the whole has not
fewer : (f : Directory Global → Bool) (s : HallState) (xs zs : List Ask) → list_any f (moments s (xs ++ zs)) ≡ false → list_any f (moments s xs) ≡ false
fewer f s [] [] none = none
fewer f s [] (z ∷ zs) none = ap (λ b. b || false) (or_false (f s.directory) (list_any f (moments (step s z).state zs)) none).0
fewer f s (x ∷ xs) zs none =
    let apart = or_false (f s.directory) (list_any f (moments (step s x).state (xs ++ zs))) none in
    λ i. apart.0 i || fewer f (step s x).state xs zs apart.1 i

pub never_before : (user : Text) (start : HallState) (xs ys : List Ask) → IsPrefix xs ys → NeverSystem user start ys → NeverSystem user start xs
never_before user start xs ys (zs, is) never = fewer _ start xs zs (subst (NeverSystem user start) (sym is) never)

module _ (a : Ask) (still : asks_for_change a ≡ false) where
  -- a read adds no moment that was not there
  never_more : (f : Directory Global → Bool) (s : HallState) (xs : List Ask) → list_any f (moments s (xs ++ a ∷ [])) ≡ list_any f (moments s xs)
  never_more f s [] = ap (λ (t : HallState). f s.directory || (f t.directory || false)) (read_leaves s a still) ∙ twice (f s.directory)
    where
      twice : (b : Bool) → (b || (b || false)) ≡ (b || false)
      twice true = refl
      twice false = refl
  never_more f s (x ∷ xs) = ap (λ b. f s.directory || b) (never_more f (step s x).state xs)

  never_after : (user : Text) (s : HallState) (xs : List Ask) → NeverSystem user s xs → NeverSystem user s (xs ++ a ∷ [])
  never_after user s xs never = never_more _ s xs ∙ never

  -- and shows no more
  ever_after : (user : Text) (s : HallState) (xs : List Ask) → ever user s (xs ++ a ∷ []) ≡ ever user s xs
  ever_after user s xs = λ i. record { reads = λ table. reads table i; holds = λ auth. holds auth i }
    where
      reads : (table : Text) → (ever user s (xs ++ a ∷ [])).reads table ≡ (ever user s xs).reads table
      reads table = never_more _ s xs

      holds : (auth : Text) → (ever user s (xs ++ a ∷ [])).holds auth ≡ (ever user s xs).holds auth
      holds auth = never_more _ s xs

-- ---- replies

module _ (user : Text) (a : Ask) (own : names a.token user ≡ true) where
  -- a user's own request at the end is kept
  kept_more : (sight : Sight) (s : HallState) (xs : List Ask) → kept user sight s (xs ++ a ∷ []) ≡ kept user sight s xs ++ a ∷ []
  kept_more sight s [] = simp own refl
  kept_more sight s (x ∷ xs) = at (stays user sight s.directory x) refl (kept_more sight (step s x).state xs)
    where
      at : (b : Bool) → stays user sight s.directory x ≡ b
          → kept user sight (step s x).state (xs ++ a ∷ []) ≡ kept user sight (step s x).state xs ++ a ∷ []
          → kept user sight s (x ∷ (xs ++ a ∷ [])) ≡ kept user sight s (x ∷ xs) ++ a ∷ []
      at true h more = simp h (ap (λ (ys : List Ask). x ∷ ys) more)
      at false h more = simp h more

  -- its reply is the last of the user's
  told_more : (s : HallState) (xs : List Ask) → replies_to user s (xs ++ a ∷ []) ≡ replies_to user s xs ++ (step (after s xs) a).reply ∷ []
  told_more s [] = simp own refl
  told_more s (x ∷ xs) = at (names x.token user) refl (told_more (step s x).state xs)
    where
      at : (b : Bool) → names x.token user ≡ b
          → replies_to user (step s x).state (xs ++ a ∷ []) ≡ replies_to user (step s x).state xs ++ (step (after (step s x).state xs) a).reply ∷ []
          → replies_to user s (x ∷ (xs ++ a ∷ [])) ≡ replies_to user s (x ∷ xs) ++ (step (after s (x ∷ xs)) a).reply ∷ []
      at true h more = simp h (ap (λ rs. (step s x).reply ∷ rs) more)
      at false h more = simp h more

  -- at the end of two lists of which the same is kept it is told the same
  same_last : (start : HallState) (xs ys : List Ask) → NeverSystem user start (xs ++ a ∷ []) → NeverSystem user start (ys ++ a ∷ [])
      → keep user start (xs ++ a ∷ []) ≡ keep user start (ys ++ a ∷ []) → reply_of (state_after start xs) a ≡ reply_of (state_after start ys) a
  unfolding reply_of state_after
  same_last start xs ys never never_too same =
      let told = sym (told_more start xs) ∙ (told_the_same start user (xs ++ a ∷ []) never ∙ (ap (replies_to user start) same
      ∙ (sym (told_the_same start user (ys ++ a ∷ []) never_too) ∙ told_more start ys))) in
      (same_from_push (replies_to user start xs) (replies_to user start ys) (step (after start xs) a).reply (step (after start ys) a).reply told).1

  -- and so is a read after two such lists
  pub same_read : asks_for_change a ≡ false → (start : HallState) (xs ys : List Ask) → NeverSystem user start xs → NeverSystem user start ys
      → keep user start xs ≡ keep user start ys → reply_of (state_after start xs) a ≡ reply_of (state_after start ys) a
  same_read still start xs ys never never_too same =
      same_last start xs ys (never_after a still user start xs never) (never_after a still user start ys never_too)
      (keeps_more xs ∙ (ap (λ zs. zs ++ a ∷ []) same ∙ sym (keeps_more ys)))
    where
      keeps_more : (zs : List Ask) → keep user start (zs ++ a ∷ []) ≡ keep user start zs ++ a ∷ []
      keeps_more zs = ap (λ sight. kept user sight start (zs ++ a ∷ [])) (ever_after a still user start zs) ∙ kept_more (ever user start zs) start zs

  -- and a change that ends both
  pub same_change : (start : HallState) (before other xs ys : List Ask) (reply told : Response) → EndsAfter start before xs a reply → EndsAfter start other ys a told
      → NeverSystem user start xs → NeverSystem user start ys → keep user start xs ≡ keep user start ys → reply ≡ told
  same_change start before other xs ys reply told (front, on, ends, is) (second, on_too, ends_too, is_too) never never_too same =
      is ∙ (same_last start front second (subst (NeverSystem user start) ends never) (subst (NeverSystem user start) ends_too never_too)
      (sym (ap (keep user start) ends) ∙ (same ∙ ap (keep user start) ends_too)) ∙ sym is_too)

-- whose token does not hold is told so, whatever is asked
pub stranger_told : (s : HallState) (a : Ask) → asker_of s.directory a.token ≡ None → reply_of s a ≡ no_token
unfolding reply_of
stranger_told s a none = ap (λ (asker : Option Text). (settle s (judge_call s.directory asker a.call)).reply) none
