-- A user's replies in the run with no more than what that user may see.
use Rattle.std.proofs.Common.{◌≡◌, List, [], ◌∷◌, Bool, true, false, ◌&&◌, ◌||◌, refl, sym, ◌∙◌, ap, subst}
use Rattle.std.specs.Prelude.{◌⊎◌}
use mathlib.Core.Logic.{inl, inr}
use Rattle.std.specs.List.{list_any}
use Rattle.st_core.specs.declared.asked.Asked.{Asked}
use Rattle.st_grant.specs.declared.permission.Permission.{Permission}
use Rattle.st_text.specs.Texts.{Text}
use Rattle.st_dir.specs.Directory.{Directory, has_auth, has_system, has_table, is_table}
use Rattle.st_core.specs.State.{State}
use Rattle.st_core.specs.Step.{judge, settle, step}
use Rattle.st_core.specs.Worlds.{moments, Sight, ever, NeverSystem, names, matters, stays, kept, keep, replies_to}
use Rattle.st_core.proofs.Sieves.{or_false, or_left, or_right}
use Rattle.st_core.proofs.Alike.{Covers, Alike, judged_own, reply_alike, settle_alike, settle_hidden, settle_directory}

-- ---- elements of a list, and a test that one of them passes

abbrev IsOneOf : {X : Type 0} → X → List X → Type 0
IsOneOf x [] = ⊥
IsOneOf x (y ∷ ys) = (y ≡ x) ⊎ IsOneOf x ys

any_passes : {X : Type 0} (f : X → Bool) (x : X) (xs : List X) → IsOneOf x xs → f x ≡ true → list_any f xs ≡ true
any_passes f x [] m h = elim m [ ]
any_passes f x (y ∷ ys) (inl e) h = or_left (f y) (list_any f ys) (ap f e ∙ h)
any_passes f x (y ∷ ys) (inr m) h = or_right (f y) (any_passes f x ys m h)

none_passes : {X : Type 0} (f : X → Bool) (x : X) (xs : List X) → IsOneOf x xs → list_any f xs ≡ false → f x ≡ false
none_passes f x [] m h = elim m [ ]
none_passes f x (y ∷ ys) (inl e) h = ap f (sym e) ∙ (or_false (f y) (list_any f ys) h).0
none_passes f x (y ∷ ys) (inr m) h = none_passes f x ys m (or_false (f y) (list_any f ys) h).1

-- what a user may ever see covers each moment
ever_covers : {A : Type 0} (user : Text) (s : State A) (asked : List (Asked A)) → NeverSystem user s asked → (d : Directory A) → IsOneOf d (moments s asked) → Covers (ever user s asked) user d
ever_covers user s asked never d m = record {
  reads = λ table. any_passes (λ e. is_table e table && has_table e user table Permission.Read) d (moments s asked) m;
  holds = λ auth. any_passes (λ e. has_auth e user auth) d (moments s asked) m;
  system = none_passes (λ e. has_system e user Permission.System) d (moments s asked) m never;
}

-- the first moment is now
first_moment : {A : Type 0} (s : State A) (asked : List (Asked A)) → IsOneOf s.directory (moments s asked)
first_moment s [] = inl refl
first_moment s (a ∷ rest) = inl refl

-- ---- the same replies

module _ {A : Type 0} (user : Text) (sight : Sight) where
  replies_kept : (asked : List (Asked A)) (s t : State A) → Alike sight s t → ((d : Directory A) → IsOneOf d (moments s asked) → Covers sight user d) →
      replies_to user s asked ≡ replies_to user t (kept user sight s asked)
  replies_kept [] s t alike covers = refl
  replies_kept (a ∷ rest) s t alike covers =
      at (names a.token user) (matters sight (judge s.directory a)) refl refl
      (λ u like. replies_kept rest (step s a).state u like (λ d m. covers d (inr m)))
    where
      same_judgement : judge s.directory a ≡ judge t.directory a
      same_judgement = ap (λ d. judge d a) alike.directory

      next : Alike sight (step s a).state (step t a).state
      next = subst (λ j. Alike sight (step s a).state (settle t j).state) same_judgement (settle_alike sight (judge s.directory a) s t alike)

      reply : names a.token user ≡ true → (step s a).reply ≡ (step t a).reply
      reply own =
          reply_alike sight user s t alike (covers s.directory (inl refl)) (judge s.directory a) (judged_own s.directory user a.token a.call own)
          ∙ ap (λ j. (settle t j).reply) same_judgement

      hidden : matters sight (judge s.directory a) ≡ false → Alike sight (step s a).state t
      hidden h =
          let gone = settle_hidden sight (judge s.directory a) s h in
          record { directory = gone.directory ∙ alike.directory; rows = gone.rows ∙ alike.rows }

      at : (n m : Bool) → names a.token user ≡ n → matters sight (judge s.directory a) ≡ m →
          ((u : State A) → Alike sight (step s a).state u → replies_to user (step s a).state rest ≡ replies_to user u (kept user sight (step s a).state rest)) →
          replies_to user s (a ∷ rest) ≡ replies_to user t (kept user sight s (a ∷ rest))
      at true m e f ih = simp e (λ i. reply e i ∷ ih (step t a).state next i)
      at false true e f ih = simp (e, f) (ih (step t a).state next)
      at false false e f ih = simp (e, f) (ih t (hidden f))

-- ---- the same sight, and nothing more to leave out

or_again : (a b : Bool) → (a || (a || b)) ≡ (a || b)
or_again true b = refl
or_again false b = refl

any_now : {A : Type 0} (f : Directory A → Bool) (s : State A) (asked : List (Asked A)) (d : Directory A) → d ≡ s.directory → (f d || list_any f (moments s asked)) ≡ list_any f (moments s asked)
any_now f s [] d e = ap (λ c. f c || (f s.directory || false)) e ∙ or_again (f s.directory) false
any_now f s (a ∷ rest) d e = ap (λ c. f c || (f s.directory || list_any f (moments (step s a).state rest))) e ∙ or_again (f s.directory) _

module _ {A : Type 0} (user : Text) (sight : Sight) where
  next_directory : (a : Asked A) (s t : State A) → s.directory ≡ t.directory → (step s a).state.directory ≡ (step t a).state.directory
  next_directory a s t e = settle_directory (judge s.directory a) s t e ∙ ap (λ d. (settle t (judge d a)).state.directory) e

  any_kept : (f : Directory A → Bool) (asked : List (Asked A)) (s t : State A) → s.directory ≡ t.directory → list_any f (moments s asked) ≡ list_any f (moments t (kept user sight s asked))
  any_kept f [] s t e = ap (λ d. f d || false) e
  any_kept f (a ∷ rest) s t e = at (stays user sight s.directory a) refl (any_kept f rest (step s a).state)
    where
      at : (b : Bool) → stays user sight s.directory a ≡ b
          → ((u : State A) → (step s a).state.directory ≡ u.directory
          → list_any f (moments (step s a).state rest) ≡ list_any f (moments u (kept user sight (step s a).state rest))) →
          list_any f (moments s (a ∷ rest)) ≡ list_any f (moments t (kept user sight s (a ∷ rest)))
      at true h ih = simp h (λ i. f (e i) || ih (step t a).state (next_directory a s t e) i)
      at false h ih =
          let gone = (settle_hidden sight (judge s.directory a) s (or_false (names a.token user) _ h).1).directory in
          simp h (any_now f (step s a).state rest s.directory (sym gone) ∙ ih t (gone ∙ e))

  kept_again : (asked : List (Asked A)) (s t : State A) → s.directory ≡ t.directory → kept user sight t (kept user sight s asked) ≡ kept user sight s asked
  kept_again [] s t e = refl
  kept_again (a ∷ rest) s t e = at (stays user sight s.directory a) refl (kept_again rest (step s a).state)
    where
      at : (b : Bool) → stays user sight s.directory a ≡ b
          → ((u : State A) → (step s a).state.directory ≡ u.directory
          → kept user sight u (kept user sight (step s a).state rest) ≡ kept user sight (step s a).state rest) →
          kept user sight t (kept user sight s (a ∷ rest)) ≡ kept user sight s (a ∷ rest)
      at true h ih =
          let there : stays user sight t.directory a ≡ true = ap (λ d. stays user sight d a) (sym e) ∙ h in
          simp (h, there) (ap (λ xs. a ∷ xs) (ih (step t a).state (next_directory a s t e)))
      at false h ih =
          let gone = (settle_hidden sight (judge s.directory a) s (or_false (names a.token user) _ h).1).directory in
          simp h (ih t (gone ∙ e))

-- ---- the theorem

pub told_the_same : {A : Type 0} (s : State A) (user : Text) (asked : List (Asked A)) → NeverSystem user s asked → replies_to user s asked ≡ replies_to user s (keep user s asked)
told_the_same s user asked never =
    replies_kept user (ever user s asked) asked s s (record { directory = refl; rows = refl }) (ever_covers user s asked never)

same_sight : {A : Type 0} (s : State A) (user : Text) (asked : List (Asked A)) → ever user s (keep user s asked) ≡ ever user s asked
same_sight s user asked = λ i. record {
  reads = λ table. sym (any_kept user (ever user s asked) (λ d. is_table d table && has_table d user table Permission.Read) asked s s refl) i;
  holds = λ auth. sym (any_kept user (ever user s asked) (λ d. has_auth d user auth) asked s s refl) i;
}

pub kept_twice : {A : Type 0} (s : State A) (user : Text) (asked : List (Asked A)) → keep user s (keep user s asked) ≡ keep user s asked
kept_twice s user asked = ap (λ sight. kept user sight s (keep user s asked)) (same_sight s user asked) ∙ kept_again user (ever user s asked) asked s s refl
