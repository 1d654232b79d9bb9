-- What a grant on a namespace does, and whom the listing of grants names.
use Rattle.std.proofs.Common.{◌≡◌, List, [], ◌∷◌, map, Bool, true, false, ◌&&◌, ◌||◌, Option, Some, None, refl, sym, ap, ◌∙◌}
use Rattle.std.specs.List.{list_any}
use Rattle.std.specs.Option.{option_map_or}
use Rattle.st_text.specs.Texts.{Text, same}
use Rattle.st_text.proofs.Same.{same-eq}
use Rattle.st_grant.specs.Grants.{same_grant, same_scope, with_grant}
use Rattle.st_dir.specs.Directory.{Directory}
use Rattle.st_dir.specs.Listings.{grants_on, granted_on, held_on}
use Rattle.st_grant.specs.Order.{grant_key}
use Rattle.st_dir.specs.declared.grantee.Grantee.{Grantee}
use Rattle.st_grant.specs.Permissions.{same_permission}
use Rattle.st_grant.specs.declared.grant.Grant.{Grant}
use Rattle.st_grant.specs.declared.grant.Scope.{Scope}
use Rattle.st_grant.specs.inner.Keys.{grant_own}
use Rattle.st_grant.proofs.Sets.{any_order}
use Rattle.st_sorted.proofs.Sorted.{clash}

pub held_with : (g : Grant) (grants : List Grant) → list_any (same_grant g) (with_grant g grants) ≡ true
held_with g grants = at (list_any (same_grant g) grants) refl
  where
    at : (b : Bool) → list_any (same_grant g) grants ≡ b → list_any (same_grant g) (with_grant g grants) ≡ true
    at true e = rw e e
    at false e = let self = grant_own g g refl in rw e (any_order grant_key (same_grant g) (g ∷ grants) ∙ ap (λ b. b || list_any (same_grant g) grants) self)

pub others_with : (h g : Grant) (grants : List Grant) → same_grant h g ≡ false → list_any (same_grant h) (with_grant g grants) ≡ list_any (same_grant h) grants
others_with h g grants apart = at (list_any (same_grant g) grants) refl
  where
    at : (b : Bool) → list_any (same_grant g) grants ≡ b → list_any (same_grant h) (with_grant g grants) ≡ list_any (same_grant h) grants
    at true e = rw e refl
    at false e = rw e (any_order grant_key (same_grant h) (g ∷ grants) ∙ ap (λ b. b || list_any (same_grant h) grants) apart)

middle_false : (a b c : Bool) → b ≡ false → a && b && c ≡ false
middle_false true true c e = absurd (clash (sym e))
middle_false true false c e = refl
middle_false false b c e = refl

pub other_scope : (h g : Grant) → same_scope h.scope g.scope ≡ false → same_grant h g ≡ false
other_scope h g e = middle_false (same h.user g.user) (same_scope h.scope g.scope) (same_permission h.permission g.permission) e

pub other_name : (a b : Text) → (a ≡ b → ⊥) → same a b ≡ false
other_name a b apart = at (same a b) refl
  where
    at : (c : Bool) → same a b ≡ c → same a b ≡ false
    at true e = absurd (apart (same-eq a b e))
    at false e = e

pub or_true : (a b : Bool) → b ≡ true → (a || b) ≡ true
or_true true b e = refl
or_true false b e = e

pub by_namespace : (f g : Text → Bool) (found : Option Text) → ((m : Text) → found ≡ Some m → f m ≡ g m) → option_map_or f found false ≡ option_map_or g found false
by_namespace f g None same = refl
by_namespace f g (Some m) same = same m refl

pub mapped_back : {X Y : Type 0} (f : X → Y) (g : Y → X) → ((x : X) → g (f x) ≡ x) → (xs : List X) → map g (map f xs) ≡ xs
mapped_back f g is [] = refl
mapped_back f g is (x ∷ xs) = ap (λ y. y ∷ map g (map f xs)) (is x) ∙ ap (λ ys. x ∷ ys) (mapped_back f g is xs)

abbrev pub given_of : {A : Type 0} → Directory A → Scope → Text → Grantee A
given_of d scope user = record { user = user; permissions = held_on d scope user }

pub named_back : {A : Type 0} (d : Directory A) (scope : Scope) → map (λ (given : Grantee A). given.user) (grants_on d scope) ≡ granted_on d scope
named_back {A} d scope = mapped_back (given_of d scope) (λ (given : Grantee A). given.user) (λ user. refl) (granted_on d scope)
