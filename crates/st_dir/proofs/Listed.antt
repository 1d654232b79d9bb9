-- What is granted is in the listing.
use Rattle.std.proofs.Common.{◌≡◌, List, [], ◌∷◌, filter, Bool, true, false, ◌&&◌, refl, sym, ◌∙◌, subst}
use Rattle.std.specs.Prelude.{ℕ, nat_eq}
use Rattle.std.specs.List.{list_any}
use Rattle.std.proofs.lemmas.Bool.{eqb-true}
use Rattle.st_text.specs.Texts.{Text, same}
use Rattle.st_text.proofs.Same.{same-eq}
use Rattle.st_dir.specs.Changes.{granted}
use Rattle.st_dir.specs.Directory.{Directory, is_granted}
use Rattle.st_grant.specs.Grants.{grant_of, same_scope}
use Rattle.st_dir.specs.Listings.{granted_on, grants_on, held_on}
use Rattle.st_dir.specs.inner.Shown.{lists}
use Rattle.st_grant.specs.Permissions.{place_of, same_permission, table_permission, table_permissions}
use Rattle.st_grant.specs.declared.grant.Grant.{Grant}
use Rattle.st_grant.specs.declared.grant.Scope.{Scope}
use Rattle.st_grant.specs.declared.permission.Permission.{Permission}
use Rattle.st_grant.specs.declared.table_permission.TablePermission.{TablePermission}
use Rattle.st_grant.specs.inner.Keys.{and_second}
use Rattle.st_dir.proofs.Keys.{and_first}
use Rattle.st_dir.proofs.Laws.{given_of, held_with}
use Rattle.st_dir.proofs.Sets.{list_any-map}
use Rattle.st_grant.proofs.Sets.{among_set, among_users, users_on}
use Rattle.st_sorted.proofs.Sorted.{clash}

module _ {X : Type 0} (test other : X → Bool) (holds : (x : X) → test x ≡ true → other x ≡ true) where
  -- an item that passes the one test passes the other
  any_other : (xs : List X) → list_any test xs ≡ true → list_any other xs ≡ true
  any_other [] e = e
  any_other (x ∷ xs) e = at (test x) refl (other x) refl (any_other xs)
    where
      at : (b : Bool) → test x ≡ b → (c : Bool) → other x ≡ c → (list_any test xs ≡ true → list_any other xs ≡ true) → list_any other (x ∷ xs) ≡ true
      at b f true k ih = simp k
      at true f false k ih = absurd (clash (sym k ∙ holds x f))
      at false f false k ih = let h = ih (simp f at e) in simp (k, h)

  -- an item that passes is kept
  any_kept : (xs : List X) → list_any test xs ≡ true → list_any test (filter other xs) ≡ true
  any_kept [] e = e
  any_kept (x ∷ xs) e = at (test x) refl (other x) refl (any_kept xs)
    where
      at : (b : Bool) → test x ≡ b → (c : Bool) → other x ≡ c → (list_any test xs ≡ true → list_any test (filter other xs) ≡ true)
          → list_any test (filter other (x ∷ xs)) ≡ true
      at true f true k ih = simp (k, f)
      at true f false k ih = absurd (clash (sym k ∙ holds x f))
      at false f true k ih = let h = ih (simp f at e) in simp (k, f, h)
      at false f false k ih = let h = ih (simp f at e) in simp (k, h)

both : (a b : Bool) → a ≡ true → b ≡ true → a && b ≡ true
both a b e f = rw e f

swapped : (a b c : Bool) → a && b && c ≡ true → b && a ≡ true
swapped a b c e = both b a (and_second a b c e) (and_first a b (and_first (a && b) c e))

-- it is one of the table permissions
listed_there : (p : TablePermission) → list_any (same_permission (table_permission p)) table_permissions ≡ true
listed_there TablePermission.Read = refl
listed_there TablePermission.Write = refl
listed_there TablePermission.AlterTable = refl
listed_there TablePermission.Grant = refl
listed_there TablePermission.DropTable = refl

module _ {A : Type 0} (d : Directory A) (user : Text) (scope : Scope) where
  -- a permission of the same place is granted too
  same_place : (p q : Permission) → is_granted d user scope p ≡ true → same_permission p q ≡ true → is_granted d user scope q ≡ true
  same_place p q e same_one =
      subst (λ (place : ℕ). list_any (λ (h : Grant). same user h.user && same_scope scope h.scope && nat_eq place (place_of h.permission)) d.grants ≡ true)
      (eqb-true (place_of p) (place_of q) same_one) e

  is_held : (p : TablePermission) → is_granted d user scope (table_permission p) ≡ true
      → list_any (same_permission (table_permission p)) (held_on d scope user) ≡ true
  is_held p e =
      any_kept (same_permission (table_permission p)) (λ q. is_granted d user scope q) (λ q. same_place (table_permission p) q e)
      table_permissions (listed_there p)

  is_named : (p : Permission) → is_granted d user scope p ≡ true → list_any (same user) (granted_on d scope) ≡ true
  is_named p e =
      among_set (users_on scope d.grants) user ∙ among_users scope d.grants user
      ∙ any_other (λ (h : Grant). same user h.user && same_scope scope h.scope && same_permission p h.permission)
      (λ (h : Grant). same_scope scope h.scope && same user h.user)
      (λ h. swapped (same user h.user) (same_scope scope h.scope) (same_permission p h.permission)) d.grants e

  is_listed : (p : TablePermission) → is_granted d user scope (table_permission p) ≡ true → lists user (table_permission p) (grants_on d scope) ≡ true
  is_listed p e =
      list_any-map (λ given. same user given.user && list_any (same_permission (table_permission p)) given.permissions) (given_of d scope) (granted_on d scope)
      ∙ any_other (same user) (λ name. same user name && list_any (same_permission (table_permission p)) (held_on d scope name))
      (λ name f. both (same user name) (list_any (same_permission (table_permission p)) (held_on d scope name)) f
      (subst (λ text. list_any (same_permission (table_permission p)) (held_on d scope text) ≡ true) (same-eq user name f) (is_held p e)))
      (granted_on d scope) (is_named (table_permission p) e)

pub granted_listed : {A : Type 0} (d : Directory A) (user : Text) (scope : Scope) (p : TablePermission)
    → lists user (table_permission p) (grants_on (granted user scope (table_permission p) d) scope) ≡ true
granted_listed d user scope p =
    is_listed (granted user scope (table_permission p) d) user scope p (held_with (grant_of user scope (table_permission p)) d.grants)
