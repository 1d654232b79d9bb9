-- Proofs, which no reader has to believe: a grant's key tells it apart.
use Rattle.std.proofs.Common.{arith, ◌≡◌, [], ◌∷◌, Bool, true, false, ◌&&◌}
use Rattle.std.proofs.Common.{refl, sym, ap, subst}
use Rattle.std.specs.Prelude.{slice_index_or}
use Rattle.std.proofs.lemmas.Bool.{eqb-true, eq-eqb}
use Rattle.st_text.specs.Texts.{same}
use Rattle.st_text.proofs.Same.{same-eq, same-refl}
use Rattle.st_grant.specs.Grants.{same_scope, same_grant}
use Rattle.st_grant.specs.Order.{grant_key, scope_kind, scope_name}
use Rattle.st_grant.specs.Permissions.{place_of, same_permission}
use Rattle.st_grant.specs.declared.grant.Grant.{Grant}
use Rattle.st_grant.specs.declared.grant.Scope.{Scope}
use Rattle.st_grant.specs.declared.grant.Scope.TheVariants.{OnTable, OnNamespace}

pub and_second : (a b c : Bool) → a && b && c ≡ true → b ≡ true
and_second true true c e = refl
and_second true false c e = e
and_second false b c e = absurd (let f : false ≡ true = e in cc)

scopes_kind : (s r : Scope) → same_scope s r ≡ true → scope_kind r ≡ scope_kind s
scopes_kind (OnTable t) (OnTable u) e = refl
scopes_kind (OnTable t) (OnNamespace u) e = absurd (let f : false ≡ true = e in cc)
scopes_kind (OnNamespace t) (OnTable u) e = absurd (let f : false ≡ true = e in cc)
scopes_kind (OnNamespace t) (OnNamespace u) e = refl

scopes_name : (s r : Scope) → same_scope s r ≡ true → scope_name r ≡ scope_name s
scopes_name (OnTable t) (OnTable u) e = sym (same-eq t u e)
scopes_name (OnTable t) (OnNamespace u) e = absurd (let f : false ≡ true = e in cc)
scopes_name (OnNamespace t) (OnTable u) e = absurd (let f : false ≡ true = e in cc)
scopes_name (OnNamespace t) (OnNamespace u) e = sym (same-eq t u e)

and_left : (a b c : Bool) → a && b && c ≡ true → a ≡ true
and_left true b c e = refl
and_left false b c e = e

and_third : (a b c : Bool) → a && b && c ≡ true → c ≡ true
and_third true true c e = e
and_third true false c e = absurd (let f : false ≡ true = e in cc)
and_third false b c e = absurd (let f : false ≡ true = e in cc)

pub grant_exact : (g h : Grant) → same_grant g h ≡ true → grant_key h ≡ grant_key g
grant_exact g h e =
    let users = same g.user h.user in
    let scopes = same_scope g.scope h.scope in
    let permissions = same_permission g.permission h.permission in
    let user = sym (same-eq g.user h.user (and_left users scopes permissions e)) in
    let scope = and_second users scopes permissions e in
    let place = sym (eqb-true (place_of g.permission) (place_of h.permission) (and_third users scopes permissions e)) in
    let kind = scopes_kind g.scope h.scope scope in
    let name = scopes_name g.scope h.scope scope in
    λ i. kind i ∷ name i ∷ user i ∷ (place i ∷ []) ∷ []

same_by_key : (s r : Scope) → scope_kind r ≡ scope_kind s → scope_name r ≡ scope_name s → same_scope s r ≡ true
same_by_key (OnTable t) (OnTable u) k n = subst (λ v. same t v ≡ true) (sym n) (same-refl t)
same_by_key (OnTable t) (OnNamespace u) k n = absurd (let f : 1 ≡ 0 = ap (λ ts. slice_index_or ts 0 5) k in omega (f, arith))
same_by_key (OnNamespace t) (OnTable u) k n = absurd (let f : 0 ≡ 1 = ap (λ ts. slice_index_or ts 0 5) k in omega (f, arith))
same_by_key (OnNamespace t) (OnNamespace u) k n = subst (λ v. same t v ≡ true) (sym n) (same-refl t)

three : (a b c : Bool) → a ≡ true → b ≡ true → c ≡ true → a && b && c ≡ true
three a b c e f g = rw e (rw f g)

pub grant_own : (g h : Grant) → grant_key h ≡ grant_key g → same_grant g h ≡ true
grant_own g h e =
    three (same g.user h.user) (same_scope g.scope h.scope) (same_permission g.permission h.permission)
    (subst (λ v. same g.user v ≡ true) (sym (ap (λ ts. slice_index_or ts 2 []) e)) (same-refl g.user))
    (same_by_key g.scope h.scope (ap (λ ts. slice_index_or ts 0 []) e) (ap (λ ts. slice_index_or ts 1 []) e))
    (eq-eqb (place_of g.permission) (place_of h.permission) (sym (ap (λ ts. slice_index_or (slice_index_or ts 3 []) 0 0) e)))
