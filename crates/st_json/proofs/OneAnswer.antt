-- A body has one answer.
use Rattle.std.proofs.Common.{◌≡◌, ◌≢◌, ◌⊎◌, inl, inr, ℕ, Bool, true, false, List, [], ◌∷◌, codes, Option, Some, None, Result, Ok, Err, refl, sym, ap, ◌∙◌, subst}
use Rattle.std.specs.Prelude.{IsTrue}
use Rattle.serde_json.specs.Data.{Data, null}
use Rattle.serde_json.specs.Find.{get}
use Rattle.st_key.specs.declared.place.Place.{Place}
use Rattle.st_label.specs.Reading.{IsLabel}
use Rattle.st_label.specs.Refusals.{max_len}
use Rattle.st_label.specs.Faults.{RefusesLabel}
use Rattle.st_label.specs.declared.label.LabelFault.{LabelFault}
use Rattle.st_label.specs.declared.label.LabelFault.TheVariants as fault
use Rattle.st_label.proofs.Refused.{not_both, one_fault}
use Rattle.st_http.specs.declared.routes.Endpoint.{Endpoint}
use Rattle.st_text.specs.Names.{is_name, is_table_name}
use Rattle.st_http.specs.declared.routes.Endpoint.TheVariants as endpoints
use Rattle.st_policy.specs.declared.refusal.Refusal.{Refusal}
use Rattle.st_policy.specs.declared.refusal.Refusal.TheVariants.{BadLabel}
use Rattle.st_json.specs.declared.value.Bounds.{Bounds}
use Rattle.st_json.specs.Needs.{Rule, Has, Needs, given, denied}
use Rattle.st_json.specs.Fields.{HasBox, HasPoint, WritesPlace, HasAfter, text_in, six_numbers}
use Rattle.st_json.specs.Rules.{RefusesAt, LabelOf, IsQuery}
use Rattle.st_json.specs.Bodies.{ReadBody, has_body, Made, Decoded}
use Rattle.st_json.proofs.Chosen.{IsObject, AreAuths}
use Rattle.st_json.proofs.Same.{same_point, same_place, same_query}

abbrev OnlyOne : {B : Type 0} → (B → Type 0) → Type 0
OnlyOne {B} P = (b c : B) → P b → P c → b ≡ c

-- one value with P, or the refusal
one_has : {B : Type 0} (refusal : Refusal) (P : B → Type 0) → OnlyOne P → OnlyOne (Has refusal P)
one_has refusal P one (Ok b) (Ok c) p q = ap Ok (one b c p q)
one_has refusal P one (Ok b) (Err s) p q = absurd (q.1 b p)
one_has refusal P one (Err r) (Ok c) p q = absurd (p.1 c q)
one_has refusal P one (Err r) (Err s) p q = ap Err (p.0 ∙ sym q.0)

abbrev Given : Type 0 → Type 0
Given B = Result B Refusal

value_of : {B : Type 0} (b c : B) (r s : Given B) → r ≡ Ok b → s ≡ Ok c → r ≡ s → b ≡ c
value_of b c r s f g same = cc

one_needs : {B R : Type 0} (rule : Rule B) (next : B → Rule R) → OnlyOne rule → ((b : B) → OnlyOne (next b)) → OnlyOne (Needs rule next)
one_needs rule next one rest _ _ (given b x p n) (given c y q m) = rest c x y (subst (λ d. next d x) (value_of b c (Ok b) (Ok c) refl refl (one (Ok b) (Ok c) p q)) n) m
one_needs rule next one rest _ _ (given b x p n) (denied s q) = let same : Ok b ≡ Err s = one (Ok b) (Err s) p q in cc
one_needs rule next one rest _ _ (denied r p) (given c y q m) = let same : Err r ≡ Ok c = one (Err r) (Ok c) p q in cc
one_needs rule next one rest _ _ (denied r p) (denied s q) = let same : Err r ≡ Err s = one (Err r) (Err s) p q in cc

-- ---- a text is a label, or is refused at one place

abbrev place_of : LabelFault → ℕ
place_of (fault.BadLabel at) = at
place_of fault.TooLong = max_len
place_of (fault.TooDeep at) = at
place_of fault.NoMemory = max_len

record Told (text : List ℕ) (at : ℕ) : Type 0 where
  why : LabelFault
  known : why ≢ fault.NoMemory
  refuses : RefusesLabel text why
  place : place_of why ≡ at

told : (text : List ℕ) (at : ℕ) → RefusesAt text at → Told text at
told text at (inl bad) = record { why = fault.BadLabel at; known = λ e. cc; refuses = bad; place = refl }
told text at (inr (inl deep)) = record { why = fault.TooDeep at; known = λ e. cc; refuses = deep; place = refl }
told text at (inr (inr (long, is))) = record { why = fault.TooLong; known = λ e. cc; refuses = long; place = sym is }

one_place : (text : List ℕ) (a b : ℕ) → Told text a → Told text b → a ≡ b
one_place text a b x y = sym x.place ∙ ap place_of (one_fault text x.why y.why x.known y.known x.refuses y.refuses) ∙ y.place

no_place : (text : List ℕ) (at : ℕ) → IsLabel text → Told text at → ⊥
no_place text at is x = not_both text x.why x.known is x.refuses

one_label : (text : List ℕ) → OnlyOne (LabelOf text)
one_label text (Ok b) (Ok c) p q = ap Ok (p.0 ∙ sym q.0)
one_label text (Ok b) (Err s) p q = absurd (no_place text q.0 p.1 (told text q.0 q.2))
one_label text (Err r) (Ok c) p q = absurd (no_place text p.0 q.1 (told text p.0 p.2))
one_label text (Err r) (Err s) p q = ap Err (p.1 ∙ ap BadLabel (one_place text p.0 q.0 (told text p.0 p.2) (told text q.0 q.2)) ∙ sym q.1)

-- ---- one value of each kind

one_some : {U : Type 0} (o : Option U) → OnlyOne (λ u. o ≡ Some u)
one_some o b c p q = cc

one_equal : {U : Type 0} (u : U) → OnlyOne (λ a. a ≡ u)
one_equal u b c p q = p ∙ sym q

one_table : (text : List ℕ) → OnlyOne (λ (t : List ℕ). (t ≡ text) × IsTrue (is_table_name text))
one_table text b c p q = p.0 ∙ sym q.0

one_name : (text : List ℕ) → OnlyOne (λ (t : List ℕ). (t ≡ text) × IsTrue (is_name text))
one_name text b c p q = p.0 ∙ sym q.0

one_set : (names : List (List ℕ)) → OnlyOne (AreAuths names)
one_set names b c p q = p.0 ∙ sym q.0

one_query : (b : Bounds) → OnlyOne (IsQuery b)
one_query b p q f g = same_query p q (f.0 ∙ sym g.0) (f.1 ∙ sym g.1) (f.2 ∙ sym g.2) (f.3 ∙ sym g.3) (f.4 ∙ sym g.4) (f.5 ∙ sym g.5)

one_box : (d : Data) → OnlyOne (HasBox d)
one_box d b c p q =
    let all : Some (six_numbers b) ≡ Some (six_numbers c) = sym p ∙ q in
    let make : ℕ → ℕ → ℕ → ℕ → ℕ → ℕ → Bounds = λ k l m n o r. record { x0 = k; x1 = l; y0 = m; y1 = n; t0 = o; t1 = r } in
    let e0 : b.x0 ≡ c.x0 = cc in let e1 : b.x1 ≡ c.x1 = cc in let e2 : b.y0 ≡ c.y0 = cc in
    let e3 : b.y1 ≡ c.y1 = cc in let e4 : b.t0 ≡ c.t0 = cc in let e5 : b.t1 ≡ c.t1 = cc in
    let whole : make b.x0 b.x1 b.y0 b.y1 b.t0 b.t1 ≡ make c.x0 c.x1 c.y0 c.y1 c.t0 c.t1 = rw (e0, e1, e2, e3, e4, e5) in
    whole

one_point : (d : Data) → OnlyOne (HasPoint d)
one_point d p q f g = let all : Some (p.x ∷ p.y ∷ p.t ∷ []) ≡ Some (q.x ∷ q.y ∷ q.t ∷ []) = sym f ∙ g in same_point p q (cc) (cc) (cc)

one_place_of : {A : Type 0} (d : Data) → OnlyOne (WritesPlace {A = A} d)
one_place_of d p q f g =
    let point : p.point ≡ q.point = one_point d p.point q.point f.point g.point in
    let id : p.id ≡ q.id = one_some _ p.id q.id f.id g.id in
    let label : p.label ≡ q.label = one_some _ p.label q.label f.label g.label in
    same_place p q point id label

-- what is left out is no place
no_place_left : {A : Type 0} (d value : Data) (p : Place A) → (get (codes "after") d ≡ None) ⊎ (get (codes "after") d ≡ Some null) → get (codes "after") d ≡ Some value → WritesPlace value p → ⊥
no_place_left d value p (inl absent) there is = let both : Some value ≡ None = sym there ∙ absent in cc
no_place_left d value p (inr null_there) there is =
    let both : Some value ≡ Some null = sym there ∙ null_there in
    let same : value ≡ null = cc in
    let id : text_in (codes "id") null ≡ Some p.id = subst (λ v. text_in (codes "id") v ≡ Some p.id) same is.id in
    cc

one_after : {A : Type 0} (d : Data) → OnlyOne (HasAfter {A = A} d)
one_after d None None f g = refl
one_after d None (Some q) f g = absurd (no_place_left d g.0 q f g.1 g.2)
one_after d (Some p) None f g = absurd (no_place_left d f.0 p g f.1 f.2)
one_after d (Some p) (Some q) f g =
    let both : Some f.0 ≡ Some g.0 = sym f.1 ∙ g.1 in
    let same : f.0 ≡ g.0 = cc in
    ap Some (one_place_of g.0 p q (subst (λ v. WritesPlace v p) same f.2) g.2)

one_object : (body : List ℕ) → OnlyOne (IsObject body)
one_object body d e f g = let s : Some d ≡ Some e = sym f.1 ∙ g.1 in cc

-- ---- the fields and what they make

one_field : {U : Type 0} (refusal : Refusal) (o : Option U) → OnlyOne (Has refusal (λ u. o ≡ Some u))
one_field refusal o = one_has _ _ (one_some o)

one_body : (is_read : Bool) (body : List ℕ) → OnlyOne (ReadBody is_read body)
one_body true body = one_has _ _ (one_object body)
one_body false body = one_equal _

-- ---- the endpoints

one_made : (A : Type 0) (l : Endpoint) (name : List ℕ) (d : Data) → OnlyOne (Made {A = A} l name d)
one_made A endpoints.Whoami name d = one_equal _
one_made A endpoints.Tables name d = one_equal _
one_made A endpoints.Users name d = one_equal _
one_made A endpoints.User name d = one_needs _ _ (one_has _ _ (one_name name)) (λ user. one_equal _)
one_made A endpoints.Grants name d = one_needs _ _ (one_has _ _ (one_table name)) (λ table. one_equal _)
one_made A endpoints.NamespaceGrants name d = one_needs _ _ (one_has _ _ (one_name name)) (λ namespace. one_equal _)
one_made A endpoints.Label name d = one_needs _ _ (one_field _ _) (λ text. one_needs _ _ (one_label text) (λ label. one_equal _))
one_made A endpoints.Audit name d = one_equal _
one_made A endpoints.Get name d =
    one_needs _ _ (one_field _ _)
    (λ id. one_needs _ _ (one_field _ _)
    (λ texts. one_needs _ _ (one_has _ _ (one_table name)) (λ table. one_needs _ _ (one_has _ _ (one_set texts)) (λ auths. one_equal _))))
one_made A endpoints.Scan name d =
    one_needs _ _ (one_has _ _ (one_box d))
    (λ bounds. one_needs _ _ (one_field _ _)
    (λ texts. one_needs _ _ (one_field _ _)
    (λ limit. one_needs _ _ (one_has _ _ (one_after d))
    (λ after. one_needs _ _ (one_has _ _ (one_query bounds))
    (λ query. one_needs _ _ (one_has _ _ (one_table name)) (λ table. one_needs _ _ (one_has _ _ (one_set texts)) (λ auths. one_equal _)))))))
one_made A endpoints.Count name d =
    one_needs _ _ (one_has _ _ (one_box d))
    (λ bounds. one_needs _ _ (one_field _ _)
    (λ texts. one_needs _ _ (one_has _ _ (one_query bounds))
    (λ query. one_needs _ _ (one_has _ _ (one_table name)) (λ table. one_needs _ _ (one_has _ _ (one_set texts)) (λ auths. one_equal _)))))
one_made A endpoints.Grid name d =
    one_needs _ _ (one_has _ _ (one_box d))
    (λ bounds. one_needs _ _ (one_field _ _)
    (λ texts. one_needs _ _ (one_field _ _)
    (λ columns. one_needs _ _ (one_field _ _)
    (λ rows. one_needs _ _ (one_has _ _ (one_query bounds))
    (λ query. one_needs _ _ (one_has _ _ (one_table name)) (λ table. one_needs _ _ (one_has _ _ (one_set texts)) (λ auths. one_equal _)))))))
one_made A endpoints.Plan name d =
    one_needs _ _ (one_has _ _ (one_box d))
    (λ bounds. one_needs _ _ (one_field _ _)
    (λ budget. one_needs _ _ (one_has _ _ (one_query bounds)) (λ query. one_needs _ _ (one_has _ _ (one_table name)) (λ table. one_equal _))))
one_made A endpoints.Put name d =
    one_needs _ _ (one_field _ _)
    (λ id. one_needs _ _ (one_has _ _ (one_point d))
    (λ point. one_needs _ _ (one_field _ _)
    (λ text. one_needs _ _ (one_field _ _)
    (λ note. one_needs _ _ (one_label text) (λ label. one_needs _ _ (one_has _ _ (one_table name)) (λ table. one_equal _))))))
one_made A endpoints.Delete name d =
    one_needs _ _ (one_field _ _)
    (λ id. one_needs _ _ (one_field _ _)
    (λ text. one_needs _ _ (one_label text) (λ label. one_needs _ _ (one_has _ _ (one_table name)) (λ table. one_equal _))))
one_made A endpoints.CreateTable name d = one_needs _ _ (one_field _ _) (λ text. one_needs _ _ (one_field _ _) (λ period. one_needs _ _ (one_has _ _ (one_table text)) (λ table. one_equal _)))
one_made A endpoints.DropTable name d = one_needs _ _ (one_has _ _ (one_table name)) (λ table. one_equal _)
one_made A endpoints.Constraint name d = one_needs _ _ (one_field _ _) (λ on. one_needs _ _ (one_has _ _ (one_table name)) (λ table. one_equal _))
one_made A endpoints.Period name d = one_needs _ _ (one_field _ _) (λ period. one_needs _ _ (one_has _ _ (one_table name)) (λ table. one_equal _))
one_made A endpoints.CreateUser name d =
    one_needs _ _ (one_field _ _)
    (λ text. one_needs _ _ (one_field _ _)
    (λ digest. one_needs _ _ (one_field _ _)
    (λ texts. one_needs _ _ (one_has _ _ (one_name text)) (λ user. one_needs _ _ (one_has _ _ (one_set texts)) (λ auths. one_equal _)))))
one_made A endpoints.DropUser name d = one_needs _ _ (one_has _ _ (one_name name)) (λ user. one_equal _)
one_made A endpoints.Token name d = one_needs _ _ (one_field _ _) (λ digest. one_needs _ _ (one_has _ _ (one_name name)) (λ user. one_equal _))
one_made A endpoints.Auths name d = one_needs _ _ (one_field _ _) (λ texts. one_needs _ _ (one_has _ _ (one_name name)) (λ user. one_needs _ _ (one_has _ _ (one_set texts)) (λ auths. one_equal _)))
one_made A endpoints.GrantSystem name d = one_needs _ _ (one_field _ _) (λ p. one_needs _ _ (one_has _ _ (one_name name)) (λ user. one_equal _))
one_made A endpoints.RevokeSystem name d = one_needs _ _ (one_field _ _) (λ p. one_needs _ _ (one_has _ _ (one_name name)) (λ user. one_equal _))
one_made A endpoints.GrantTable name d =
    one_needs _ _ (one_field _ _)
    (λ text. one_needs _ _ (one_field _ _)
    (λ p. one_needs _ _ (one_has _ _ (one_table name)) (λ table. one_needs _ _ (one_has _ _ (one_name text)) (λ user. one_equal _))))
one_made A endpoints.RevokeTable name d =
    one_needs _ _ (one_field _ _)
    (λ text. one_needs _ _ (one_field _ _)
    (λ p. one_needs _ _ (one_has _ _ (one_table name)) (λ table. one_needs _ _ (one_has _ _ (one_name text)) (λ user. one_equal _))))
one_made A endpoints.GrantNamespace name d =
    one_needs _ _ (one_field _ _)
    (λ text. one_needs _ _ (one_field _ _)
    (λ p. one_needs _ _ (one_has _ _ (one_name name)) (λ namespace. one_needs _ _ (one_has _ _ (one_name text)) (λ user. one_equal _))))
one_made A endpoints.RevokeNamespace name d =
    one_needs _ _ (one_field _ _)
    (λ text. one_needs _ _ (one_field _ _)
    (λ p. one_needs _ _ (one_has _ _ (one_name name)) (λ namespace. one_needs _ _ (one_has _ _ (one_name text)) (λ user. one_equal _))))

pub one_answer : (A : Type 0) (l : Endpoint) (name body : List ℕ) → OnlyOne (Decoded {A = A} l name body)
one_answer A l name body = one_needs _ _ (one_body (has_body l) body) (λ d. one_made A l name d)
