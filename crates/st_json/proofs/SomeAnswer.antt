-- A body has an answer.
use Rattle.std.proofs.Common.{◌≡◌, ◌≢◌, leb, inl, inr, ℕ, ◌<◌, ◌≤◌, ◌^◌, ◌⊎◌, Bool, true, false, List, [], ◌∷◌, codes, Option, Some, None, Result, Ok, Err, IsUtf8, refl, sym, ◌∙◌, subst, arith}
use Rattle.std.specs.Prelude.{IsTrue}
use Rattle.std.specs.Str.{is_utf8}
use Rattle.std.proofs.lemmas.Bool.Decides.{leb_tells}
use Rattle.std.proofs.lemmas.Str.{IsUtf8-from_is_utf8, is_utf8-from_IsUtf8}
use Rattle.serde_json.specs.Data.{Data, Members, null, boolean, number, string, array, object}
use Rattle.serde_json.specs.Find.{get}
use Rattle.serde_json.specs.Read.{read}
use Rattle.st_key.specs.declared.place.Place.{Place}
use Rattle.st_key.specs.declared.point.Point.{Point}
use Rattle.st_label.specs.Reading.{IsLabel}
use Rattle.st_label.specs.Refusals.{max_len}
use Rattle.st_label.specs.Faults.{RefusesLabel}
use Rattle.st_label.specs.declared.label.LabelFault.{LabelFault}
use Rattle.st_label.specs.declared.label.LabelFault.TheVariants as fault
use Rattle.st_label.proofs.Refused.{label_or_refused}
use Rattle.st_http.specs.declared.routes.Endpoint.{Endpoint}
use Rattle.st_http.specs.declared.routes.Endpoint.TheVariants as endpoints
use Rattle.st_auth.specs.Names.{first_bad}
use Rattle.st_text.specs.Names.{is_name, is_table_name}
use Rattle.st_policy.specs.declared.refusal.Refusal.{Refusal}
use Rattle.st_policy.specs.declared.refusal.Refusal.TheVariants.{BadLabel}
use Rattle.st_json.specs.declared.value.Bounds.{Bounds}
use Rattle.st_json.specs.Needs.{Rule, Has, Needs, given, denied}
use Rattle.st_json.specs.Fields.{HasBox, HasPoint, WritesPlace, HasAfter, text_in, six_numbers, as_natural, list_in}
use Rattle.st_json.specs.Rules.{LabelOf, IsQuery}
use Rattle.st_json.specs.Bodies.{ReadBody, has_body, Made, Decoded}
use Rattle.st_json.proofs.Chosen.{IsObject, AreAuths}

order : (a b : ℕ) → (a < b) ⊎ (b ≤ a)
order a b = go (leb_tells b a)
  where
    go : ((leb b a ≡ true) × (b ≤ a)) ⊎ ((leb b a ≡ false) × (a < b)) → (a < b) ⊎ (b ≤ a)
    go (inl (is, at_most)) = inr at_most
    go (inr (is, below)) = inl below

abbrev HasAnswer : {B : Type 0} → Rule B → Type 0
HasAnswer {B} rule = (answer : Result B Refusal) × rule answer

abbrev SomeOrNone : {B : Type 0} → (B → Type 0) → Type 0
SomeOrNone {B} P = ((b : B) × P b) ⊎ ((b : B) → P b → ⊥)

some_has : {B : Type 0} (refusal : Refusal) (P : B → Type 0) → SomeOrNone P → HasAnswer (Has refusal P)
some_has refusal P (inl (b, p)) = (Ok b, p)
some_has refusal P (inr never) = (Err refusal, (refl, never))

some_needs : {B R : Type 0} (rule : Rule B) (next : B → Rule R) → HasAnswer rule → ((b : B) → HasAnswer (next b)) → HasAnswer (Needs rule next)
some_needs rule next (Ok b, p) rest = let r = rest b in (r.0, given b r.0 p r.1)
some_needs rule next (Err refusal, p) rest = (Err refusal, denied refusal p)

some_equal : {B : Type 0} (answer : Result B Refusal) → HasAnswer (λ (a : Result B Refusal). a ≡ answer)
some_equal answer = (answer, refl)

-- ---- a text is a label, or is refused

some_label : (text : List ℕ) → HasAnswer (LabelOf text)
some_label text = go (label_or_refused text)
  where
    go : IsLabel text ⊎ ((why : LabelFault) × (why ≢ fault.NoMemory) × RefusesLabel text why) → HasAnswer (LabelOf text)
    go (inl is) = (Ok text, (refl, is))
    go (inr (fault.BadLabel at, known, refuses)) = (Err (BadLabel at), (at, refl, inl refuses))
    go (inr (fault.TooDeep at, known, refuses)) = (Err (BadLabel at), (at, refl, inr (inl refuses)))
    go (inr (fault.TooLong, known, refuses)) = (Err (BadLabel max_len), (max_len, refl, inr (inr (refuses, refl))))
    go (inr (fault.NoMemory, known, refuses)) = absurd (known refl)

-- ---- a value of each kind, or none

there_or_not : {U : Type 0} (o : Option U) → SomeOrNone (λ (u : U). o ≡ Some u)
there_or_not None = inr (λ u e. cc)
there_or_not (Some u) = inl (u, refl)

text_if : (text : List ℕ) (is : Bool) → SomeOrNone (λ (t : List ℕ). (t ≡ text) × (is ≡ true))
text_if text true = inl (text, (refl, refl))
text_if text false = inr (λ t p. let e : false ≡ true = p.1 in cc)

table_or_not : (text : List ℕ) → SomeOrNone (λ (t : List ℕ). (t ≡ text) × IsTrue (is_table_name text))
table_or_not text = text_if text (is_table_name text)

name_or_not : (text : List ℕ) → SomeOrNone (λ (t : List ℕ). (t ≡ text) × IsTrue (is_name text))
name_or_not text = text_if text (is_name text)

texts_if : (texts : List (List ℕ)) (bad : Option ℕ) → SomeOrNone (λ (auths : List (List ℕ)). (auths ≡ texts) × (bad ≡ None))
texts_if texts None = inl (texts, (refl, refl))
texts_if texts (Some at) = inr (λ auths p. let e : Some at ≡ None = p.1 in cc)

auths_or_not : (texts : List (List ℕ)) → SomeOrNone (AreAuths texts)
auths_or_not texts = texts_if texts (first_bad texts)

six_or_not : (o : Option (List ℕ)) → SomeOrNone (λ (b : Bounds). o ≡ Some (six_numbers b))
six_or_not None = inr (λ b e. cc)
six_or_not (Some []) = inr (λ b e. cc)
six_or_not (Some (k ∷ [])) = inr (λ b e. cc)
six_or_not (Some (k ∷ l ∷ [])) = inr (λ b e. cc)
six_or_not (Some (k ∷ l ∷ m ∷ [])) = inr (λ b e. cc)
six_or_not (Some (k ∷ l ∷ m ∷ n ∷ [])) = inr (λ b e. cc)
six_or_not (Some (k ∷ l ∷ m ∷ n ∷ o ∷ [])) = inr (λ b e. cc)
six_or_not (Some (k ∷ l ∷ m ∷ n ∷ o ∷ r ∷ [])) = inl (record { x0 = k; x1 = l; y0 = m; y1 = n; t0 = o; t1 = r }, refl)
six_or_not (Some (k ∷ l ∷ m ∷ n ∷ o ∷ r ∷ s ∷ more)) = inr (λ b e. cc)

box_or_not : (d : Data) → SomeOrNone (HasBox d)
box_or_not d = six_or_not (list_in as_natural (codes "box") d)

abbrev At : ℕ → ℕ → ℕ → Point → Type 0
At x y t p = Some (x ∷ y ∷ t ∷ []) ≡ Some (p.x ∷ p.y ∷ p.t ∷ [])

at_or_not : (x y t : ℕ) → SomeOrNone (At x y t)
at_or_not x y t = go (order x (2 ^ 21)) (order y (2 ^ 21)) (order t 19818086400)
  where
    go : (x < 2 ^ 21) ⊎ (2 ^ 21 ≤ x) → (y < 2 ^ 21) ⊎ (2 ^ 21 ≤ y) → (t < 19818086400) ⊎ (19818086400 ≤ t) → SomeOrNone (At x y t)
    go (inl fx) (inl fy) (inl ft) = inl (record { x = x; y = y; t = t; x_in_range = fx; y_in_range = fy; t_in_range = ft }, refl)
    go (inr never) fy ft = inr (λ p e. let s : x ≡ p.x = cc in omega (arith, never, s, p.x_in_range))
    go (inl fx) (inr never) ft = inr (λ p e. let s : y ≡ p.y = cc in omega (arith, never, s, p.y_in_range))
    go (inl fx) (inl fy) (inr never) = inr (λ p e. let s : t ≡ p.t = cc in omega (arith, never, s, p.t_in_range))

three_or_not : (o : Option (List ℕ)) → SomeOrNone (λ (p : Point). o ≡ Some (p.x ∷ p.y ∷ p.t ∷ []))
three_or_not None = inr (λ p e. cc)
three_or_not (Some []) = inr (λ p e. cc)
three_or_not (Some (x ∷ [])) = inr (λ p e. cc)
three_or_not (Some (x ∷ y ∷ [])) = inr (λ p e. cc)
three_or_not (Some (x ∷ y ∷ t ∷ [])) = at_or_not x y t
three_or_not (Some (x ∷ y ∷ t ∷ u ∷ more)) = inr (λ p e. cc)

point_or_not : (d : Data) → SomeOrNone (HasPoint d)
point_or_not d = three_or_not (list_in as_natural (codes "point") d)

query_or_not : (b : Bounds) → SomeOrNone (IsQuery b)
query_or_not b = go (order b.x1 b.x0) (order b.y1 b.y0) (order b.t1 b.t0) (order b.x1 (2 ^ 21)) (order b.y1 (2 ^ 21)) (order b.t1 19818086400)
  where
    go : (b.x1 < b.x0) ⊎ (b.x0 ≤ b.x1) → (b.y1 < b.y0) ⊎ (b.y0 ≤ b.y1) → (b.t1 < b.t0) ⊎ (b.t0 ≤ b.t1)
        → (b.x1 < 2 ^ 21) ⊎ (2 ^ 21 ≤ b.x1) → (b.y1 < 2 ^ 21) ⊎ (2 ^ 21 ≤ b.y1) → (b.t1 < 19818086400) ⊎ (19818086400 ≤ b.t1) → SomeOrNone (IsQuery b)
    go (inr x) (inr y) (inr t) (inl xf) (inl yf) (inl tf) =
        inl (
          record {
            x0 = b.x0;
            x1 = b.x1;
            y0 = b.y0;
            y1 = b.y1;
            t0 = b.t0;
            t1 = b.t1;
            x_ordered = x;
            y_ordered = y;
            t_ordered = t;
            x_in_range = xf;
            y_in_range = yf;
            t_in_range = tf;
          },
          (refl, refl, refl, refl, refl, refl),
        )
    go (inl never) y t xf yf tf = inr (λ q m. omega (arith, never, m.0, m.1, q.x_ordered))
    go (inr x) (inl never) t xf yf tf = inr (λ q m. omega (arith, never, m.2, m.3, q.y_ordered))
    go (inr x) (inr y) (inl never) xf yf tf = inr (λ q m. omega (arith, never, m.4, m.5, q.t_ordered))
    go (inr x) (inr y) (inr t) (inr never) yf tf = inr (λ q m. omega (arith, never, m.1, q.x_in_range))
    go (inr x) (inr y) (inr t) (inl xf) (inr never) tf = inr (λ q m. omega (arith, never, m.3, q.y_in_range))
    go (inr x) (inr y) (inr t) (inl xf) (inl yf) (inr never) = inr (λ q m. omega (arith, never, m.5, q.t_in_range))

place_or_not : {A : Type 0} (d : Data) → SomeOrNone (WritesPlace {A = A} d)
place_or_not {A} d = go (point_or_not d) (there_or_not (text_in (codes "id") d)) (there_or_not (text_in (codes "label") d))
  where
    go : SomeOrNone (HasPoint d) → SomeOrNone (λ (id : List ℕ). text_in (codes "id") d ≡ Some id) → SomeOrNone (λ (label : List ℕ). text_in (codes "label") d ≡ Some label)
        → SomeOrNone (WritesPlace {A = A} d)
    go (inl (point, p)) (inl (id, i)) (inl (label, l)) = inl (record { point = point; id = id; label = label }, record { point = p; id = i; label = l })
    go (inr never) id label = inr (λ place is. never place.point is.point)
    go (inl point) (inr never) label = inr (λ place is. never place.id is.id)
    go (inl point) (inl id) (inr never) = inr (λ place is. never place.label is.label)

null_or_not : (value : Data) → (value ≡ null) ⊎ (value ≡ null → ⊥)
null_or_not null = inl refl
null_or_not (boolean b) = inr (λ e. cc)
null_or_not (number n) = inr (λ e. cc)
null_or_not (string s) = inr (λ e. cc)
null_or_not (array ds) = inr (λ e. cc)
null_or_not (object ms) = inr (λ e. cc)

no_other_after : {A : Type 0} (d value : Data) → get (codes "after") d ≡ Some value → (value ≡ null → ⊥) → ((p : Place A) → WritesPlace value p → ⊥)
    → (o : Option (Place A)) → HasAfter d o → ⊥
no_other_after d value there some never None (inl absent) = let both : Some value ≡ None = sym there ∙ absent in cc
no_other_after d value there some never None (inr is_null) = let both : Some value ≡ Some null = sym there ∙ is_null in some cc
no_other_after d value there some never (Some p) (other, is, place) =
    let both : Some other ≡ Some value = sym is ∙ there in let same : other ≡ value = cc in never p (subst (λ v. WritesPlace v p) same place)

after_or_not : {A : Type 0} (d : Data) → SomeOrNone (HasAfter {A = A} d)
after_or_not {A} d = go (get (codes "after") d) refl
  where
    not_null : (value : Data) → get (codes "after") d ≡ Some value → (value ≡ null → ⊥) → SomeOrNone (WritesPlace {A = A} value) → SomeOrNone (HasAfter {A = A} d)
    not_null value there some (inl (place, is)) = inl (Some place, (value, there, is))
    not_null value there some (inr never) = inr (no_other_after d value there some never)

    of_value : (value : Data) → get (codes "after") d ≡ Some value → (value ≡ null) ⊎ (value ≡ null → ⊥) → SomeOrNone (HasAfter {A = A} d)
    of_value value there (inl is) = inl (None, inr (subst (λ v. get (codes "after") d ≡ Some v) is there))
    of_value value there (inr some) = not_null value there some (place_or_not value)

    go : (o : Option Data) → get (codes "after") d ≡ o → SomeOrNone (HasAfter {A = A} d)
    go None absent = inl (None, inl absent)
    go (Some value) there = of_value value there (null_or_not value)

object_or_not : (value : Data) → ((ms : Members) × (value ≡ object ms)) ⊎ ((ms : Members) → value ≡ object ms → ⊥)
object_or_not null = inr (λ ms e. cc)
object_or_not (boolean b) = inr (λ ms e. cc)
object_or_not (number n) = inr (λ ms e. cc)
object_or_not (string s) = inr (λ ms e. cc)
object_or_not (array ds) = inr (λ ms e. cc)
object_or_not (object ms) = inl (ms, refl)

is_object_or_not : (body : List ℕ) → SomeOrNone (IsObject body)
is_object_or_not body = go (is_utf8 body) refl (read body) refl
  where
    of_read : (d : Data) → read body ≡ Some d → IsUtf8 body → ((ms : Members) × (d ≡ object ms)) ⊎ ((ms : Members) → d ≡ object ms → ⊥) → SomeOrNone (IsObject body)
    of_read d reads good (inl is) = inl (d, (good, reads, is))
    of_read d reads good (inr never) = inr (λ other is. let both : Some other ≡ Some d = sym is.1 ∙ reads in let same : d ≡ other = cc in never is.2.0 (same ∙ is.2.1))

    go : (good : Bool) → is_utf8 body ≡ good → (o : Option Data) → read body ≡ o → SomeOrNone (IsObject body)
    go false bad o reads = inr (λ d is. let e : true ≡ false = sym (is_utf8-from_IsUtf8 body is.0) ∙ bad in cc)
    go true good None reads = inr (λ d is. let e : Some d ≡ None = sym is.1 ∙ reads in cc)
    go true good (Some d) reads = of_read d reads (IsUtf8-from_is_utf8 body good) (object_or_not d)

-- ---- the fields and what they make

some_field : {U : Type 0} (refusal : Refusal) (o : Option U) → HasAnswer (Has refusal (λ (u : U). o ≡ Some u))
some_field refusal o = some_has _ _ (there_or_not o)

some_body : (is_read : Bool) (body : List ℕ) → HasAnswer (ReadBody is_read body)
some_body true body = some_has _ _ (is_object_or_not body)
some_body false body = some_equal _

-- ---- the endpoints

some_made : (A : Type 0) (l : Endpoint) (name : List ℕ) (d : Data) → HasAnswer (Made {A = A} l name d)
some_made A endpoints.Whoami name d = some_equal _
some_made A endpoints.Tables name d = some_equal _
some_made A endpoints.Users name d = some_equal _
some_made A endpoints.User name d = some_needs _ _ (some_has _ _ (name_or_not name)) (λ user. some_equal _)
some_made A endpoints.Grants name d = some_needs _ _ (some_has _ _ (table_or_not name)) (λ table. some_equal _)
some_made A endpoints.NamespaceGrants name d = some_needs _ _ (some_has _ _ (name_or_not name)) (λ namespace. some_equal _)
some_made A endpoints.Label name d = some_needs _ _ (some_field _ _) (λ text. some_needs _ _ (some_label text) (λ label. some_equal _))
some_made A endpoints.Audit name d = some_equal _
some_made A endpoints.Get name d =
    some_needs _ _ (some_field _ _)
    (λ id. some_needs _ _ (some_field _ _)
    (λ texts. some_needs _ _ (some_has _ _ (table_or_not name))
    (λ table. some_needs _ _ (some_has _ _ (auths_or_not texts)) (λ auths. some_equal _))))
some_made A endpoints.Scan name d =
    some_needs _ _ (some_has _ _ (box_or_not d))
    (λ bounds. some_needs _ _ (some_field _ _)
    (λ texts. some_needs _ _ (some_field _ _)
    (λ limit. some_needs _ _ (some_has _ _ (after_or_not d))
    (λ after. some_needs _ _ (some_has _ _ (query_or_not bounds))
    (λ query. some_needs _ _ (some_has _ _ (table_or_not name))
    (λ table. some_needs _ _ (some_has _ _ (auths_or_not texts)) (λ auths. some_equal _)))))))
some_made A endpoints.Count name d =
    some_needs _ _ (some_has _ _ (box_or_not d))
    (λ bounds. some_needs _ _ (some_field _ _)
    (λ texts. some_needs _ _ (some_has _ _ (query_or_not bounds))
    (λ query. some_needs _ _ (some_has _ _ (table_or_not name))
    (λ table. some_needs _ _ (some_has _ _ (auths_or_not texts)) (λ auths. some_equal _)))))
some_made A endpoints.Grid name d =
    some_needs _ _ (some_has _ _ (box_or_not d))
    (λ bounds. some_needs _ _ (some_field _ _)
    (λ texts. some_needs _ _ (some_field _ _)
    (λ columns. some_needs _ _ (some_field _ _)
    (λ rows. some_needs _ _ (some_has _ _ (query_or_not bounds))
    (λ query. some_needs _ _ (some_has _ _ (table_or_not name))
    (λ table. some_needs _ _ (some_has _ _ (auths_or_not texts)) (λ auths. some_equal _)))))))
some_made A endpoints.Plan name d =
    some_needs _ _ (some_has _ _ (box_or_not d))
    (λ bounds. some_needs _ _ (some_field _ _)
    (λ budget. some_needs _ _ (some_has _ _ (query_or_not bounds))
    (λ query. some_needs _ _ (some_has _ _ (table_or_not name)) (λ table. some_equal _))))
some_made A endpoints.Put name d =
    some_needs _ _ (some_field _ _)
    (λ id. some_needs _ _ (some_has _ _ (point_or_not d))
    (λ point. some_needs _ _ (some_field _ _)
    (λ text. some_needs _ _ (some_field _ _)
    (λ note. some_needs _ _ (some_label text) (λ label. some_needs _ _ (some_has _ _ (table_or_not name)) (λ table. some_equal _))))))
some_made A endpoints.Delete name d =
    some_needs _ _ (some_field _ _)
    (λ id. some_needs _ _ (some_field _ _)
    (λ text. some_needs _ _ (some_label text) (λ label. some_needs _ _ (some_has _ _ (table_or_not name)) (λ table. some_equal _))))
some_made A endpoints.CreateTable name d =
    some_needs _ _ (some_field _ _)
    (λ text. some_needs _ _ (some_field _ _) (λ period. some_needs _ _ (some_has _ _ (table_or_not text)) (λ table. some_equal _)))
some_made A endpoints.DropTable name d = some_needs _ _ (some_has _ _ (table_or_not name)) (λ table. some_equal _)
some_made A endpoints.Constraint name d = some_needs _ _ (some_field _ _) (λ on. some_needs _ _ (some_has _ _ (table_or_not name)) (λ table. some_equal _))
some_made A endpoints.Period name d = some_needs _ _ (some_field _ _) (λ period. some_needs _ _ (some_has _ _ (table_or_not name)) (λ table. some_equal _))
some_made A endpoints.CreateUser name d =
    some_needs _ _ (some_field _ _)
    (λ text. some_needs _ _ (some_field _ _)
    (λ digest. some_needs _ _ (some_field _ _)
    (λ texts. some_needs _ _ (some_has _ _ (name_or_not text)) (λ user. some_needs _ _ (some_has _ _ (auths_or_not texts)) (λ auths. some_equal _)))))
some_made A endpoints.DropUser name d = some_needs _ _ (some_has _ _ (name_or_not name)) (λ user. some_equal _)
some_made A endpoints.Token name d = some_needs _ _ (some_field _ _) (λ digest. some_needs _ _ (some_has _ _ (name_or_not name)) (λ user. some_equal _))
some_made A endpoints.Auths name d =
    some_needs _ _ (some_field _ _)
    (λ texts. some_needs _ _ (some_has _ _ (name_or_not name)) (λ user. some_needs _ _ (some_has _ _ (auths_or_not texts)) (λ auths. some_equal _)))
some_made A endpoints.GrantSystem name d = some_needs _ _ (some_field _ _) (λ p. some_needs _ _ (some_has _ _ (name_or_not name)) (λ user. some_equal _))
some_made A endpoints.RevokeSystem name d = some_needs _ _ (some_field _ _) (λ p. some_needs _ _ (some_has _ _ (name_or_not name)) (λ user. some_equal _))
some_made A endpoints.GrantTable name d =
    some_needs _ _ (some_field _ _)
    (λ text. some_needs _ _ (some_field _ _)
    (λ p. some_needs _ _ (some_has _ _ (table_or_not name)) (λ table. some_needs _ _ (some_has _ _ (name_or_not text)) (λ user. some_equal _))))
some_made A endpoints.RevokeTable name d =
    some_needs _ _ (some_field _ _)
    (λ text. some_needs _ _ (some_field _ _)
    (λ p. some_needs _ _ (some_has _ _ (table_or_not name)) (λ table. some_needs _ _ (some_has _ _ (name_or_not text)) (λ user. some_equal _))))
some_made A endpoints.GrantNamespace name d =
    some_needs _ _ (some_field _ _)
    (λ text. some_needs _ _ (some_field _ _)
    (λ p. some_needs _ _ (some_has _ _ (name_or_not name)) (λ namespace. some_needs _ _ (some_has _ _ (name_or_not text)) (λ user. some_equal _))))
some_made A endpoints.RevokeNamespace name d =
    some_needs _ _ (some_field _ _)
    (λ text. some_needs _ _ (some_field _ _)
    (λ p. some_needs _ _ (some_has _ _ (name_or_not name)) (λ namespace. some_needs _ _ (some_has _ _ (name_or_not text)) (λ user. some_equal _))))

pub some_answer : (A : Type 0) (l : Endpoint) (name body : List ℕ) → HasAnswer (Decoded {A = A} l name body)
some_answer A l name body = some_needs _ _ (some_body (has_body l) body) (λ d. some_made A l name d)
