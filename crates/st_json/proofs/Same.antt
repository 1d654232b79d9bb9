-- Points and queries with the same numbers are the same.
use Rattle.std.proofs.Common.{◌≡◌, ℕ, List, ◌^◌, ◌<◌, ◌≤◌, ap, ◌∙◌, subst}
use Rattle.std.proofs.Props.{props}
use Rattle.st_key.specs.declared.point.Point.{Point}
use Rattle.st_key.specs.declared.place.Place.{Place}
use Rattle.st_box.specs.declared.query.Query.{Query}

abbrev make : (x y t : ℕ) → x < 2 ^ 21 → y < 2 ^ 21 → t < 19818086400 → Point
make x y t fx fy ft = record { x = x; y = y; t = t; x_in_range = fx; y_in_range = fy; t_in_range = ft }

lt_prop : (m n : ℕ) → IsProp (m < n)
lt_prop m n = hlevel props

le_prop : (m n : ℕ) → IsProp (m ≤ n)
le_prop m n = hlevel props

pub same_point : (p q : Point) → p.x ≡ q.x → p.y ≡ q.y → p.t ≡ q.t → p ≡ q
same_point p q ex ey et =
    let X : ℕ → Type 0 = λ x. (fx : x < 2 ^ 21) → p ≡ make x p.y p.t fx p.y_in_range p.t_in_range in
    let Y : ℕ → Type 0 = λ y. (fy : y < 2 ^ 21) → p ≡ make q.x y p.t q.x_in_range fy p.t_in_range in
    let T : ℕ → Type 0 = λ t. (ft : t < 19818086400) → p ≡ make q.x q.y t q.x_in_range q.y_in_range ft in
    let with_x : X q.x = subst X ex (λ fx. ap (λ f. make p.x p.y p.t f p.y_in_range p.t_in_range) (lt_prop _ _ p.x_in_range fx)) in
    let with_y : Y q.y = subst Y ey (λ fy. with_x q.x_in_range ∙ ap (λ f. make q.x p.y p.t q.x_in_range f p.t_in_range) (lt_prop _ _ p.y_in_range fy)) in
    let with_t : T q.t = subst T et (λ ft. with_y q.y_in_range ∙ ap (λ f. make q.x q.y p.t q.x_in_range q.y_in_range f) (lt_prop _ _ p.t_in_range ft)) in
    with_t q.t_in_range

pub same_place : {A : Type 0} (p q : Place A) → p.point ≡ q.point → p.id ≡ q.id → p.label ≡ q.label → p ≡ q
same_place {A} p q ep ei el =
    let make : Point → List ℕ → List ℕ → Place A = λ point id label. record { point = point; id = id; label = label } in
    let whole : make p.point p.id p.label ≡ make q.point q.id q.label = rw (ep, ei, el) in
    whole

-- the facts of a query
record Fits (x0 x1 y0 y1 t0 t1 : ℕ) : Type 0 where
  x : x0 ≤ x1
  y : y0 ≤ y1
  t : t0 ≤ t1
  xr : x1 < 2 ^ 21
  yr : y1 < 2 ^ 21
  tr : t1 < 19818086400

fits_prop : (x0 x1 y0 y1 t0 t1 : ℕ) → IsProp (Fits x0 x1 y0 y1 t0 t1)
fits_prop x0 x1 y0 y1 t0 t1 = hlevel props

abbrev query : (x0 x1 y0 y1 t0 t1 : ℕ) → Fits x0 x1 y0 y1 t0 t1 → Query
query x0 x1 y0 y1 t0 t1 f = record { x0 = x0; x1 = x1; y0 = y0; y1 = y1; t0 = t0; t1 = t1; x_ordered = f.x; y_ordered = f.y; t_ordered = f.t; x_in_range = f.xr; y_in_range = f.yr; t_in_range = f.tr }

abbrev fits : (q : Query) → Fits q.x0 q.x1 q.y0 q.y1 q.t0 q.t1
fits q = record { x = q.x_ordered; y = q.y_ordered; t = q.t_ordered; xr = q.x_in_range; yr = q.y_in_range; tr = q.t_in_range }

along : (x0 x1 y0 y1 t0 t1 u0 u1 v0 v1 w0 w1 : ℕ) → x0 ≡ u0 → x1 ≡ u1 → y0 ≡ v0 → y1 ≡ v1 → t0 ≡ w0 → t1 ≡ w1 → (f : Fits x0 x1 y0 y1 t0 t1) (g : Fits u0 u1 v0 v1 w0 w1)
    → query x0 x1 y0 y1 t0 t1 f ≡ query u0 u1 v0 v1 w0 w1 g
along x0 x1 y0 y1 t0 t1 u0 u1 v0 v1 w0 w1 a b c d e h f g =
    let A : ℕ → Type 0 = λ z. (k : Fits z x1 y0 y1 t0 t1) → query x0 x1 y0 y1 t0 t1 f ≡ query z x1 y0 y1 t0 t1 k in
    let B : ℕ → Type 0 = λ z. (k : Fits u0 z y0 y1 t0 t1) → query x0 x1 y0 y1 t0 t1 f ≡ query u0 z y0 y1 t0 t1 k in
    let C : ℕ → Type 0 = λ z. (k : Fits u0 u1 z y1 t0 t1) → query x0 x1 y0 y1 t0 t1 f ≡ query u0 u1 z y1 t0 t1 k in
    let D : ℕ → Type 0 = λ z. (k : Fits u0 u1 v0 z t0 t1) → query x0 x1 y0 y1 t0 t1 f ≡ query u0 u1 v0 z t0 t1 k in
    let E : ℕ → Type 0 = λ z. (k : Fits u0 u1 v0 v1 z t1) → query x0 x1 y0 y1 t0 t1 f ≡ query u0 u1 v0 v1 z t1 k in
    let F : ℕ → Type 0 = λ z. (k : Fits u0 u1 v0 v1 w0 z) → query x0 x1 y0 y1 t0 t1 f ≡ query u0 u1 v0 v1 w0 z k in
    let p : A u0 = subst A a (λ k. ap (query x0 x1 y0 y1 t0 t1) (fits_prop _ _ _ _ _ _ f k)) in
    let q : B u1 = subst B b p in
    let r : C v0 = subst C c q in
    let s : D v1 = subst D d r in
    let t : E w0 = subst E e s in
    let u : F w1 = subst F h t in
    u g

pub same_query : (p q : Query) → p.x0 ≡ q.x0 → p.x1 ≡ q.x1 → p.y0 ≡ q.y0 → p.y1 ≡ q.y1 → p.t0 ≡ q.t0 → p.t1 ≡ q.t1 → p ≡ q
same_query p q a b c d e h = along p.x0 p.x1 p.y0 p.y1 p.t0 p.t1 q.x0 q.x1 q.y0 q.y1 q.t0 q.t1 a b c d e h (fits p) (fits q)
