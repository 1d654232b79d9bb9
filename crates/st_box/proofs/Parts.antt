-- The parts of a query.
use Rattle.std.proofs.Common.{◌≡◌, ℕ, ◌+◌, ◌-◌, ◌/◌, ◌%◌, ◌<◌, ◌≤◌, ◌↔◌, inl, inr, List, [], ◌∷◌, map, refl, sym, ap, ◌∙◌, subst, arith}
use Rattle.std.specs.Prelude.{if◌then◌else◌}
use Rattle.std.proofs.lemmas.Bool.{cases_lt, eq-eqb, ne_eqb, lt-ltb, le-ltb}
use Rattle.std.proofs.lemmas.Nat.{le-div, div-add-mod'}
use Rattle.st_key.specs.declared.key.Key.{Key}
use Rattle.st_key.specs.declared.period.Period.{Period}
use Rattle.st_key.specs.Period.{seconds_of}
use Rattle.st_key.proofs.PeriodLemmas.{period}
use Rattle.st_box.specs.declared.part.Part.{Part}
use Rattle.st_box.specs.declared.query.Query.{Query}
use Rattle.st_box.specs.declared.zbox.ZBox.{ZBox}
use Rattle.st_box.specs.Part.{Cut, cut_of, cut_to, cuts_of}
use Rattle.st_box.specs.inner.Parts.{IsInPart, HasPart, FollowBins}
use Rattle.st_box.specs.inner.Edges.{IsEdge, IsMiddle}
use Rattle.st_box.specs.Query.{HasKey}
use Rattle.st_box.specs.inner.Bins.{first_offset_of, last_offset_of}
use Rattle.st_box.specs.inner.Bounds.{HasBounds}
use Rattle.st_box.proofs.Spans.{bins_of_key}

abbrev make : (lo hi x0 x1 y0 y1 o0 o1 : ℕ) → Cut
make lo hi x0 x1 y0 y1 o0 o1 = record { bin_lo = lo; bin_hi = hi; first = record { x = x0; y = y0; offset = o0 }; last = record { x = x1; y = y1; offset = o1 } }

-- a part by the bounds of its box
pub cut_by_bounds : (b : ZBox) (lo hi x0 x1 y0 y1 o0 o1 : ℕ) → HasBounds x0 x1 y0 y1 o0 o1 b
    → make lo hi b.x_first b.x_last b.y_first b.y_last b.offset_first b.offset_last ≡ make lo hi x0 x1 y0 y1 o0 o1
cut_by_bounds b lo hi x0 x1 y0 y1 o0 o1 h =
    ap (λ n. make lo hi n b.x_last b.y_first b.y_last b.offset_first b.offset_last) h.0
    ∙ ap (λ n. make lo hi x0 n b.y_first b.y_last b.offset_first b.offset_last) h.1
    ∙ ap (λ n. make lo hi x0 x1 n b.y_last b.offset_first b.offset_last) h.2
    ∙ ap (λ n. make lo hi x0 x1 y0 n b.offset_first b.offset_last) h.3
    ∙ ap (λ n. make lo hi x0 x1 y0 y1 n b.offset_last) h.4
    ∙ ap (λ n. make lo hi x0 x1 y0 y1 o0 n) h.5

-- the whole bins between by their numbers
pub middle_cut : (q : Query) (lo hi last lo' hi' last' : ℕ) → lo ≡ lo' → hi ≡ hi' → last ≡ last'
    → make lo hi q.x0 q.x1 q.y0 q.y1 0 last ≡ make lo' hi' q.x0 q.x1 q.y0 q.y1 0 last'
middle_cut q lo hi last lo' hi' last' el eh eo =
    ap (λ n. make n hi q.x0 q.x1 q.y0 q.y1 0 last) el ∙ ap (λ n. make lo' n q.x0 q.x1 q.y0 q.y1 0 last) eh ∙ ap (λ n. make lo' hi' q.x0 q.x1 q.y0 q.y1 0 n) eo

-- ---- offsets at the edges

first_here : (w : Period) (t bin : ℕ) → bin ≡ t / seconds_of w → first_offset_of w t bin ≡ t % seconds_of w
first_here w t bin e = ap (λ c. if c then t % seconds_of w else 0) (eq-eqb bin (t / seconds_of w) e)

first_later : (w : Period) (t bin : ℕ) → t / seconds_of w < bin → first_offset_of w t bin ≡ 0
first_later w t bin h = ap (λ c. if c then t % seconds_of w else 0) (ne_eqb bin (t / seconds_of w) (λ e. omega arith))

last_here : (w : Period) (t bin : ℕ) → bin ≡ t / seconds_of w → last_offset_of w t bin ≡ t % seconds_of w
last_here w t bin e = ap (λ c. if c then t % seconds_of w else seconds_of w - 1) (eq-eqb bin (t / seconds_of w) e)

last_sooner : (w : Period) (t bin : ℕ) → bin < t / seconds_of w → last_offset_of w t bin ≡ seconds_of w - 1
last_sooner w t bin h = ap (λ c. if c then t % seconds_of w else seconds_of w - 1) (ne_eqb bin (t / seconds_of w) (λ e. omega arith))

edge_cut : (q : Query) (w : Period) (bin : ℕ) (p : Part) (o0 o1 : ℕ) → IsEdge q w bin p
    → first_offset_of w q.t0 bin ≡ o0 → last_offset_of w q.t1 bin ≡ o1 → cut_of p ≡ cut_to q bin bin o0 o1
edge_cut q w bin p o0 o1 e e0 e1 =
    e.cut ∙ ap (λ o. cut_to q bin bin o (last_offset_of w q.t1 bin)) e0 ∙ ap (λ o. cut_to q bin bin o0 o) e1

-- ---- the whole list

pub cuts_one : (q : Query) (w : Period) (p : Part) → q.t0 / seconds_of w ≡ q.t1 / seconds_of w → IsEdge q w (q.t0 / seconds_of w) p
    → cut_of p ∷ [] ≡ cuts_of w q
unfolding cuts_of
cuts_one q w p one e =
    let s = seconds_of w in
    let h = edge_cut q w (q.t0 / s) p (q.t0 % s) (q.t1 % s) e (first_here w q.t0 (q.t0 / s) refl) (last_here w q.t1 (q.t0 / s) one) in
    rw (eq-eqb (q.t0 / s) (q.t1 / s) one) (ap (λ c. c ∷ []) (h ∙ ap (λ b. cut_to q (q.t0 / s) b (q.t0 % s) (q.t1 % s)) one))

pub cuts_two : (q : Query) (w : Period) (p r : Part) → q.t0 / seconds_of w + 1 ≡ q.t1 / seconds_of w
    → IsEdge q w (q.t0 / seconds_of w) p → IsEdge q w (q.t1 / seconds_of w) r
    → cut_of p ∷ cut_of r ∷ [] ≡ cuts_of w q
unfolding cuts_of
cuts_two q w p r next e f =
    let s = seconds_of w in
    let h = edge_cut q w (q.t0 / s) p (q.t0 % s) (s - 1) e (first_here w q.t0 (q.t0 / s) refl) (last_sooner w q.t1 (q.t0 / s) (omega arith)) in
    let g = edge_cut q w (q.t1 / s) r 0 (q.t1 % s) f (first_later w q.t0 (q.t1 / s) (omega arith)) (last_here w q.t1 (q.t1 / s) refl) in
    rw (ne_eqb (q.t0 / s) (q.t1 / s) (λ e. omega arith), le-ltb (q.t0 / s + 1) (q.t1 / s) (omega arith))
    (ap (λ c. c ∷ cut_of r ∷ []) h ∙ ap (λ c. cut_to q (q.t0 / s) (q.t0 / s) (q.t0 % s) (s - 1) ∷ c ∷ []) g)

pub cuts_three : (q : Query) (w : Period) (p m r : Part) → q.t0 / seconds_of w + 1 < q.t1 / seconds_of w
    → IsEdge q w (q.t0 / seconds_of w) p → IsMiddle q w m → IsEdge q w (q.t1 / seconds_of w) r
    → cut_of p ∷ cut_of m ∷ cut_of r ∷ [] ≡ cuts_of w q
unfolding cuts_of
cuts_three q w p m r later e i f =
    let s = seconds_of w in
    let h = edge_cut q w (q.t0 / s) p (q.t0 % s) (s - 1) e (first_here w q.t0 (q.t0 / s) refl) (last_sooner w q.t1 (q.t0 / s) (omega arith)) in
    let g = edge_cut q w (q.t1 / s) r 0 (q.t1 % s) f (first_later w q.t0 (q.t1 / s) (omega arith)) (last_here w q.t1 (q.t1 / s) refl) in
    rw (ne_eqb (q.t0 / s) (q.t1 / s) (λ e. omega arith), lt-ltb (q.t0 / s + 1) (q.t1 / s) (omega arith))
    (ap (λ c. c ∷ cut_of m ∷ cut_of r ∷ []) h
    ∙ ap (λ c. cut_to q (q.t0 / s) (q.t0 / s) (q.t0 % s) (s - 1) ∷ c ∷ cut_of r ∷ []) i.cut
    ∙ ap (λ c. cut_to q (q.t0 / s) (q.t0 / s) (q.t0 % s) (s - 1) ∷ cut_to q (q.t0 / s + 1) (q.t1 / s - 1) 0 (s - 1) ∷ c ∷ []) g)

-- ---- the keys

-- the keys of a part of one bin are the query's in that bin
in_edge : (q : Query) (w : Period) (bin : ℕ) (p : Part) (k : Key) → IsEdge q w bin p → IsInPart p k ↔ ((k.bin ≡ bin) × HasKey q w k)
in_edge q w bin p k e =
    let lo : p.bin_lo ≡ bin = ap (λ c. c.bin_lo) e.cut in
    let hi : p.bin_hi ≡ bin = ap (λ c. c.bin_hi) e.cut in (
      λ there. let at : k.bin ≡ bin = omega (arith, there.from_bin, there.to_bin) in (at, (e.keys k at).0 there.inside),
      λ h. record { from_bin = omega (arith, h.0); to_bin = omega (arith, h.0); inside = (e.keys k h.0).1 h.1 },
    )

in_middle : (q : Query) (w : Period) (p : Part) (k : Key) → IsMiddle q w p
    → IsInPart p k ↔ ((q.t0 / seconds_of w < k.bin) × (k.bin < q.t1 / seconds_of w) × HasKey q w k)
in_middle q w p k e =
    let s = seconds_of w in
    let lo : p.bin_lo ≡ q.t0 / s + 1 = ap (λ c. c.bin_lo) e.cut in
    let hi : p.bin_hi ≡ q.t1 / s - 1 = ap (λ c. c.bin_hi) e.cut in (
      λ there.
          let after : q.t0 / s < k.bin = omega (arith, there.from_bin) in
          let before : k.bin < q.t1 / s = omega (arith, there.to_bin, p.bins_ordered) in
          (after, before, (e.keys k.bin after before k refl).0 there.inside),
      λ h. record { from_bin = omega (arith, h.0); to_bin = omega (arith, h.1); inside = (e.keys k.bin h.0 h.1 k refl).1 h.2 },
    )

pub whole_one : (q : Query) (w : Period) (p : Part) → q.t0 / seconds_of w ≡ q.t1 / seconds_of w → IsEdge q w (q.t0 / seconds_of w) p
    → (k : Key) → HasPart (p ∷ []) k ↔ HasKey q w k
whole_one q w p one e k = (
  λ there. elim there [ inl here ↦ ((in_edge q w _ p k e).0 here).1 | inr nowhere ↦ absurd nowhere ],
  λ has. let bins = bins_of_key q w k has in inl ((in_edge q w _ p k e).1 (omega arith, has)),
)

pub whole_two : (q : Query) (w : Period) (p r : Part) → q.t0 / seconds_of w + 1 ≡ q.t1 / seconds_of w
    → IsEdge q w (q.t0 / seconds_of w) p → IsEdge q w (q.t1 / seconds_of w) r
    → (k : Key) → HasPart (p ∷ r ∷ []) k ↔ HasKey q w k
whole_two q w p r next e f k = (
  λ there. elim there [
    | inl here ↦ ((in_edge q w _ p k e).0 here).1
    | inr rest ↦ elim rest [ inl here ↦ ((in_edge q w _ r k f).0 here).1 | inr nowhere ↦ absurd nowhere ]
  ],
  λ has.
      let bins = bins_of_key q w k has in
      elim (cases_lt (q.t0 / seconds_of w) k.bin) [
        | inl after ↦ inr (inl ((in_edge q w _ r k f).1 (omega arith, has)))
        | inr first ↦ inl ((in_edge q w _ p k e).1 (omega arith, has))
      ],
)

pub whole_three : (q : Query) (w : Period) (p m r : Part) → q.t0 / seconds_of w + 1 < q.t1 / seconds_of w
    → IsEdge q w (q.t0 / seconds_of w) p → IsMiddle q w m → IsEdge q w (q.t1 / seconds_of w) r
    → (k : Key) → HasPart (p ∷ m ∷ r ∷ []) k ↔ HasKey q w k
whole_three q w p m r later e i f k = (
  λ there. elim there [
    | inl here ↦ ((in_edge q w _ p k e).0 here).1
    | inr rest ↦ elim rest [
      | inl here ↦ ((in_middle q w m k i).0 here).2
      | inr last ↦ elim last [ inl here ↦ ((in_edge q w _ r k f).0 here).1 | inr nowhere ↦ absurd nowhere ]
    ]
  ],
  λ has.
      let bins = bins_of_key q w k has in
      elim (cases_lt (q.t0 / seconds_of w) k.bin) [
        | inl after ↦ elim (cases_lt k.bin (q.t1 / seconds_of w)) [
          | inl before ↦ inr (inl ((in_middle q w m k i).1 (after, before, has)))
          | inr last ↦ inr (inr (inl ((in_edge q w _ r k f).1 (omega arith, has))))
        ]
        | inr first ↦ inl ((in_edge q w _ p k e).1 (omega arith, has))
      ],
)

pub apart_one : (q : Query) (w : Period) (p : Part) → q.t0 / seconds_of w ≡ q.t1 / seconds_of w → IsEdge q w (q.t0 / seconds_of w) p
    → FollowBins (q.t0 / seconds_of w) (p ∷ []) (q.t1 / seconds_of w)
apart_one q w p one e =
    let hi : p.bin_hi ≡ q.t0 / seconds_of w = ap (λ c. c.bin_hi) e.cut in
    (ap (λ c. c.bin_lo) e.cut, p.bins_ordered, omega arith)

pub apart_two : (q : Query) (w : Period) (p r : Part) → q.t0 / seconds_of w + 1 ≡ q.t1 / seconds_of w
    → IsEdge q w (q.t0 / seconds_of w) p → IsEdge q w (q.t1 / seconds_of w) r
    → FollowBins (q.t0 / seconds_of w) (p ∷ r ∷ []) (q.t1 / seconds_of w)
apart_two q w p r next e f =
    let hi : p.bin_hi ≡ q.t0 / seconds_of w = ap (λ c. c.bin_hi) e.cut in
    let lo : r.bin_lo ≡ q.t1 / seconds_of w = ap (λ c. c.bin_lo) f.cut in
    let hi' : r.bin_hi ≡ q.t1 / seconds_of w = ap (λ c. c.bin_hi) f.cut in
    (ap (λ c. c.bin_lo) e.cut, p.bins_ordered, (omega arith, r.bins_ordered, omega arith))

pub apart_three : (q : Query) (w : Period) (p m r : Part) → q.t0 / seconds_of w + 1 < q.t1 / seconds_of w
    → IsEdge q w (q.t0 / seconds_of w) p → IsMiddle q w m → IsEdge q w (q.t1 / seconds_of w) r
    → FollowBins (q.t0 / seconds_of w) (p ∷ m ∷ r ∷ []) (q.t1 / seconds_of w)
apart_three q w p m r later e i f =
    let hi : p.bin_hi ≡ q.t0 / seconds_of w = ap (λ c. c.bin_hi) e.cut in
    let lo : m.bin_lo ≡ q.t0 / seconds_of w + 1 = ap (λ c. c.bin_lo) i.cut in
    let mid : m.bin_hi ≡ q.t1 / seconds_of w - 1 = ap (λ c. c.bin_hi) i.cut in
    let lo' : r.bin_lo ≡ q.t1 / seconds_of w = ap (λ c. c.bin_lo) f.cut in
    let hi' : r.bin_hi ≡ q.t1 / seconds_of w = ap (λ c. c.bin_hi) f.cut in
    (ap (λ c. c.bin_lo) e.cut, p.bins_ordered, (omega arith, m.bins_ordered, (omega arith, r.bins_ordered, omega arith)))

-- ---- what a list of parts is

pub record AreParts (q : Query) (w : Period) (xs : List Part) : Type 0 where
  pub cuts : map cut_of xs ≡ cuts_of w q
  pub whole : (k : Key) → HasPart xs k ↔ HasKey q w k
  pub apart : FollowBins (q.t0 / seconds_of w) xs (q.t1 / seconds_of w)

pub are_one : (q : Query) (w : Period) (first last : ℕ) (p : Part) (xs : List Part) → first ≡ q.t0 / seconds_of w → last ≡ q.t1 / seconds_of w → first ≡ last
    → IsEdge q w first p → xs ≡ p ∷ [] → AreParts q w xs
are_one q w first last p xs e0 e1 one edge list =
    let e = subst (λ b. IsEdge q w b p) e0 edge in
    let same : q.t0 / seconds_of w ≡ q.t1 / seconds_of w = sym e0 ∙ one ∙ e1 in
    subst (AreParts q w) (sym list) (record { cuts = cuts_one q w p same e; whole = whole_one q w p same e; apart = apart_one q w p same e })

-- the bins of a span are in order
pub bins_ordered : (q : Query) (w : Period) → q.t0 / seconds_of w ≤ q.t1 / seconds_of w
bins_ordered q w = let s = seconds_of w in le-div (q.t0 / s) q.t1 s (period w).some (omega (arith, div-add-mod' q.t0 s, q.t_ordered))

pub are_two : (q : Query) (w : Period) (first last : ℕ) (p r : Part) (xs : List Part) → first ≡ q.t0 / seconds_of w → last ≡ q.t1 / seconds_of w → (first ≡ last → ⊥) → last ≤ first + 1
    → IsEdge q w first p → IsEdge q w last r → xs ≡ p ∷ r ∷ [] → AreParts q w xs
are_two q w first last p r xs e0 e1 apart near edge other list =
    let e = subst (λ b. IsEdge q w b p) e0 edge in
    let f = subst (λ b. IsEdge q w b r) e1 other in
    let n : q.t0 / seconds_of w + 1 ≡ q.t1 / seconds_of w = omega (arith, bins_ordered q w, apart, near) in
    subst (AreParts q w) (sym list) (record { cuts = cuts_two q w p r n e f; whole = whole_two q w p r n e f; apart = apart_two q w p r n e f })

pub are_three : (q : Query) (w : Period) (first last : ℕ) (p m r : Part) (xs : List Part) → first ≡ q.t0 / seconds_of w → last ≡ q.t1 / seconds_of w → first + 1 < last
    → IsEdge q w first p → IsMiddle q w m → IsEdge q w last r → xs ≡ p ∷ m ∷ r ∷ [] → AreParts q w xs
are_three q w first last p m r xs e0 e1 later edge mid other list =
    let e = subst (λ b. IsEdge q w b p) e0 edge in
    let f = subst (λ b. IsEdge q w b r) e1 other in
    let n : q.t0 / seconds_of w + 1 < q.t1 / seconds_of w = omega arith in
    subst (AreParts q w) (sym list) (record { cuts = cuts_three q w p m r n e mid f; whole = whole_three q w p m r n e mid f; apart = apart_three q w p m r n e mid f })
