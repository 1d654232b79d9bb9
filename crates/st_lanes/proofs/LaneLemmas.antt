-- Bits of masks, and the points that they stand for.
use Rattle.std.proofs.Common.{◌≡◌, ◌↔◌, ℕ, ◌+◌, ◌-◌, ◌<◌, ◌≤◌, IsTrue, Bool, false, List, cond, ltb, get_or, inl, inr, sym, ap, subst, arith}
use Rattle.std.specs.Prelude.{bit_or}
use Rattle.std.specs.Int.{bit_at}
use Rattle.std.proofs.lemmas.Bool.{cases_lt, lt-ltb, le-ltb}
use Rattle.std.proofs.lemmas.Nat.Bits.{bit_at_or}
use Rattle.st_box.specs.declared.zbox.ZBox.{ZBox}
use Rattle.st_lanes.specs.inner.Lanes.{IsInBox}

abbrev pub bit : Bool → ℕ
bit t = cond t 1 0

bit_of : (x y : ℕ) → (bit (ltb x y) ≡ 0) ↔ (y ≤ x)
bit_of x y =
    elim (cases_lt x y) [
      | inl l ↦ let e = ap bit (lt-ltb x y l) in (λ z. absurd (omega (arith, e, z)), λ le. absurd (omega arith))
      | inr g ↦ let e = ap bit (le-ltb x y g) in (λ z. g, λ le. e)
    ]

pub outside_bits : (one two k x low high : ℕ) → bit_at one k ≡ bit (ltb x low) → bit_at two k ≡ bit (ltb high x)
    → (bit_at (bit_or one two) k ≡ 0) ↔ ((low ≤ x) × (x ≤ high))
outside_bits one two k x low high p q = (
  λ z. let o = bit_at_or one two k in ((bit_of x low).0 (omega arith), (bit_of high x).0 (omega arith)),
  λ le. let o = bit_at_or one two k in let a = (bit_of x low).1 le.0 in let b = (bit_of high x).1 le.1 in omega arith,
)

pub record Bit (one k x low high : ℕ) : Type 0 where
  pub is : (bit_at one k ≡ 0) ↔ ((low ≤ x) × (x ≤ high))

pub three_bits : (b : ZBox) (one two three k x y o : ℕ) → Bit one k x b.x_first b.x_last → Bit two k y b.y_first b.y_last → Bit three k o b.offset_first b.offset_last
    → (bit_at (bit_or (bit_or one two) three) k ≡ 0) ↔ IsInBox b x y o
three_bits b one two three k x y o p q r = (
  λ z. let h = bit_at_or (bit_or one two) three k in
      let g = bit_at_or one two k in
      let px = p.is.0 (omega arith) in
      let py = q.is.0 (omega arith) in
      let po = r.is.0 (omega arith) in
      (record { x_within = px.0; y_within = py.0; offset_within = po.0 }, record { x_within = px.1; y_within = py.1; offset_within = po.1 }),
  λ there. let h = bit_at_or (bit_or one two) three k in
      let g = bit_at_or one two k in
      let px = p.is.1 (there.0.x_within, there.1.x_within) in
      let py = q.is.1 (there.0.y_within, there.1.y_within) in
      let po = r.is.1 (there.0.offset_within, there.1.offset_within) in
      omega arith,
)

pub iff_trans : (P Q R : Type 0) → (P ↔ Q) → (Q ↔ R) → P ↔ R
iff_trans P Q R f g = (λ p. g.0 (f.0 p), λ r. f.1 (g.1 r))

pub eight_more : (Q : ℕ → Type 0) (old new : List Bool) (at : ℕ) → ((i : ℕ) → i < at → IsTrue (get_or old i false) ↔ Q i) → ((i : ℕ) → i < at → get_or new i false ≡ get_or old i false)
    → ((k : ℕ) → k < 8 → IsTrue (get_or new (at + k) false) ↔ Q (at + k)) → (i : ℕ) → i < at + 8 → IsTrue (get_or new i false) ↔ Q i
eight_more Q old new at done kept put i lt =
    elim (cases_lt i at) [
      | inl l ↦ subst (λ t. IsTrue t ↔ Q i) (sym (kept i l)) (done i l)
      | inr g ↦ let e : at + (i - at) ≡ i = omega arith in subst (λ n. IsTrue (get_or new n false) ↔ Q n) e (put (i - at) (omega arith))
    ]
