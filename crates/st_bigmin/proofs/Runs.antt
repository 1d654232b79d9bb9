-- How far a run of a box goes.
use Rattle.std.proofs.Common.{◌≡◌, ℕ, suc, ◌+◌, ◌-◌, ◌*◌, ◌/◌, ◌%◌, ◌^◌, ◌<◌, ◌≤◌, inl, inr, sym, ap, ◌∙◌, subst, arith}
use Rattle.std.proofs.lemmas.Bool.{cases_lt}
use Rattle.std.proofs.Math.Nat.{pow-suc, lt-div-mul-add, div-lt_iff_lt-mul}
use Rattle.std.proofs.Math.Pow.{pow_mono}
use Rattle.std.proofs.lemmas.Nat.{shr_high, pow_pos}
use Rattle.st_key.specs.Order.{Spot}
use Rattle.st_box.specs.declared.zbox.ZBox.{ZBox}
use Rattle.st_box.specs.Corner.{IsWithin, spot_at}
use Rattle.st_box.specs.ZBox.{IsInside, first_of, last_of}
use Rattle.st_bigmin.specs.Run.{IsNextRun}
use Rattle.st_bigmin.specs.inner.Runs.{IsRunTo}
use Rattle.st_bigmin.specs.inner.Cells.{IsBetween, HasCell, IsFirstOutside}
use Rattle.st_box.proofs.Cells.{after_first, before_last, above_prefix}
use Rattle.st_box.proofs.Boxes.{within_trans}
use Rattle.st_bigmin.proofs.Jumps.{half_prefix, no_prefix, room_above}

-- an address of a cell that is held is between
pub cell_between : (s t : Spot) (k p a : ℕ) → HasCell s t k p → a / 2 ^ k ≡ p → IsBetween s t a
cell_between s t k p a held prefix = record {
  from_first = within_trans s (spot_at (p * 2 ^ k)) (spot_at a) held.starts (after_first k p a prefix);
  to_last = within_trans (spot_at a) (spot_at (p * 2 ^ k + (2 ^ k - 1))) t (before_last k p a prefix) held.ends;
}

-- ---- inside one cell, down to the first address that is not between

pub record Narrowed (s t : Spot) (from end k p : ℕ) : Type 0 where
  pub ahead : from ≤ p * 2 ^ k
  pub before : (a : ℕ) → from ≤ a → a < p * 2 ^ k → IsBetween s t a
  pub partly : HasCell s t k p → ⊥
  pub room : (p + 1) * 2 ^ k ≤ end

pub narrowed-start : (s t : Spot) (k p : ℕ) → (HasCell s t k p → ⊥) → Narrowed s t (p * 2 ^ k) ((p + 1) * 2 ^ k) k p
narrowed-start s t k p partly = record { ahead = omega arith; before = λ a from to. absurd (omega arith); partly = partly; room = omega arith }

pub pow-next : (k : ℕ) → 2 ^ (k + 1) ≡ 2 ^ k * 2
pow-next k = let e : k + 1 ≡ suc k = omega arith in ap (λ n. 2 ^ n) e ∙ pow-suc 2 k

doubled : (k p : ℕ) → p * 2 ^ (k + 1) ≡ p * 2 * 2 ^ k
doubled k p = omega (arith, ap (λ n. p * n) (pow-next k))

-- a held cell beside a held cell make a held cell
both_halves : (s t : Spot) (k p : ℕ) → HasCell s t k (p * 2) → HasCell s t k (p * 2 + 1) → HasCell s t (k + 1) p
both_halves s t k p low high = record {
  starts = subst (λ n. IsWithin s (spot_at n)) (sym (doubled k p)) low.starts;
  ends = subst (λ n. IsWithin (spot_at n) t) (last_same k p) high.ends;
}
  where
    last_same : (k p : ℕ) → (p * 2 + 1) * 2 ^ k + (2 ^ k - 1) ≡ p * 2 ^ (k + 1) + (2 ^ (k + 1) - 1)
    last_same k p = omega (arith, pow_pos k, pow-next k, doubled k p)

in_low : (k p a : ℕ) → p * 2 * 2 ^ k ≤ a → a < (p * 2 + 1) * 2 ^ k → a / 2 ^ k ≡ p * 2
in_low k p a low high = let split : a ≡ p * 2 * 2 ^ k + (a - p * 2 * 2 ^ k) = omega arith in
    ap (λ n. n / 2 ^ k) split ∙ shr_high (p * 2) k (a - p * 2 * 2 ^ k) (omega arith)

pub narrowed-high : (s t : Spot) (from end k p : ℕ) → Narrowed s t from end (k + 1) p → HasCell s t k (p * 2) → Narrowed s t from end k (p * 2 + 1)
narrowed-high s t from end k p n low =
    let twice = doubled k p in
    let pow = pow-next k in
    record {
      ahead = omega (arith, n.ahead);
      before = λ a start stop. elim (cases_lt a (p * 2 * 2 ^ k)) [
        | inl l ↦ n.before a start (omega arith)
        | inr g ↦ cell_between s t k (p * 2) a low (in_low k p a g stop)
      ];
      partly = λ high. n.partly (both_halves s t k p low high);
      room = omega (arith, n.room);
    }

pub narrowed-low : (s t : Spot) (from end k p : ℕ) → Narrowed s t from end (k + 1) p → (HasCell s t k (p * 2) → ⊥) → Narrowed s t from end k (p * 2)
narrowed-low s t from end k p n partly =
    let twice = doubled k p in
    let pow = pow-next k in
    record {
      ahead = omega (arith, n.ahead);
      before = λ a start stop. n.before a start (omega arith);
      partly = partly;
      room = omega (arith, n.room);
    }

-- the lower half has room
pub narrowed-room : (s t : Spot) (from end k p : ℕ) → Narrowed s t from end (k + 1) p → (p * 2 + 1) * 2 ^ k ≤ end
narrowed-room s t from end k p n = omega (arith, n.room, pow-next k, doubled k p)

pub narrowed-end : (s t : Spot) (from end p : ℕ) → Narrowed s t from end 0 p → IsFirstOutside s t from p
narrowed-end s t from end p n = record {
  ahead = omega (arith, n.ahead);
  before = λ a start stop. n.before a start (omega arith);
  outside = λ there. n.partly (record {
    starts = subst (λ m. IsWithin s (spot_at m)) (one p) there.from_first;
    ends = subst (λ m. IsWithin (spot_at m) t) (one_more p) there.to_last;
  });
}
  where
    one : (p : ℕ) → p ≡ p * 2 ^ 0
    one p = omega arith

    one_more : (p : ℕ) → p ≡ p * 2 ^ 0 + (2 ^ 0 - 1)
    one_more p = omega arith

-- ---- up from an address of the box

-- the addresses from z on that have its prefix at this level are in the box
abbrev pub RunsTo : ZBox → ℕ → ℕ → Type 0
RunsTo b z k = (a : ℕ) → z ≤ a → a / 2 ^ k ≡ z / 2 ^ k → IsInside b a

pub runs_to-zero : (b : ZBox) (z : ℕ) → IsInside b z → RunsTo b z 0
runs_to-zero b z inside a from prefix = subst (IsInside b) (omega arith) inside

pub between_inside : (b : ZBox) (a : ℕ) → a < 2 ^ 63 → IsBetween (first_of b) (last_of b) a → IsInside b a
between_inside b a fits w = record { is_address = fits; from_first = w.from_first; to_last = w.to_last }

pub below_prefix : (k m n : ℕ) → m ≤ n → m / 2 ^ k ≤ n / 2 ^ k
below_prefix k m n le = elim (cases_lt (n / 2 ^ k) (m / 2 ^ k)) [ inl l ↦ absurd (omega (arith, above_prefix k n m l)) | inr g ↦ g ]

pub runs_to-suc : (b : ZBox) (z k : ℕ) → z < 2 ^ 63 → k < 63 → RunsTo b z k → (z / 2 ^ k % 2 ≡ 0 → HasCell (first_of b) (last_of b) k (z / 2 ^ k + 1)) → RunsTo b z (k + 1)
runs_to-suc b z k fits level runs held a from prefix =
    let za = half_prefix k z in
    let aa = half_prefix k a in
    let up = below_prefix k z a from in
    elim (cases_lt (z / 2 ^ k) (a / 2 ^ k)) [
      | inl l ↦
          let even : z / 2 ^ k % 2 ≡ 0 = omega arith in
          let here : a / 2 ^ k ≡ z / 2 ^ k + 1 = omega arith in
          let room = room_above z k fits level even in
          let small : a < (a / 2 ^ k) * 2 ^ k + 2 ^ k = lt-div-mul-add (pow_pos k) in
          let same : (a / 2 ^ k) * 2 ^ k ≡ (z / 2 ^ k + 1) * 2 ^ k = ap (λ n. n * 2 ^ k) here in
          between_inside b a (omega arith) (cell_between (first_of b) (last_of b) k (z / 2 ^ k + 1) a (held even) here)
      | inr g ↦ runs a from (omega arith)
    ]

-- where no cell beside z was left to try, the run goes on to the last address
pub run_to-end : (b : ZBox) (z k : ℕ) → IsInside b z → RunsTo b z k → 63 ≤ k → IsRunTo (IsInside b) z (2 ^ 63 - 1)
run_to-end b z k inside runs all = record {
  ahead = omega (arith, inside.is_address);
  within = λ a from to.
      let wide : 2 ^ 63 ≤ 2 ^ k = pow_mono all in
      runs a from (no_prefix a k (omega arith) ∙ sym (no_prefix z k (omega (arith, inside.is_address))));
  after = λ there. absurd (omega (arith, there.is_address));
}

-- where the cell beside z is not held, the run ends in it
pub run_to-cell : (b : ZBox) (z k m : ℕ) → IsInside b z → RunsTo b z k → (z / 2 ^ k + 1 + 1) * 2 ^ k ≤ 2 ^ 63
    → IsFirstOutside (first_of b) (last_of b) ((z / 2 ^ k + 1) * 2 ^ k) m → m < (z / 2 ^ k + 1 + 1) * 2 ^ k
    → (1 ≤ m) × IsRunTo (IsInside b) z (m - 1) × (m - 1 < 2 ^ 63)
run_to-cell b z k m inside runs room found to =
    let small : z < z / 2 ^ k * 2 ^ k + 2 ^ k = lt-div-mul-add (pow_pos k) in
    let ahead = found.ahead in
    let some : 1 ≤ m = omega arith in (
      some,
      record {
        ahead = omega arith;
        within = λ a from upto. elim (cases_lt a ((z / 2 ^ k + 1) * 2 ^ k)) [
          | inl l ↦ runs a from (in_same k z a from (omega arith))
          | inr g ↦ between_inside b a (omega arith) (found.before a g (omega arith))
        ];
        after = λ there. found.outside (subst (IsBetween (first_of b) (last_of b)) (omega arith) (record { from_first = there.from_first; to_last = there.to_last }));
      },
      omega arith,
    )
  where
    in_same : (k z a : ℕ) → z ≤ a → a < (z / 2 ^ k + 1) * 2 ^ k → a / 2 ^ k ≡ z / 2 ^ k
    in_same k z a from to =
        let up = below_prefix k z a from in
        let below = (div-lt_iff_lt-mul (pow_pos k)).1 to in
        omega arith

-- ---- the first run from a place on

pub run_of : (b : ZBox) (from first last : ℕ) → from ≤ first → ((a : ℕ) → from ≤ a → a < first → IsInside b a → ⊥) → IsRunTo (IsInside b) first last
    → IsNextRun (IsInside b) from (record { first = first; last = last })
run_of b from first last ahead before run = record { ahead = ahead; before = before; ordered = run.ahead; within = run.within; after = run.after }
