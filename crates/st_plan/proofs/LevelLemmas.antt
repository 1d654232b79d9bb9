-- Levels whose runs are few, or many.
use Rattle.std.proofs.Common.{◌≡◌, ℕ, zero, suc, ◌+◌, ◌-◌, ◌*◌, ◌/◌, ◌^◌, ◌<◌, ◌≤◌, ◌↔◌, List, [], ◌∷◌, ◌++◌, length, length-append, sym, ap, ◌∙◌, subst, arith}
use Rattle.std.proofs.Math.Nat.{div-eq_of_lt}
use Rattle.st_key.specs.Morton.{gather, spread, x_of, y_of, offset_of}
use Rattle.st_box.specs.declared.zbox.ZBox.{ZBox}
use Rattle.st_bigmin.specs.declared.run.Run.{Run}
use Rattle.st_box.specs.inner.Corners.{address_at}
use Rattle.st_box.specs.ZBox.{IsInside}
use Rattle.st_bigmin.specs.Run.{IsNextRun}
use Rattle.st_box.proofs.Cells.{address-spot}
use Rattle.st_box.proofs.Lanes.{same_spot}
use Rattle.st_plan.specs.Coarse.{InCoarse, Runs, IsTooFine}
use Rattle.st_plan.specs.inner.Levels.{AreFirstRuns, HasFewRuns, HasManyRuns}
use Rattle.st_plan.proofs.CoarseLemmas.{up, down}
use Rattle.st_plan.proofs.RunLists.{begins-append, begins-runs, runs-begins, no_fewer}

pub next_along : (P Q : ℕ → Type 0) (from : ℕ) (r : Run) → ((a : ℕ) → P a ↔ Q a) → IsNextRun P from r → IsNextRun Q from r
next_along P Q from r same n = record {
  ahead = n.ahead;
  before = λ a le lt there. n.before a le lt ((same a).1 there);
  ordered = n.ordered;
  within = λ a le to. (same a).0 (n.within a le to);
  after = λ there. n.after ((same (r.last + 1)).1 there);
}

-- ---- counting

pub record Counted (b : ZBox) (level from count : ℕ) : Type 0 where
  pub runs : List Run
  pub begins : AreFirstRuns (InCoarse b level) 0 runs from
  pub counted : length runs ≡ count

pub counted-zero : (b : ZBox) (level : ℕ) → Counted b level 0 0
counted-zero b level = record { runs = []; begins = omega arith; counted = omega arith }

pub counted-next : (b : ZBox) (level from count : ℕ) (whole : ZBox) (r : Run) → ((a : ℕ) → IsInside whole a ↔ InCoarse b level a)
    → Counted b level from count → IsNextRun (IsInside whole) from r → Counted b level (r.last + 1) (count + 1)
counted-next b level from count whole r same c next = record {
  runs = c.runs ++ (r ∷ []);
  begins = begins-append (InCoarse b level) c.runs 0 from r c.begins (next_along (IsInside whole) (InCoarse b level) from r same next);
  counted = omega (arith, length-append c.runs (r ∷ []), c.counted);
}

pub few-counted : (b : ZBox) (level from count budget : ℕ) (whole : ZBox) → ((a : ℕ) → IsInside whole a ↔ InCoarse b level a)
    → Counted b level from count → count ≤ budget → ((a : ℕ) → from ≤ a → IsInside whole a → ⊥) → HasFewRuns b level budget
few-counted b level from count budget whole same c le none = record {
  runs = c.runs;
  all_runs = begins-runs (InCoarse b level) c.runs 0 from c.begins (λ a from there. none a from ((same a).1 there));
  few = omega (arith, c.counted);
}

pub many-counted : (b : ZBox) (level from count : ℕ) (whole : ZBox) (r : Run) → ((a : ℕ) → IsInside whole a ↔ InCoarse b level a)
    → Counted b level from count → IsNextRun (IsInside whole) from r → HasManyRuns b level count
many-counted b level from count whole r same c next =
    let d = counted-next b level from count whole r same c next in
    record { runs = d.runs; end = r.last + 1; begins = d.begins; many = omega (arith, d.counted) }

-- ---- from level to level

pub too_fine : (b : ZBox) (level budget m : ℕ) → HasManyRuns b level budget → m ≤ level → IsTooFine b budget m
too_fine b level budget m many le rs runs =
    let j = level - m in
    let e : level ≡ m + j = omega arith in
    let begins : AreFirstRuns (InCoarse b (m + j)) 0 many.runs many.end = subst (λ n. AreFirstRuns (InCoarse b n) 0 many.runs many.end) e many.begins in
    let le = no_fewer (InCoarse b m) (InCoarse b (m + j)) (3 * j) (λ a there. up b m j a there) many.runs rs 0 0 many.end
    (λ c le there. let one = down b m j c there in record { number = one.address; late = omega arith; inside = one.inside; prefix = one.prefix })
    begins runs in
    omega (arith, many.many)

pub same_length : (b : ZBox) (level : ℕ) (rs ss : List Run) → Runs (InCoarse b level) 0 rs → Runs (InCoarse b level) 0 ss → length rs ≤ length ss
same_length b level rs ss runs others =
    let begun = runs-begins (InCoarse b level) rs 0 runs in
    let one : (a : ℕ) → a / 2 ^ 0 ≡ a = λ a. omega arith in
    no_fewer (InCoarse b level) (InCoarse b level) 0 (λ a there. subst (InCoarse b level) (sym (one a)) there) rs ss 0 0 begun.end
    (λ c le there. record { number = c; late = le; inside = there; prefix = one c })
    begun.begins others

-- ---- the highest level

gather-zero : (n : ℕ) → gather n 0 ≡ 0
unfolding gather
gather-zero zero = omega arith
gather-zero (suc n) = omega (arith, gather-zero n)

spread-zero : (n : ℕ) → spread n 0 ≡ 0
unfolding spread
spread-zero zero = omega arith
spread-zero (suc n) = omega (arith, spread-zero n)

no_level : (n : ℕ) → n < 2 ^ 21 → n / 2 ^ 21 ≡ 0
no_level n fits = div-eq_of_lt fits

top_is_zero : (b : ZBox) (a : ℕ) → InCoarse b 21 a → a ≡ 0
top_is_zero b a w =
    let x : x_of a ≡ 0 = omega (arith, w.to_last.x_within, no_level b.x_last b.x_in_range) in
    let y : y_of a ≡ 0 = omega (arith, w.to_last.y_within, no_level b.y_last b.y_in_range) in
    let o : offset_of a ≡ 0 = omega (arith, w.to_last.offset_within, no_level b.offset_last b.offset_in_range) in
    sym (address-spot a w.is_address) ∙ ap address_at (same_spot _ _ _ _ _ _ x y o) ∙ omega (arith, spread-zero 21)

zero_in_top : (b : ZBox) → InCoarse b 21 0
zero_in_top b =
    let lx = no_level b.x_first (omega (arith, b.x_ordered, b.x_in_range)) in
    let ly = no_level b.y_first (omega (arith, b.y_ordered, b.y_in_range)) in
    let lo = no_level b.offset_first (omega (arith, b.offset_ordered, b.offset_in_range)) in
    let g = gather-zero 21 in
    record {
      is_address = omega arith;
      from_first = record { x_within = omega arith; y_within = omega arith; offset_within = omega arith };
      to_last = record { x_within = omega arith; y_within = omega arith; offset_within = omega arith };
    }

pub few_at_top : (b : ZBox) (budget : ℕ) → 0 < budget → HasFewRuns b 21 budget
few_at_top b budget some =
    let whole : Run = record { first = 0; last = 0 } in
    let one : IsNextRun (InCoarse b 21) 0 whole = record {
      ahead = omega arith;
      before = λ a from to there. absurd (omega arith);
      ordered = omega arith;
      within = λ a from to. let e : 0 ≡ a = omega arith in subst (InCoarse b 21) e (zero_in_top b);
      after = λ there. absurd (omega (arith, top_is_zero b 1 there));
    } in
    record {
      runs = whole ∷ [];
      all_runs = (one, λ a from there. absurd (omega (arith, top_is_zero b a there)));
      few = omega arith;
    }
