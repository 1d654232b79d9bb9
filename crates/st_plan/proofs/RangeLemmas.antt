-- The ranges of runs.
use Rattle.std.proofs.Common.{◌≡◌, ℕ, ◌+◌, ◌*◌, ◌/◌, ◌^◌, ◌<◌, ◌≤◌, ◌↔◌, IsTrue, List, [], ◌∷◌, ◌++◌, length, inl, inr, sym, ap, subst, arith}
use Rattle.std.proofs.lemmas.Bool.{cases_lt}
use Rattle.std.proofs.Math.Nat.{div-mul-le_self, lt-div-mul-add, div-lt_iff_lt-mul}
use Rattle.std.proofs.lemmas.Nat.{pow_pos, le-div, mul-le}
use Rattle.st_box.specs.declared.zbox.ZBox.{ZBox}
use Rattle.st_bigmin.specs.declared.run.Run.{Run}
use Rattle.st_box.specs.ZBox.{IsInside}
use Rattle.st_bigmin.specs.Run.{IsNextRun}
use Rattle.st_bigmin.specs.inner.Runs.{IsRunTo, IsLeastInCell, IsGreatestInCell}
use Rattle.st_box.proofs.Cells.{above_prefix}
use Rattle.st_plan.specs.declared.range.Range.{Range}
use Rattle.st_plan.specs.Coarse.{InCoarse, Runs}
use Rattle.st_plan.specs.inner.Levels.{AreFirstRuns, HasFewRuns, HoldExactly, Ranges}
use Rattle.st_plan.specs.Plan.{IsRangeOf, IsPlanOf}
use Rattle.st_plan.specs.inner.Covers.{Rise, Hold}
use Rattle.st_plan.specs.inner.Levels.{AreRangesAt}
use Rattle.st_plan.proofs.CoarseLemmas.{up, down}
use Rattle.st_plan.proofs.RunLists.{begins-append, begins-runs}
use Rattle.st_plan.proofs.LevelLemmas.{next_along, same_length}

-- ---- level 0

pub base : (b : ZBox) (a : ℕ) → InCoarse b 0 a → IsInside b a
base b a w = record {
  is_address = w.is_address;
  from_first = record { x_within = omega (arith, w.from_first.x_within); y_within = omega (arith, w.from_first.y_within); offset_within = omega (arith, w.from_first.offset_within) };
  to_last = record { x_within = omega (arith, w.to_last.x_within); y_within = omega (arith, w.to_last.y_within); offset_within = omega (arith, w.to_last.offset_within) };
}

pub base-back : (b : ZBox) (a : ℕ) → IsInside b a → InCoarse b 0 a
base-back b a w = record {
  is_address = w.is_address;
  from_first = record { x_within = omega (arith, w.from_first.x_within); y_within = omega (arith, w.from_first.y_within); offset_within = omega (arith, w.from_first.offset_within) };
  to_last = record { x_within = omega (arith, w.to_last.x_within); y_within = omega (arith, w.to_last.y_within); offset_within = omega (arith, w.to_last.offset_within) };
}

no_sum : (level : ℕ) → 0 + level ≡ level
no_sum level = omega arith

-- an address of the box under a coarse address
pub under : (b : ZBox) (level c : ℕ) → InCoarse b level c → (a : ℕ) × (IsInside b a) × (a / 2 ^ (3 * level) ≡ c)
under b level c there =
    let one = down b 0 level c (subst (λ n. InCoarse b n c) (sym (no_sum level)) there) in
    (one.address, base b one.address one.inside, one.prefix)

-- the coarse address over an address of the box
pub over : (b : ZBox) (level a : ℕ) → IsInside b a → InCoarse b level (a / 2 ^ (3 * level))
over b level a there = subst (λ n. InCoarse b n (a / 2 ^ (3 * level))) (no_sum level) (up b 0 level a (base-back b a there))

-- ---- one range

least_from : (k c a : ℕ) → c * 2 ^ k ≤ a → c ≤ a / 2 ^ k
least_from k c a le = le-div c a (2 ^ k) (pow_pos k) le

pub range_is : (b : ZBox) (level lo hi last : ℕ) (run : Run) (range : Range) → range.lo ≡ lo → range.hi ≡ hi
    → IsLeastInCell b (3 * level) run.first lo → IsGreatestInCell b (3 * level) run.last hi → IsRunTo (IsInside b) lo last
    → (IsTrue range.exact ↔ (hi ≤ last)) → IsRangeOf b level run range
range_is b level lo hi last run range el eh least greatest to exact =
    let k = 3 * level in
    record {
      lo_inside = subst (IsInside b) (sym el) least.inside;
      lo_covered = omega (arith, ap (λ n. n * 2 ^ k) least.prefix, div-mul-le_self lo (2 ^ k));
      lo_least = λ a there from. elim (cases_lt run.first (a / 2 ^ k)) [
        | inl above ↦ omega (arith, above_prefix k lo a (omega (arith, least.prefix)))
        | inr g ↦ omega (arith, least.least a there (omega (arith, least_from k run.first a from)))
      ];
      hi_inside = subst (IsInside b) (sym eh) greatest.inside;
      hi_covered = let small : hi < hi / 2 ^ k * 2 ^ k + 2 ^ k = lt-div-mul-add (pow_pos k) in omega (arith, ap (λ n. n * 2 ^ k) greatest.prefix);
      hi_greatest = λ a there upto. let below = (div-lt_iff_lt-mul (pow_pos k)).1 upto in
          elim (cases_lt (a / 2 ^ k) run.last) [
            | inl l ↦ omega (arith, above_prefix k a hi (omega (arith, greatest.prefix)))
            | inr g ↦ omega (arith, greatest.greatest a there (omega arith))
          ];
      exact = (
        λ yes a from upto. to.within a (omega arith) (omega (arith, exact.0 yes)),
        λ all. exact.1 (elim (cases_lt last hi) [
          | inl l ↦ absurd (to.after (all (last + 1) (omega (arith, to.ahead)) (omega arith)))
          | inr g ↦ g
        ]),
      );
    }

-- ---- the list so far

pub record SoFar (b : ZBox) (level from : ℕ) (xs : List Range) : Type 0 where
  pub runs : List Run
  pub begins : AreFirstRuns (InCoarse b level) 0 runs from
  pub ranges : Ranges b level runs xs

pub so_far-none : (b : ZBox) (level : ℕ) → SoFar b level 0 []
so_far-none b level = record { runs = []; begins = omega arith; ranges = tt }

ranges-append : (b : ZBox) (level : ℕ) (rs : List Run) (xs : List Range) (r : Run) (x : Range) → Ranges b level rs xs → IsRangeOf b level r x
    → Ranges b level (rs ++ (r ∷ [])) (xs ++ (x ∷ []))
ranges-append b level [] [] r x ranges one = (one, tt)
ranges-append b level [] (y ∷ xs) r x ranges one = absurd ranges
ranges-append b level (s ∷ rs) [] r x ranges one = absurd ranges
ranges-append b level (s ∷ rs) (y ∷ xs) r x ranges one = (ranges.0, ranges-append b level rs xs r x ranges.1 one)

pub so_far-next : (b : ZBox) (level from : ℕ) (xs : List Range) (whole : ZBox) (r : Run) (x : Range) → ((a : ℕ) → IsInside whole a ↔ InCoarse b level a)
    → SoFar b level from xs → IsNextRun (IsInside whole) from r → IsRangeOf b level r x → SoFar b level (r.last + 1) (xs ++ (x ∷ []))
so_far-next b level from xs whole r x same s next one = record {
  runs = s.runs ++ (r ∷ []);
  begins = begins-append (InCoarse b level) s.runs 0 from r s.begins (next_along (IsInside whole) (InCoarse b level) from r same next);
  ranges = ranges-append b level s.runs xs r x s.ranges one;
}

pub so_far-end : (b : ZBox) (level from : ℕ) (xs : List Range) (whole : ZBox) → ((a : ℕ) → IsInside whole a ↔ InCoarse b level a)
    → SoFar b level from xs → ((a : ℕ) → from ≤ a → IsInside whole a → ⊥) → AreRangesAt b level xs
so_far-end b level from xs whole same s none = record {
  runs = s.runs;
  all_runs = begins-runs (InCoarse b level) s.runs 0 from s.begins (λ a from there. none a from ((same a).1 there));
  ranges = s.ranges;
}

-- ---- what the plan of a box is good for

ranges-length : (b : ZBox) (level : ℕ) (rs : List Run) (xs : List Range) → Ranges b level rs xs → length xs ≡ length rs
ranges-length b level [] [] ranges = omega arith
ranges-length b level [] (y ∷ xs) ranges = absurd ranges
ranges-length b level (s ∷ rs) [] ranges = absurd ranges
ranges-length b level (s ∷ rs) (y ∷ xs) ranges = omega (arith, ranges-length b level rs xs ranges.1)

pub plan_of : (b : ZBox) (budget level : ℕ) (xs : List Range) → HasFewRuns b level budget
    → ((finer : ℕ) → finer < level → (rs : List Run) → Runs (InCoarse b finer) 0 rs → budget < length rs) → AreRangesAt b level xs → IsPlanOf b budget xs
plan_of b budget level xs few least at = record {
  level = level;
  runs = at.runs;
  all_runs = at.all_runs;
  in_budget = omega (arith, few.few, same_length b level at.runs few.runs at.all_runs few.all_runs);
  least = least;
  ranges = at.ranges;
}

pub in_budget : (b : ZBox) (budget : ℕ) (xs : List Range) → IsPlanOf b budget xs → length xs ≤ budget
in_budget b budget xs p = omega (arith, p.in_budget, ranges-length b p.level p.runs xs p.ranges)

scaled : (k m n : ℕ) → m ≤ n → m * 2 ^ k ≤ n * 2 ^ k
scaled k m n le = mul-le m (2 ^ k) n (2 ^ k) le (omega arith)

rise_from : (b : ZBox) (level : ℕ) (rs : List Run) (xs : List Range) (from start : ℕ) → Runs (InCoarse b level) from rs → Ranges b level rs xs
    → start ≤ from * 2 ^ (3 * level) → Rise start xs
rise_from b level [] [] from start runs ranges le = tt
rise_from b level [] (y ∷ xs) from start runs ranges le = absurd ranges
rise_from b level (r ∷ rs) [] from start runs ranges le = absurd ranges
rise_from b level (r ∷ rs) (x ∷ xs) from start runs ranges le =
    let k = 3 * level in
    let n = runs.0 in
    let order = n.ordered in
    let one = ranges.0 in
    let some = under b level r.first (n.within r.first (omega arith) order) in
    let low : r.first * 2 ^ k ≤ some.0 = omega (arith, ap (λ n. n * 2 ^ k) some.2, div-mul-le_self some.0 (2 ^ k)) in
    let small : some.0 < some.0 / 2 ^ k * 2 ^ k + 2 ^ k = lt-div-mul-add (pow_pos k) in
    let high : some.0 < (r.last + 1) * 2 ^ k = omega (arith, ap (λ n. n * 2 ^ k) some.2, scaled k r.first r.last order) in (
      omega (arith, scaled k from r.first n.ahead, one.lo_covered),
      omega (arith, one.lo_least some.0 some.1 low, one.hi_greatest some.0 some.1 high),
      rise_from b level rs xs (r.last + 1) (x.hi + 1) runs.1 ranges.1 (omega (arith, one.hi_covered)),
    )

pub rise : (b : ZBox) (budget : ℕ) (xs : List Range) → IsPlanOf b budget xs → Rise 0 xs
rise b budget xs p = rise_from b p.level p.runs xs 0 0 p.all_runs p.ranges (omega arith)

hold_from : (b : ZBox) (level : ℕ) (rs : List Run) (xs : List Range) (from a : ℕ) → Runs (InCoarse b level) from rs → Ranges b level rs xs
    → IsInside b a → from ≤ a / 2 ^ (3 * level) → Hold xs a
hold_from b level [] [] from a runs ranges there le = absurd (runs (a / 2 ^ (3 * level)) le (over b level a there))
hold_from b level [] (y ∷ xs) from a runs ranges there le = absurd ranges
hold_from b level (r ∷ rs) [] from a runs ranges there le = absurd ranges
hold_from b level (r ∷ rs) (x ∷ xs) from a runs ranges there le =
    let k = 3 * level in
    let one = ranges.0 in
    elim (cases_lt r.last (a / 2 ^ k)) [
      | inl beyond ↦ inr (hold_from b level rs xs (r.last + 1) a runs.1 ranges.1 there (omega arith))
      | inr upto ↦
          let first : r.first ≤ a / 2 ^ k = elim (cases_lt (a / 2 ^ k) r.first) [ inl l ↦ absurd (runs.0.before (a / 2 ^ k) le l (over b level a there)) | inr g ↦ g ] in
          let low : r.first * 2 ^ k ≤ a = omega (arith, scaled k r.first (a / 2 ^ k) first, div-mul-le_self a (2 ^ k)) in
          let high : a < (r.last + 1) * 2 ^ k = (div-lt_iff_lt-mul (pow_pos k)).0 (omega arith) in
          inl (one.lo_least a there low, one.hi_greatest a there high)
    ]

pub hold : (b : ZBox) (budget : ℕ) (xs : List Range) → IsPlanOf b budget xs → (a : ℕ) → IsInside b a → Hold xs a
hold b budget xs p a there = hold_from b p.level p.runs xs 0 a p.all_runs p.ranges there (omega arith)

exact_in : (b : ZBox) (level : ℕ) (rs : List Run) (xs : List Range) (a : ℕ) → Ranges b level rs xs → HoldExactly xs a → IsInside b a
exact_in b level rs [] a ranges held = absurd held
exact_in b level [] (x ∷ xs) a ranges held = absurd ranges
exact_in b level (r ∷ rs) (x ∷ xs) a ranges held =
    elim held [ inl h ↦ ranges.0.exact.0 h.0 a h.1 h.2 | inr h ↦ exact_in b level rs xs a ranges.1 h ]

pub exactly : (b : ZBox) (budget : ℕ) (xs : List Range) → IsPlanOf b budget xs → (a : ℕ) → HoldExactly xs a → IsInside b a
exactly b budget xs p a held = exact_in b p.level p.runs xs a p.ranges held
