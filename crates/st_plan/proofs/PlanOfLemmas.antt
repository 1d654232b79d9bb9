-- The computed plan is the plan.
use Rattle.std.proofs.Common.{◌≡◌, ◌↔◌, ℕ, ◌+◌, ◌-◌, ◌*◌, ◌/◌, ◌^◌, ◌<◌, ◌≤◌, IsTrue, List, [], ◌∷◌, map, length, Bool, true, ◌&&◌, not, nat_le, nat_lt, inl, inr, refl, ap, ◌∙◌, subst, arith}
use Rattle.std.proofs.lemmas.Bool.{cases_lt, both_ways, leb-true, leb-false, le-leb, ltb-true, lt-ltb, and_parts, and_from, not-true, not-false}
use Rattle.std.proofs.lemmas.Nat.{pow_pos, div-add-mod', mod_below}
use Rattle.std.proofs.Math.Nat.{div-mul-le_self, div-le_self}
use Rattle.st_key.specs.Morton.{x_of, y_of, offset_of}
use Rattle.st_box.specs.Corner.{spot_at}
use Rattle.st_box.specs.inner.Corners.{address_at}
use Rattle.st_box.specs.declared.part.Part.{Part}
use Rattle.st_box.specs.declared.zbox.ZBox.{ZBox}
use Rattle.st_box.specs.Part.{Cut, cut_of, cuts_of}
use Rattle.st_box.specs.declared.query.Query.{Query}
use Rattle.st_key.specs.declared.period.Period.{Period}
use Rattle.st_plan.specs.declared.part_plan.PartPlan.{PartPlan}
use Rattle.st_plan.specs.QueryPlan.{IsQueryPlan}
use Rattle.st_box.specs.ZBox.{IsInside, last_of}
use Rattle.st_box.proofs.Cells.{InCube, address-mono, address-spot, address-lt}
use Rattle.st_bigmin.specs.declared.run.Run.{Run}
use Rattle.st_plan.specs.Coarse.{InCoarse, Runs, coarse_spot, IsTooFine}
use Rattle.st_plan.specs.Plan.{IsRangeOf, IsPlanOf}
use Rattle.st_plan.specs.inner.Levels.{PartPlans, Ranges}
use Rattle.st_plan.specs.PlanOf.{plan_of}
use Rattle.st_plan.specs.inner.Computing.{first_not, last_below, has_address, coarse_cut, end_of, coarse_runs, level_of, range_of, ranges_of}
use Rattle.st_plan.proofs.RangeLemmas.{base, base-back, under}
use Rattle.st_plan.proofs.LevelLemmas.{same_length, few_at_top}
use Rattle.st_plan.proofs.Sets.{Tests, runs_of-are, last_below-is, IsFound, find-is, first_not-low, first_not-before, first_not-stop}

-- ---- the test of a coarse box

between-parts : (lo hi n : ℕ) → (nat_le lo n && nat_le n hi) ≡ true → (lo ≤ n) × (n ≤ hi)
between-parts lo hi n h = let t = and_parts (nat_le lo n) (nat_le n hi) h in (leb-true lo n t.0, leb-true n hi t.1)

between-from : (lo hi n : ℕ) → lo ≤ n → n ≤ hi → (nat_le lo n && nat_le n hi) ≡ true
between-from lo hi n from to = and_from (nat_le lo n) (nat_le n hi) (le-leb lo n from) (le-leb n hi to)

last_in_cube : (b : ZBox) (level : ℕ) → InCube (coarse_spot level (last_of b))
last_in_cube b level = record {
  x_fits = omega (arith, div-le_self b.x_last (2 ^ level), b.x_in_range);
  y_fits = omega (arith, div-le_self b.y_last (2 ^ level), b.y_in_range);
  offset_fits = omega (arith, div-le_self b.offset_last (2 ^ level), b.offset_in_range);
}

-- the tests of the box of a part are of its addresses
pub tests : (p : Part) (level : ℕ) → Tests (InCoarse p.zbox level) (has_address (coarse_cut level (cut_of p))) (end_of (coarse_cut level (cut_of p)))
tests p level =
    let b = p.zbox in
    let top = coarse_spot level (last_of b) in
    let fits : address_at top < 2 ^ 63 = address-lt top (last_in_cube b level) in
    let X = λ (a : ℕ). nat_le (b.x_first / 2 ^ level) (x_of a) && nat_le (x_of a) (b.x_last / 2 ^ level) in
    let Y = λ (a : ℕ). nat_le (b.y_first / 2 ^ level) (y_of a) && nat_le (y_of a) (b.y_last / 2 ^ level) in
    let O = λ (a : ℕ). nat_le (b.offset_first / 2 ^ level) (offset_of a) && nat_le (offset_of a) (b.offset_last / 2 ^ level) in
    record {
      is = λ a low. (
        λ held.
            let xy = and_parts (X a && Y a) (O a) held in
            let x = and_parts (X a) (Y a) xy.0 in
            let px = between-parts (b.x_first / 2 ^ level) (b.x_last / 2 ^ level) (x_of a) x.0 in
            let py = between-parts (b.y_first / 2 ^ level) (b.y_last / 2 ^ level) (y_of a) x.1 in
            let po = between-parts (b.offset_first / 2 ^ level) (b.offset_last / 2 ^ level) (offset_of a) xy.1 in
            record {
              is_address = omega arith;
              from_first = record { x_within = px.0; y_within = py.0; offset_within = po.0 };
              to_last = record { x_within = px.1; y_within = py.1; offset_within = po.1 };
            },
        λ there. and_from (X a && Y a) (O a)
            (and_from (X a) (Y a)
            (between-from (b.x_first / 2 ^ level) (b.x_last / 2 ^ level) (x_of a) there.from_first.x_within there.to_last.x_within)
            (between-from (b.y_first / 2 ^ level) (b.y_last / 2 ^ level) (y_of a) there.from_first.y_within there.to_last.y_within))
            (between-from (b.offset_first / 2 ^ level) (b.offset_last / 2 ^ level) (offset_of a) there.from_first.offset_within there.to_last.offset_within),
      );
      below = λ a there. omega (arith, address-mono (spot_at a) top there.to_last (last_in_cube b level), address-spot a there.is_address);
    }

abbrev make : (lo hi x0 x1 y0 y1 o0 o1 : ℕ) → Cut
make lo hi x0 x1 y0 y1 o0 o1 = record { bin_lo = lo; bin_hi = hi; first = record { x = x0; y = y0; offset = o0 }; last = record { x = x1; y = y1; offset = o1 } }

by_one : (n : ℕ) → n / 2 ^ 0 ≡ n
by_one n = omega arith

coarse_zero : (c : Cut) → coarse_cut 0 c ≡ c
coarse_zero c =
    ap (λ n. make c.bin_lo c.bin_hi n (c.last.x / 2 ^ 0) (c.first.y / 2 ^ 0) (c.last.y / 2 ^ 0) (c.first.offset / 2 ^ 0) (c.last.offset / 2 ^ 0)) (by_one c.first.x)
    ∙ ap (λ n. make c.bin_lo c.bin_hi c.first.x n (c.first.y / 2 ^ 0) (c.last.y / 2 ^ 0) (c.first.offset / 2 ^ 0) (c.last.offset / 2 ^ 0)) (by_one c.last.x)
    ∙ ap (λ n. make c.bin_lo c.bin_hi c.first.x c.last.x n (c.last.y / 2 ^ 0) (c.first.offset / 2 ^ 0) (c.last.offset / 2 ^ 0)) (by_one c.first.y)
    ∙ ap (λ n. make c.bin_lo c.bin_hi c.first.x c.last.x c.first.y n (c.first.offset / 2 ^ 0) (c.last.offset / 2 ^ 0)) (by_one c.last.y)
    ∙ ap (λ n. make c.bin_lo c.bin_hi c.first.x c.last.x c.first.y c.last.y n (c.last.offset / 2 ^ 0)) (by_one c.first.offset)
    ∙ ap (λ n. make c.bin_lo c.bin_hi c.first.x c.last.x c.first.y c.last.y c.first.offset n) (by_one c.last.offset)

-- and at level 0, of the box itself
set_of : (p : Part) → Tests (IsInside p.zbox) (has_address (cut_of p)) (end_of (cut_of p))
set_of p =
    let t = tests p 0 in
    subst (λ c. Tests (IsInside p.zbox) (has_address c) (end_of c)) (coarse_zero (cut_of p)) (record {
      is = λ a low. (λ held. base p.zbox a ((t.is a low).0 held), λ there. (t.is a low).1 (base-back p.zbox a there));
      below = λ a there. t.below a (base-back p.zbox a there);
    })

-- ---- the level

abbrev fits_in : Cut → ℕ → ℕ → Bool
fits_in c budget level = nat_le (length (coarse_runs c level)) budget

runs_are : (p : Part) (level : ℕ) → Runs (InCoarse p.zbox level) 0 (coarse_runs (cut_of p) level)
runs_are p level = runs_of-are (InCoarse p.zbox level) (has_address (coarse_cut level (cut_of p))) (end_of (coarse_cut level (cut_of p))) (tests p level)

level_found : (p : Part) (budget : ℕ) → IsFound (fits_in (cut_of p) budget) 0 21 (level_of (cut_of p) budget)
level_found p budget = find-is (fits_in (cut_of p) budget) 21 0 21 refl

in_level : (p : Part) (budget : ℕ) → 0 < budget → length (coarse_runs (cut_of p) (level_of (cut_of p) budget)) ≤ budget
in_level p budget some =
    let c = cut_of p in
    let level = level_of c budget in
    let found = level_found p budget in
    elim (cases_lt level 21) [
      | inl low ↦ leb-true (length (coarse_runs c level)) budget (found.found (λ e. omega arith))
      | inr high ↦
          let top : level ≡ 21 = omega (arith, found.high) in
          let few = few_at_top p.zbox budget some in
          let le = same_length p.zbox 21 (coarse_runs c 21) few.runs (runs_are p 21) few.all_runs in
          let same = ap (λ n. length (coarse_runs c n)) top in
          omega (arith, le, few.few, same)
    ]

least_level : (p : Part) (budget finer : ℕ) → finer < level_of (cut_of p) budget → IsTooFine p.zbox budget finer
least_level p budget finer below rs runs =
    let c = cut_of p in
    let over = leb-false (length (coarse_runs c finer)) budget ((level_found p budget).before finer (omega arith) below) in
    let le = same_length p.zbox finer (coarse_runs c finer) rs (runs_are p finer) runs in
    omega (arith, over, le)

-- ---- one range

record Lo (b : ZBox) (from m : ℕ) : Type 0 where
  inside : IsInside b m
  ahead : from ≤ m
  least : (a : ℕ) → IsInside b a → from ≤ a → m ≤ a

lo_is : (p : Part) (from a : ℕ) → IsInside p.zbox a → from ≤ a → Lo p.zbox from (first_not (λ n. not (has_address (cut_of p) n)) from (end_of (cut_of p) - from))
lo_is p from a there low =
    let t = set_of p in
    let end = end_of (cut_of p) in
    let has = has_address (cut_of p) in
    let out : ℕ → Bool = λ n. not (has n) in
    let m = first_not out from (end - from) in
    let least : (n : ℕ) → IsInside p.zbox n → from ≤ n → m ≤ n = λ n inside after. elim (cases_lt n m) [
      | inl early ↦ absurd (both_ways (has n) (not-true (has n) (first_not-before out (end - from) from n after early)) ((t.is n (t.below n inside)).1 inside))
      | inr late ↦ late
    ] in
    let below : m < end = omega (arith, least a there low, t.below a there) in
    let held = not-false (has m) (first_not-stop out (end - from) from (omega (arith, below, t.below a there))) in
    record { inside = (t.is m below).0 held; ahead = first_not-low out (end - from) from; least = least }

record Hi (b : ZBox) (top end m : ℕ) : Type 0 where
  inside : IsInside b m
  below_top : m < top
  below_end : m < end
  greatest : (a : ℕ) → IsInside b a → a < top → a ≤ m

hi_is : (p : Part) (top a : ℕ) → IsInside p.zbox a → a < top → Hi p.zbox top (end_of (cut_of p)) (last_below (λ n. has_address (cut_of p) n && nat_lt n top) (end_of (cut_of p)))
hi_is p top a there below =
    let t = set_of p in
    let end = end_of (cut_of p) in
    let has = has_address (cut_of p) in
    let set : ℕ → Bool = λ n. has n && nat_lt n top in
    let held : (n : ℕ) → IsInside p.zbox n → n < top → set n ≡ true = λ n inside low. and_from (has n) (nat_lt n top) ((t.is n (t.below n inside)).1 inside) (lt-ltb n top low) in
    let last = last_below-is set end a (t.below a there) (held a there below) in
    let m = last_below set end in
    let parts = and_parts (has m) (nat_lt m top) last.inside in
    record {
      inside = (t.is m last.below).0 parts.0;
      below_top = ltb-true m top parts.1;
      below_end = last.below;
      greatest = λ n inside low. last.greatest n (t.below n inside) (held n inside low);
    }

exact_is : (p : Part) (lo hi : ℕ) → hi < end_of (cut_of p)
    → IsTrue (nat_lt hi (first_not (has_address (cut_of p)) lo (end_of (cut_of p) - lo))) ↔ ((a : ℕ) → lo ≤ a → a ≤ hi → IsInside p.zbox a)
exact_is p lo hi fits =
    let t = set_of p in
    let end = end_of (cut_of p) in
    let has = has_address (cut_of p) in
    let stop = first_not has lo (end - lo) in (
      λ held a from to.
          let below = ltb-true hi stop held in
          (t.is a (omega arith)).0 (first_not-before has (end - lo) lo a from (omega arith)),
      λ all. elim (cases_lt hi stop) [
        | inl below ↦ lt-ltb hi stop below
        | inr early ↦
            let low = first_not-low has (end - lo) lo in
            absurd (both_ways (has stop) (first_not-stop has (end - lo) lo (omega arith)) ((t.is stop (omega arith)).1 (all stop low early)))
      ],
    )

range_is_of : (p : Part) (level : ℕ) (r : Run) → InCoarse p.zbox level r.first → InCoarse p.zbox level r.last → IsRangeOf p.zbox level r (range_of (cut_of p) level r)
range_is_of p level r first last =
    let k = 3 * level in
    let a = under p.zbox level r.first first in
    let z = under p.zbox level r.last last in
    let from : r.first * 2 ^ k ≤ a.0 = omega (arith, ap (λ n. n * 2 ^ k) a.2, div-mul-le_self a.0 (2 ^ k)) in
    let to : z.0 < (r.last + 1) * 2 ^ k = omega (arith, ap (λ n. n * 2 ^ k) z.2, div-add-mod' z.0 (2 ^ k), mod_below z.0 (2 ^ k) (pow_pos k)) in
    let lo = lo_is p (r.first * 2 ^ k) a.0 a.1 from in
    let hi = hi_is p ((r.last + 1) * 2 ^ k) z.0 z.1 to in
    record {
      lo_inside = lo.inside;
      lo_covered = lo.ahead;
      lo_least = lo.least;
      hi_inside = hi.inside;
      hi_covered = hi.below_top;
      hi_greatest = hi.greatest;
      exact = exact_is p _ _ hi.below_end;
    }

ranges_are : (p : Part) (level from : ℕ) (rs : List Run) → Runs (InCoarse p.zbox level) from rs → Ranges p.zbox level rs (map (range_of (cut_of p) level) rs)
ranges_are p level from [] h = tt
ranges_are p level from (r ∷ rs) h = (
  range_is_of p level r (h.0.within r.first (omega arith) h.0.ordered) (h.0.within r.last h.0.ordered (omega arith)),
  ranges_are p level (r.last + 1) rs h.1,
)

pub is_plan_of : (p : Part) (budget : ℕ) → 0 < budget → IsPlanOf p.zbox budget (ranges_of (cut_of p) budget)
is_plan_of p budget some =
    let level = level_of (cut_of p) budget in
    record {
      level = level;
      runs = coarse_runs (cut_of p) level;
      all_runs = runs_are p level;
      in_budget = in_level p budget some;
      least = least_level p budget;
      ranges = ranges_are p level 0 (coarse_runs (cut_of p) level) (runs_are p level);
    }

-- ---- the whole plan

abbrev pub part_plan_of : {A : Type 0} → ℕ → Cut → PartPlan A
part_plan_of budget c = record { bin_lo = c.bin_lo; bin_hi = c.bin_hi; ranges = ranges_of c budget }

plans_are : (A : Type 0) (budget : ℕ) → 0 < budget → (ps : List Part) → PartPlans {A = A} budget ps (map (part_plan_of {A = A} budget) (map cut_of ps))
plans_are A budget some [] = tt
plans_are A budget some (p ∷ ps) = (record { same_lo = refl; same_hi = refl; ranges = is_plan_of p budget some }, plans_are A budget some ps)

-- the computed plan is a plan, where the query has parts
pub is_query_plan_of : (A : Type 0) (period : Period) (q : Query) (budget : ℕ) → 0 < budget → (ps : List Part) → map cut_of ps ≡ cuts_of period q
    → IsQueryPlan {A = A} period q budget (plan_of {A = A} period q budget)
unfolding plan_of
is_query_plan_of A period q budget some ps cuts = record {
  parts = ps;
  cuts = cuts;
  plans = subst (λ cs. PartPlans {A = A} budget ps (map (part_plan_of {A = A} budget) cs)) cuts (plans_are A budget some ps);
}
