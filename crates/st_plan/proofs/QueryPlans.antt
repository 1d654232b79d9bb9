-- The plan of a query, part by part.
use Rattle.std.proofs.Common.{◌≡◌, ℕ, ◌+◌, inl, inr, List, [], ◌∷◌, ◌++◌, length, map, take, get_or, add-one, ◌<◌, ◌≤◌, true, ◌&&◌, nat_le, refl, sym, ap, ◌∙◌, subst, arith}
use Rattle.std.specs.List.{AllByRecursion, list_any}
use Rattle.std.proofs.Math.Bool.{true≢false}
use Rattle.std.proofs.Math.Seq.{take-suc}
use Rattle.std.proofs.lemmas.Bool.{and_parts, or_cases, leb-true}
use Rattle.st_key.specs.declared.key.Key.{Key}
use Rattle.st_key.specs.declared.period.Period.{Period}
use Rattle.st_box.specs.declared.part.Part.{Part}
use Rattle.st_box.specs.declared.query.Query.{Query}
use Rattle.st_box.specs.Part.{Cut, cut_of}
use Rattle.st_box.specs.inner.Parts.{HasPart}
use Rattle.st_box.proofs.SameBoxes.{same_box}
use Rattle.st_plan.specs.declared.part_plan.PartPlan.{PartPlan}
use Rattle.st_plan.specs.declared.range.Range.{Range}
use Rattle.st_plan.specs.Plan.{IsPlanOf}
use Rattle.st_plan.specs.inner.Covers.{Rise}
use Rattle.st_plan.specs.inner.Levels.{HoldExactly, PartPlans}
use Rattle.st_plan.specs.Range.{is_exact_in}
use Rattle.st_plan.specs.QueryPlan.{IsPartPlan, IsQueryPlan, is_exact}
use Rattle.st_plan.specs.inner.Covers.{HoldKey}
use Rattle.st_plan.proofs.OnlyPlan.{only_plan}
use Rattle.st_plan.proofs.RangeLemmas as ranges

-- ---- building the list

pub plans-append : {A : Type 0} (budget : ℕ) (ps : List Part) (xs : List (PartPlan A)) (p : Part) (x : PartPlan A)
    → PartPlans budget ps xs → IsPartPlan budget p x → PartPlans budget (ps ++ p ∷ []) (xs ++ x ∷ [])
plans-append budget [] [] p x done here = (here, tt)
plans-append budget [] (y ∷ xs) p x done here = absurd done
plans-append budget (q ∷ ps) [] p x done here = absurd done
plans-append budget (q ∷ ps) (y ∷ xs) p x done here = (done.0, plans-append budget ps xs p x done.1 here)

pub next_part : {A : Type 0} (budget : ℕ) (ps : List Part) (i : ℕ) (p : Part) (xs : List (PartPlan A)) (x : PartPlan A) (ys : List (PartPlan A)) → i < length ps
    → p ≡ get_or ps i p → PartPlans budget (take i ps) xs → IsPartPlan budget p x → ys ≡ xs ++ x ∷ [] → PartPlans budget (take (i + 1) ps) ys
next_part budget ps i p xs x ys within e done here list =
    let one_more : take (i + 1) ps ≡ take i ps ++ p ∷ [] = ap (λ n. take n ps) (add-one i) ∙ take-suc ps i p within ∙ ap (λ v. take i ps ++ v ∷ []) (sym e) in
    subst (λ v. PartPlans budget v ys) (sym one_more) (subst (PartPlans budget (take i ps ++ p ∷ [])) (sym list) (plans-append budget (take i ps) xs p x done here))

-- ---- what it says

pub rising : {A : Type 0} (budget : ℕ) (ps : List Part) (xs : List (PartPlan A)) → PartPlans budget ps xs → AllByRecursion (λ (x : PartPlan A). Rise 0 x.ranges) xs
rising budget [] [] h = tt
rising budget [] (x ∷ xs) h = absurd h
rising budget (p ∷ ps) [] h = absurd h
rising budget (p ∷ ps) (x ∷ xs) h = (ranges.rise p.zbox budget x.ranges h.0.ranges, rising budget ps xs h.1)

pub in_budget : {A : Type 0} (budget : ℕ) (ps : List Part) (xs : List (PartPlan A)) → PartPlans budget ps xs → AllByRecursion (λ (x : PartPlan A). length x.ranges ≤ budget) xs
in_budget budget [] [] h = tt
in_budget budget [] (x ∷ xs) h = absurd h
in_budget budget (p ∷ ps) [] h = absurd h
in_budget budget (p ∷ ps) (x ∷ xs) h = (ranges.in_budget p.zbox budget x.ranges h.0.ranges, in_budget budget ps xs h.1)

pub whole : {A : Type 0} (budget : ℕ) (ps : List Part) (xs : List (PartPlan A)) (k : Key) → PartPlans budget ps xs → HasPart ps k → HoldKey xs k
whole budget [] xs k h there = absurd there
whole budget (p ∷ ps) [] k h there = absurd h
whole budget (p ∷ ps) (x ∷ xs) k h (inl here) =
    inl (omega (arith, h.0.same_lo, here.from_bin), omega (arith, h.0.same_hi, here.to_bin), ranges.hold p.zbox budget x.ranges h.0.ranges k.address here.inside)
whole budget (p ∷ ps) (x ∷ xs) k h (inr later) = inr (whole budget ps xs k h.1 later)

pub exactly : (xs : List Range) (a : ℕ) → list_any (is_exact_in a) xs ≡ true → HoldExactly xs a
exactly [] a h = absurd (true≢false (sym h))
exactly (x ∷ xs) a h =
    elim (or_cases (is_exact_in a x) (list_any (is_exact_in a) xs) h) [
      | inl here ↦
          let to = and_parts (x.exact && nat_le x.lo a) (nat_le a x.hi) here in
          let from = and_parts x.exact (nat_le x.lo a) to.0 in
          inl (from.0, leb-true x.lo a from.1, leb-true a x.hi to.1)
      | inr later ↦ inr (exactly xs a later)
    ]

pub exact : {A : Type 0} (budget : ℕ) (ps : List Part) (xs : List (PartPlan A)) (k : Key) → PartPlans budget ps xs → is_exact xs k ≡ true → HasPart ps k
exact budget ps [] k h there = absurd (true≢false (sym there))
exact budget [] (x ∷ xs) k h there = absurd h
exact budget (p ∷ ps) (x ∷ xs) k h there =
    elim (or_cases (nat_le x.bin_lo k.bin && nat_le k.bin x.bin_hi && list_any (is_exact_in k.address) x.ranges) (is_exact xs k) there) [
      | inl here ↦
          let held = and_parts (nat_le x.bin_lo k.bin && nat_le k.bin x.bin_hi) (list_any (is_exact_in k.address) x.ranges) here in
          let bins = and_parts (nat_le x.bin_lo k.bin) (nat_le k.bin x.bin_hi) held.0 in
          inl (record {
            from_bin = omega (arith, h.0.same_lo, leb-true x.bin_lo k.bin bins.0);
            to_bin = omega (arith, h.0.same_hi, leb-true k.bin x.bin_hi bins.1);
            inside = ranges.exactly p.zbox budget x.ranges h.0.ranges k.address (exactly x.ranges k.address held.1);
          })
      | inr later ↦ inr (exact budget ps xs k h.1 later)
    ]

-- ---- there is one

box_by_cut : (p r : Part) → cut_of p ≡ cut_of r → p.zbox ≡ r.zbox
box_by_cut p r e =
    same_box r.zbox p.zbox (ap (λ c. c.first.x) e, ap (λ c. c.last.x) e, ap (λ c. c.first.y) e, ap (λ c. c.last.y) e, ap (λ c. c.first.offset) e, ap (λ c. c.last.offset) e)

abbrev make : {A : Type 0} → ℕ → ℕ → List Range → PartPlan A
make lo hi xs = record { bin_lo = lo; bin_hi = hi; ranges = xs }

one_part : {A : Type 0} (budget : ℕ) (p r : Part) (x y : PartPlan A) → cut_of p ≡ cut_of r → IsPartPlan budget p x → IsPartPlan budget r y → x ≡ y
one_part {A = A} budget p r x y e hx hy =
    let lo : x.bin_lo ≡ y.bin_lo = hx.same_lo ∙ ap (λ c. c.bin_lo) e ∙ sym hy.same_lo in
    let hi : x.bin_hi ≡ y.bin_hi = hx.same_hi ∙ ap (λ c. c.bin_hi) e ∙ sym hy.same_hi in
    let same = only_plan p.zbox budget x.ranges y.ranges hx.ranges (subst (λ b. IsPlanOf b budget y.ranges) (sym (box_by_cut p r e)) hy.ranges) in
    ap (λ n. make {A = A} n x.bin_hi x.ranges) lo ∙ ap (λ n. make {A = A} y.bin_lo n x.ranges) hi ∙ ap (λ v. make {A = A} y.bin_lo y.bin_hi v) same

first_of : Cut → List Cut → Cut
first_of c [] = c
first_of c (d ∷ ds) = d

rest_of : List Cut → List Cut
rest_of [] = []
rest_of (d ∷ ds) = ds

one_list : {A : Type 0} (budget : ℕ) (ps qs : List Part) (xs ys : List (PartPlan A)) → map cut_of ps ≡ map cut_of qs
    → PartPlans budget ps xs → PartPlans budget qs ys → xs ≡ ys
unfolding first_of rest_of
one_list budget [] [] [] [] e hx hy = refl
one_list budget [] [] (x ∷ xs) ys e hx hy = absurd hx
one_list budget [] [] [] (y ∷ ys) e hx hy = absurd hy
one_list budget [] (q ∷ qs) xs ys e hx hy = absurd (omega (arith, ap length e))
one_list budget (p ∷ ps) [] xs ys e hx hy = absurd (omega (arith, ap length e))
one_list budget (p ∷ ps) (q ∷ qs) [] ys e hx hy = absurd hx
one_list budget (p ∷ ps) (q ∷ qs) (x ∷ xs) [] e hx hy = absurd hy
one_list budget (p ∷ ps) (q ∷ qs) (x ∷ xs) (y ∷ ys) e hx hy =
    let here = one_part budget p q x y (ap (first_of (cut_of p)) e) hx.0 hy.0 in
    ap (λ v. v ∷ xs) here ∙ ap (λ v. y ∷ v) (one_list budget ps qs xs ys (ap rest_of e) hx.1 hy.1)

pub only_query_plan : {A : Type 0} (period : Period) (q : Query) (budget : ℕ) (xs ys : List (PartPlan A)) → IsQueryPlan period q budget xs → IsQueryPlan period q budget ys → xs ≡ ys
only_query_plan period q budget xs ys hx hy = one_list budget hx.parts hy.parts xs ys (hx.cuts ∙ sym hy.cuts) hx.plans hy.plans
