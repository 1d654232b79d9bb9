-- A query has parts, so it has a plan, and that is the one that is computed.
use Rattle.std.proofs.Common.{◌≡◌, ◌↔◌, ℕ, ◌+◌, ◌-◌, ◌*◌, ◌/◌, ◌%◌, ◌^◌, ◌<◌, ◌≤◌, inl, inr, List, [], ◌∷◌, map, refl, sym, ap, subst, arith}
use Rattle.std.proofs.lemmas.Bool.{cases_lt, eq-eqb, ne_eqb, lt-ltb, le-ltb}
use Rattle.std.proofs.lemmas.Nat.{div-add-mod', le-div, mod_below}
use Rattle.st_key.specs.declared.period.Period.{Period}
use Rattle.st_key.specs.Period.{seconds_of}
use Rattle.st_key.proofs.PeriodLemmas.{period}
use Rattle.st_box.specs.declared.part.Part.{Part}
use Rattle.st_box.specs.declared.query.Query.{Query}
use Rattle.st_box.specs.Part.{cut_of, cuts_of}
use Rattle.st_plan.specs.declared.part_plan.PartPlan.{PartPlan}
use Rattle.st_plan.specs.PlanOf.{plan_of}
use Rattle.st_plan.specs.QueryPlan.{IsQueryPlan}
use Rattle.st_plan.proofs.PlanOfLemmas.{is_query_plan_of}
use Rattle.st_plan.proofs.QueryPlans.{only_query_plan}

-- the query in these bins, from one offset to another
abbrev part : (q : Query) (lo hi first last : ℕ) → lo ≤ hi → hi < 229376 → first ≤ last → last < 2 ^ 21 → Part
part q lo hi first last bins low ordered fits = record {
  bin_lo = lo;
  bin_hi = hi;
  zbox = record {
    x_first = q.x0;
    x_last = q.x1;
    y_first = q.y0;
    y_last = q.y1;
    offset_first = first;
    offset_last = last;
    x_ordered = q.x_ordered;
    y_ordered = q.y_ordered;
    offset_ordered = ordered;
    x_in_range = q.x_in_range;
    y_in_range = q.y_in_range;
    offset_in_range = fits;
  };
  bins_ordered = bins;
  bins_in_range = low;
}

record HasParts (w : Period) (q : Query) : Type 0 where
  parts : List Part
  cuts : map cut_of parts ≡ cuts_of w q

-- the numbers of the query's bins and offsets
record Facts (w : Period) (q : Query) : Type 0 where
  bins : q.t0 / seconds_of w ≤ q.t1 / seconds_of w
  first_bin : q.t0 / seconds_of w < 229376
  last_bin : q.t1 / seconds_of w < 229376
  first_offset : q.t0 % seconds_of w ≤ seconds_of w - 1
  last_offset : q.t1 % seconds_of w < 2 ^ 21
  end : seconds_of w - 1 < 2 ^ 21
  within : q.t0 / seconds_of w ≡ q.t1 / seconds_of w → q.t0 % seconds_of w ≤ q.t1 % seconds_of w

facts : (w : Period) (q : Query) → Facts w q
facts w q =
    let s = seconds_of w in
    let p = period w in
    let from = div-add-mod' q.t0 s in
    let to = div-add-mod' q.t1 s in
    record {
      bins = le-div (q.t0 / s) q.t1 s p.some (omega (arith, from, q.t_ordered));
      first_bin = omega (arith, p.bin_below q.t0 (omega (arith, q.t_ordered, q.t_in_range)), p.bound);
      last_bin = omega (arith, p.bin_below q.t1 q.t_in_range, p.bound);
      first_offset = omega (arith, mod_below q.t0 s p.some);
      last_offset = omega (arith, mod_below q.t1 s p.some, p.levels);
      end = omega (arith, p.levels);
      within = λ same. omega (arith, from, to, ap (λ n. n * s) same, q.t_ordered);
    }

in_one : (w : Period) (q : Query) → Facts w q → q.t0 / seconds_of w ≡ q.t1 / seconds_of w → HasParts w q
unfolding cuts_of
in_one w q f same =
    let s = seconds_of w in
    record {
      parts = part q (q.t0 / s) (q.t1 / s) (q.t0 % s) (q.t1 % s) f.bins f.last_bin (f.within same) f.last_offset ∷ [];
      cuts = rw (eq-eqb (q.t0 / s) (q.t1 / s) same) refl;
    }

in_two : (w : Period) (q : Query) → Facts w q → q.t0 / seconds_of w + 1 ≡ q.t1 / seconds_of w → HasParts w q
unfolding cuts_of
in_two w q f next =
    let s = seconds_of w in
    record {
      parts = part q (q.t0 / s) (q.t0 / s) (q.t0 % s) (s - 1) (omega arith) f.first_bin f.first_offset f.end
          ∷ part q (q.t1 / s) (q.t1 / s) 0 (q.t1 % s) (omega arith) f.last_bin (omega arith) f.last_offset ∷ [];
      cuts = rw (ne_eqb (q.t0 / s) (q.t1 / s) (λ e. omega arith), le-ltb (q.t0 / s + 1) (q.t1 / s) (omega arith)) refl;
    }

in_three : (w : Period) (q : Query) → Facts w q → q.t0 / seconds_of w + 1 < q.t1 / seconds_of w → HasParts w q
unfolding cuts_of
in_three w q f later =
    let s = seconds_of w in
    record {
      parts = part q (q.t0 / s) (q.t0 / s) (q.t0 % s) (s - 1) (omega arith) f.first_bin f.first_offset f.end
          ∷ part q (q.t0 / s + 1) (q.t1 / s - 1) 0 (s - 1) (omega (arith, later)) (omega (arith, f.last_bin)) (omega arith) f.end
          ∷ part q (q.t1 / s) (q.t1 / s) 0 (q.t1 % s) (omega arith) f.last_bin (omega arith) f.last_offset ∷ [];
      cuts = rw (ne_eqb (q.t0 / s) (q.t1 / s) (λ e. omega (arith, later)), lt-ltb (q.t0 / s + 1) (q.t1 / s) later) refl;
    }

has_parts : (w : Period) (q : Query) → HasParts w q
has_parts w q =
    let s = seconds_of w in
    let f = facts w q in
    elim (cases_lt (q.t0 / s) (q.t1 / s)) [
      | inl apart ↦ elim (cases_lt (q.t0 / s + 1) (q.t1 / s)) [
        | inl later ↦ in_three w q f later
        | inr next ↦ in_two w q f (omega (arith, apart, next))
      ]
      | inr late ↦ in_one w q f (omega (arith, late, f.bins))
    ]

pub computed : (A : Type 0) (w : Period) (q : Query) (budget : ℕ) (plan : List (PartPlan A)) → 0 < budget
    → IsQueryPlan w q budget plan ↔ (plan ≡ plan_of w q budget)
computed A w q budget plan some =
    let h = has_parts w q in
    let is = is_query_plan_of A w q budget some h.parts h.cuts in (
      λ own. only_query_plan w q budget plan (plan_of w q budget) own is,
      λ same. subst (IsQueryPlan w q budget) (sym same) is,
    )
