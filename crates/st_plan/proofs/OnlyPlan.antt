-- A box and a budget have one plan.
use Rattle.std.proofs.Common.{◌≡◌, ℕ, ◌+◌, ◌<◌, ◌≤◌, ◌↔◌, IsTrue, Bool, true, false, List, [], ◌∷◌, inl, inr, refl, sym, ap, ◌∙◌, subst, arith}
use Rattle.std.proofs.lemmas.Bool.{cases_lt, cases_Bool, true≢false}
use Rattle.st_box.specs.declared.zbox.ZBox.{ZBox}
use Rattle.st_bigmin.specs.declared.run.Run.{Run}
use Rattle.st_box.specs.ZBox.{IsInside}
use Rattle.st_bigmin.specs.Run.{IsNextRun}
use Rattle.st_plan.specs.declared.range.Range.{Range}
use Rattle.st_plan.specs.Coarse.{InCoarse, Runs}
use Rattle.st_plan.specs.Plan.{IsRangeOf, IsPlanOf}
use Rattle.st_plan.specs.inner.Levels.{Ranges}

at_most : (m n : ℕ) → (n < m → ⊥) → m ≤ n
at_most m n not = elim (cases_lt n m) [ inl l ↦ absurd (not l) | inr g ↦ g ]

both : (m n : ℕ) → m ≤ n → n ≤ m → m ≡ n
both m n le ge = omega arith

abbrev run : ℕ → ℕ → Run
run first last = record { first = first; last = last }

first_by : (P : ℕ → Type 0) (from : ℕ) (r s : Run) → IsNextRun P from r → IsNextRun P from s → r.first ≤ s.first
first_by P from r s nr ns = at_most r.first s.first (λ early. nr.before s.first ns.ahead early (ns.within s.first (omega arith) ns.ordered))

last_by : (P : ℕ → Type 0) (from : ℕ) (r s : Run) → r.first ≡ s.first → IsNextRun P from r → IsNextRun P from s → r.last ≤ s.last
last_by P from r s e nr ns = at_most r.last s.last (λ early. ns.after (nr.within (s.last + 1) (omega (arith, ns.ordered)) (omega arith)))

one_next : (P : ℕ → Type 0) (from : ℕ) (r s : Run) → IsNextRun P from r → IsNextRun P from s → r ≡ s
one_next P from r s nr ns =
    let e = both r.first s.first (first_by P from r s nr ns) (first_by P from s r ns nr) in
    let f = both r.last s.last (last_by P from r s e nr ns) (last_by P from s r (sym e) ns nr) in
    ap (λ n. run n r.last) e ∙ ap (λ n. run s.first n) f

one_list : (P : ℕ → Type 0) (rs ss : List Run) (from : ℕ) → Runs P from rs → Runs P from ss → rs ≡ ss
one_list P [] [] from runs others = refl
one_list P [] (s ∷ ss) from runs others = absurd (runs s.first others.0.ahead (others.0.within s.first (omega arith) others.0.ordered))
one_list P (r ∷ rs) [] from runs others = absurd (others r.first runs.0.ahead (runs.0.within r.first (omega arith) runs.0.ordered))
one_list P (r ∷ rs) (s ∷ ss) from runs others =
    let e = one_next P from r s runs.0 others.0 in
    let rest = one_list P rs ss (r.last + 1) runs.1 (subst (λ t. Runs P (t.last + 1) ss) (sym e) others.1) in
    ap (λ t. t ∷ rs) e ∙ ap (λ ts. s ∷ ts) rest

abbrev range : ℕ → ℕ → Bool → Range
range lo hi exact = record { lo = lo; hi = hi; exact = exact }

same_test : (b c : Bool) (Q : Type 0) → (IsTrue b ↔ Q) → (IsTrue c ↔ Q) → b ≡ c
same_test b c Q p q =
    elim (cases_Bool b) [
      | inl t ↦ t ∙ sym (q.1 (p.0 t))
      | inr f ↦ elim (cases_Bool c) [ inl t ↦ absurd (off b f (p.1 (q.0 t))) | inr g ↦ f ∙ sym g ]
    ]
  where
    off : (b : Bool) → b ≡ false → b ≡ true → ⊥
    off b f t = true≢false (sym t ∙ f)

one_range : (b : ZBox) (level : ℕ) (r : Run) (x y : Range) → IsRangeOf b level r x → IsRangeOf b level r y → x ≡ y
one_range b level r x y ix iy =
    let e = both x.lo y.lo (ix.lo_least y.lo iy.lo_inside iy.lo_covered) (iy.lo_least x.lo ix.lo_inside ix.lo_covered) in
    let f = both x.hi y.hi (iy.hi_greatest x.hi ix.hi_inside ix.hi_covered) (ix.hi_greatest y.hi iy.hi_inside iy.hi_covered) in
    let other = subst (λ h. IsTrue y.exact ↔ ((a : ℕ) → x.lo ≤ a → a ≤ h → IsInside b a)) (sym f)
    (subst (λ l. IsTrue y.exact ↔ ((a : ℕ) → l ≤ a → a ≤ y.hi → IsInside b a)) (sym e) iy.exact) in
    let t = same_test x.exact y.exact ((a : ℕ) → x.lo ≤ a → a ≤ x.hi → IsInside b a) ix.exact other in
    ap (λ n. range n x.hi x.exact) e ∙ ap (λ n. range y.lo n x.exact) f ∙ ap (λ n. range y.lo y.hi n) t

one_ranges : (b : ZBox) (level : ℕ) (rs : List Run) (xs ys : List Range) → Ranges b level rs xs → Ranges b level rs ys → xs ≡ ys
one_ranges b level [] [] [] p q = refl
one_ranges b level [] [] (y ∷ ys) p q = absurd q
one_ranges b level [] (x ∷ xs) ys p q = absurd p
one_ranges b level (r ∷ rs) [] ys p q = absurd p
one_ranges b level (r ∷ rs) (x ∷ xs) [] p q = absurd q
one_ranges b level (r ∷ rs) (x ∷ xs) (y ∷ ys) p q =
    ap (λ z. z ∷ xs) (one_range b level r x y p.0 q.0) ∙ ap (λ zs. y ∷ zs) (one_ranges b level rs xs ys p.1 q.1)

not_finer : (b : ZBox) (budget : ℕ) (xs ys : List Range) (p : IsPlanOf b budget xs) (q : IsPlanOf b budget ys) → q.level ≤ p.level
not_finer b budget xs ys p q = at_most q.level p.level (λ finer. absurd (omega (arith, q.least p.level finer p.runs p.all_runs, p.in_budget)))

pub only_plan : (b : ZBox) (budget : ℕ) (xs ys : List Range) → IsPlanOf b budget xs → IsPlanOf b budget ys → xs ≡ ys
only_plan b budget xs ys p q =
    let e = both p.level q.level (not_finer b budget ys xs q p) (not_finer b budget xs ys p q) in
    let runs = subst (λ n. Runs (InCoarse b n) 0 q.runs) (sym e) q.all_runs in
    let ranges = subst (λ n. Ranges b n q.runs ys) (sym e) q.ranges in
    let same = one_list (InCoarse b p.level) q.runs p.runs 0 runs p.all_runs in
    one_ranges b p.level p.runs xs ys p.ranges (subst (λ rs. Ranges b p.level rs ys) same ranges)
