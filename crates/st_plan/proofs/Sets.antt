-- Sets of numbers, and their runs.
use Rattle.std.proofs.Common.{◌≡◌, ◌↔◌, ℕ, zero, suc, ◌+◌, ◌-◌, ◌<◌, ◌≤◌, List, [], ◌∷◌, map, Bool, true, false, ◌&&◌, ◌||◌, not, nat_eq, inl, inr, refl, sym, ap, ◌∙◌, subst, arith}
use Rattle.std.specs.Prelude.{filter, find, unwrap_or, Some}
use Rattle.std.proofs.lemmas.Bool.{cases_lt, cases_Bool, ne_eqb, both_ways}
use Rattle.st_bigmin.specs.declared.run.Run.{Run}
use Rattle.st_bigmin.specs.Run.{IsNextRun}
use Rattle.st_plan.specs.Coarse.{Runs}
use Rattle.st_plan.specs.inner.Computing.{numbers, first_not, last_below, is_start, run_at, runs_of}

-- ---- the first number that is not in a set

pub first_not-in : (set : ℕ → Bool) (from count : ℕ) → set from ≡ true → first_not set from (suc count) ≡ first_not set (from + 1) count
unfolding first_not
first_not-in set from count e = rw e refl

pub first_not-out : (set : ℕ → Bool) (from count : ℕ) → set from ≡ false → first_not set from (suc count) ≡ from
unfolding first_not
first_not-out set from count e = rw e refl

pub first_not-zero : (set : ℕ → Bool) (from : ℕ) → first_not set from 0 ≡ from
unfolding first_not
first_not-zero set from = refl

pub first_not-low : (set : ℕ → Bool) (count from : ℕ) → from ≤ first_not set from count
first_not-low set zero from = omega (arith, first_not-zero set from)
first_not-low set (suc count) from = elim (cases_Bool (set from)) [
  | inl e ↦ omega (arith, first_not-in set from count e, first_not-low set count (from + 1))
  | inr e ↦ omega (arith, first_not-out set from count e)
]

pub first_not-high : (set : ℕ → Bool) (count from : ℕ) → first_not set from count ≤ from + count
first_not-high set zero from = omega (arith, first_not-zero set from)
first_not-high set (suc count) from = elim (cases_Bool (set from)) [
  | inl e ↦ omega (arith, first_not-in set from count e, first_not-high set count (from + 1))
  | inr e ↦ omega (arith, first_not-out set from count e)
]

pub first_not-before : (set : ℕ → Bool) (count from a : ℕ) → from ≤ a → a < first_not set from count → set a ≡ true
first_not-before set zero from a low below = absurd (omega (arith, first_not-zero set from))
first_not-before set (suc count) from a low below = elim (cases_Bool (set from)) [
  | inl e ↦ elim (cases_lt from a) [
    | inl after ↦ first_not-before set count (from + 1) a (omega arith) (omega (arith, first_not-in set from count e))
    | inr at ↦ let same : a ≡ from = omega arith in ap set same ∙ e
  ]
  | inr e ↦ absurd (omega (arith, first_not-out set from count e))
]

pub first_not-stop : (set : ℕ → Bool) (count from : ℕ) → first_not set from count < from + count → set (first_not set from count) ≡ false
first_not-stop set zero from early = absurd (omega (arith, first_not-zero set from))
first_not-stop set (suc count) from early = elim (cases_Bool (set from)) [
  | inl e ↦
      let same = first_not-in set from count e in
      ap set same ∙ first_not-stop set count (from + 1) (omega arith)
  | inr e ↦ ap set (first_not-out set from count e) ∙ e
]

-- ---- the greatest number of a set below another

last_below-in : (set : ℕ → Bool) (n : ℕ) → set n ≡ true → last_below set (suc n) ≡ n
unfolding last_below
last_below-in set n e = rw e refl

last_below-out : (set : ℕ → Bool) (n : ℕ) → set n ≡ false → last_below set (suc n) ≡ last_below set n
unfolding last_below
last_below-out set n e = rw e refl

-- where the set has a number below n, its greatest is in it, and no later one is
pub record IsLast (set : ℕ → Bool) (n m : ℕ) : Type 0 where
  pub inside : set m ≡ true
  pub below : m < n
  pub greatest : (a : ℕ) → a < n → set a ≡ true → a ≤ m

pub last_below-is : (set : ℕ → Bool) (n a : ℕ) → a < n → set a ≡ true → IsLast set n (last_below set n)
last_below-is set zero a below held = absurd (omega arith)
last_below-is set (suc n) a below held = elim (cases_Bool (set n)) [
  | inl e ↦ subst (IsLast set (suc n)) (sym (last_below-in set n e)) (record { inside = e; below = omega arith; greatest = λ c low there. omega arith })
  | inr e ↦
      let near : (c : ℕ) → c < suc n → set c ≡ true → c < n = λ c low there. elim (cases_lt c n) [
        | inl l ↦ l
        | inr g ↦ let same : c ≡ n = omega arith in absurd (both_ways (set n) e (ap set (sym same) ∙ there))
      ] in
      let ih = last_below-is set n a (near a below held) held in
      subst (IsLast set (suc n)) (sym (last_below-out set n e)) (record { inside = ih.inside; below = omega (arith, ih.below); greatest = λ c low there. ih.greatest c (near c low there) there })
]

-- ---- runs

-- a test of the numbers below an end that are in P, where P has no others
pub record Tests (P : ℕ → Type 0) (set : ℕ → Bool) (end : ℕ) : Type 0 where
  pub is : (a : ℕ) → a < end → (set a ≡ true) ↔ P a
  pub below : (a : ℕ) → P a → a < end

skip : (P : ℕ → Type 0) (from : ℕ) (rs : List Run) → (P from → ⊥) → Runs P (from + 1) rs → Runs P from rs
skip P from [] none h = λ a low there. elim (cases_lt from a) [
  | inl after ↦ h a (omega arith) there
  | inr at ↦ let same : a ≡ from = omega arith in none (subst P same there)
]
skip P from (r ∷ rs) none h = (
  record {
    ahead = omega (arith, h.0.ahead);
    before = λ a low below there. elim (cases_lt from a) [
      | inl after ↦ h.0.before a (omega arith) below there
      | inr at ↦ let same : a ≡ from = omega arith in none (subst P same there)
    ];
    ordered = h.0.ordered;
    within = h.0.within;
    after = h.0.after;
  },
  h.1,
)

filter-in : (t : ℕ → Bool) (a : ℕ) (more : List ℕ) → t a ≡ true → filter t (a ∷ more) ≡ a ∷ filter t more
filter-in t a more e = rw e refl

filter-out : (t : ℕ → Bool) (a : ℕ) (more : List ℕ) → t a ≡ false → filter t (a ∷ more) ≡ filter t more
filter-out t a more e = rw e refl

abbrev runs_from : (ℕ → Bool) → ℕ → ℕ → ℕ → List Run
runs_from set end from count = map (run_at set end) (filter (is_start set) (numbers from count))

numbers-suc : (from count : ℕ) → numbers from (suc count) ≡ from ∷ numbers (from + 1) count
unfolding numbers
numbers-suc from count = refl

numbers-zero : (from : ℕ) → numbers from 0 ≡ []
unfolding numbers
numbers-zero from = refl

runs-start : (set : ℕ → Bool) (end from count : ℕ) → is_start set from ≡ true → runs_from set end from (suc count) ≡ run_at set end from ∷ runs_from set end (from + 1) count
runs-start set end from count e =
    ap (λ ns. map (run_at set end) (filter (is_start set) ns)) (numbers-suc from count) ∙ ap (map (run_at set end)) (filter-in (is_start set) from (numbers (from + 1) count) e)

runs-skip : (set : ℕ → Bool) (end from count : ℕ) → is_start set from ≡ false → runs_from set end from (suc count) ≡ runs_from set end (from + 1) count
runs-skip set end from count e =
    ap (λ ns. map (run_at set end) (filter (is_start set) ns)) (numbers-suc from count) ∙ ap (map (run_at set end)) (filter-out (is_start set) from (numbers (from + 1) count) e)

runs-none : (set : ℕ → Bool) (end from : ℕ) → runs_from set end from 0 ≡ []
runs-none set end from = ap (λ ns. map (run_at set end) (filter (is_start set) ns)) (numbers-zero from)

abbrev Fresh : (ℕ → Bool) → ℕ → Type 0
Fresh set from = (nat_eq from 0 || not (set (from - 1))) ≡ true

-- the runs from a number that follows none of the set; and, from a number that follows one, those after the run that it is in or ends
abbrev Both : (ℕ → Type 0) → (ℕ → Bool) → ℕ → ℕ → Type 0
Both P set end count =
    ((from : ℕ) → from + count ≡ end → Fresh set from → Runs P from (runs_from set end from count))
    × ((from : ℕ) → from + count ≡ end → 0 < from → set (from - 1) ≡ true → Runs P (first_not set from count) (runs_from set end from count))

one_run : (P : ℕ → Type 0) (set : ℕ → Bool) (end from count : ℕ) → Tests P set end → from + suc count ≡ end → set from ≡ true
    → IsNextRun P from (run_at set end from) × (first_not set (from + 1) count ≡ (run_at set end from).last + 1)
one_run P set end from count t whole e =
    let room : end - from ≡ suc count = omega arith in
    let stop : first_not set from (end - from) ≡ first_not set (from + 1) count = ap (first_not set from) room ∙ first_not-in set from count e in
    let low = first_not-low set count (from + 1) in
    let high = first_not-high set count (from + 1) in
    let at : first_not set from (end - from) - 1 + 1 ≡ first_not set (from + 1) count = omega arith in (
      record {
        ahead = omega arith;
        before = λ a after below there. absurd (omega arith);
        ordered = omega arith;
        within = λ a after before.
            (t.is a (omega arith)).0 (first_not-before set (end - from) from a after (omega arith));
        after = λ there.
            let there' = subst P at there in
            let inside = t.below (first_not set (from + 1) count) there' in
            both_ways (set (first_not set (from + 1) count)) (first_not-stop set count (from + 1) (omega arith)) ((t.is (first_not set (from + 1) count) inside).1 there');
      },
      sym at,
    )

both : (P : ℕ → Type 0) (set : ℕ → Bool) (end count : ℕ) → Tests P set end → Both P set end count
both P set end zero t = (
  λ from whole fresh. subst (Runs P from) (sym (runs-none set end from)) (λ a low there. omega (arith, t.below a there)),
  λ from whole some held. subst (Runs P (first_not set from 0)) (sym (runs-none set end from)) (λ a low there. omega (arith, t.below a there, first_not-zero set from)),
)
both P set end (suc count) t =
    let ih = both P set end count t in
    let next : (from : ℕ) → from + 1 - 1 ≡ from = λ from. omega arith in
    let later : (from : ℕ) → nat_eq (from + 1) 0 ≡ false = λ from. ne_eqb (from + 1) 0 (λ e. omega arith) in (
      λ from whole fresh. elim (cases_Bool (set from)) [
        | inl e ↦
            let start : is_start set from ≡ true = ap (λ b. b && (nat_eq from 0 || not (set (from - 1)))) e ∙ fresh in
            let run = one_run P set end from count t whole e in
            subst (Runs P from) (sym (runs-start set end from count start))
            (run.0, subst (λ n. Runs P n (runs_from set end (from + 1) count)) run.1 (ih.1 (from + 1) (omega arith) (omega arith) (ap set (next from) ∙ e)))
        | inr e ↦
            let none : is_start set from ≡ false = ap (λ b. b && (nat_eq from 0 || not (set (from - 1)))) e in
            let fresh' : Fresh set (from + 1) = ap (λ b. b || not (set (from + 1 - 1))) (later from) ∙ ap (λ b. not b) (ap set (next from) ∙ e) in
            subst (Runs P from) (sym (runs-skip set end from count none))
            (skip P from (runs_from set end (from + 1) count) (λ there. both_ways (set from) e ((t.is from (omega arith)).1 there)) (ih.0 (from + 1) (omega arith) fresh'))
      ],
      λ from whole some held.
          let inner : (nat_eq from 0 || not (set (from - 1))) ≡ false = ap (λ b. b || not (set (from - 1))) (ne_eqb from 0 (λ e. omega arith)) ∙ ap (λ b. not b) held in
          elim (cases_Bool (set from)) [
            | inl e ↦
                let none : is_start set from ≡ false = ap (λ b. b && (nat_eq from 0 || not (set (from - 1)))) e ∙ inner in
                subst (Runs P (first_not set from (suc count))) (sym (runs-skip set end from count none))
                (subst (λ n. Runs P n (runs_from set end (from + 1) count)) (sym (first_not-in set from count e)) (ih.1 (from + 1) (omega arith) (omega arith) (ap set (next from) ∙ e)))
            | inr e ↦
                let none : is_start set from ≡ false = ap (λ b. b && (nat_eq from 0 || not (set (from - 1)))) e in
                let fresh' : Fresh set (from + 1) = ap (λ b. b || not (set (from + 1 - 1))) (later from) ∙ ap (λ b. not b) (ap set (next from) ∙ e) in
                subst (Runs P (first_not set from (suc count))) (sym (runs-skip set end from count none))
                (subst (λ n. Runs P n (runs_from set end (from + 1) count)) (sym (first_not-out set from count e))
                (skip P from (runs_from set end (from + 1) count) (λ there. both_ways (set from) e ((t.is from (omega arith)).1 there)) (ih.0 (from + 1) (omega arith) fresh')))
          ],
    )

pub runs_of-are : (P : ℕ → Type 0) (set : ℕ → Bool) (end : ℕ) → Tests P set end → Runs P 0 (runs_of set end)
runs_of-are P set end t = (both P set end end t).0 0 (omega arith) refl

-- ---- the first number that meets a test

pub record IsFound (t : ℕ → Bool) (from end m : ℕ) : Type 0 where
  pub found : (m ≡ end → ⊥) → t m ≡ true
  pub high : m ≤ end
  pub before : (a : ℕ) → from ≤ a → a < m → t a ≡ false

find-in : (t : ℕ → Bool) (a : ℕ) (more : List ℕ) → t a ≡ true → find t (a ∷ more) ≡ Some a
find-in t a more e = rw e refl

find-out : (t : ℕ → Bool) (a : ℕ) (more : List ℕ) → t a ≡ false → find t (a ∷ more) ≡ find t more
find-out t a more e = rw e refl

pub find-is : (t : ℕ → Bool) (count from end : ℕ) → from + count ≡ end → IsFound t from end (unwrap_or (find t (numbers from count)) end)
find-is t zero from end whole =
    subst (IsFound t from end) (sym (ap (λ ns. unwrap_or (find t ns) end) (numbers-zero from)))
    (record { found = λ other. absurd (other refl); high = omega arith; before = λ a low below. absurd (omega arith) })
find-is t (suc count) from end whole = elim (cases_Bool (t from)) [
  | inl e ↦
      subst (IsFound t from end) (sym (ap (λ ns. unwrap_or (find t ns) end) (numbers-suc from count) ∙ ap (λ o. unwrap_or o end) (find-in t from (numbers (from + 1) count) e)))
      (record { found = λ other. e; high = omega arith; before = λ a low below. absurd (omega arith) })
  | inr e ↦
      let ih = find-is t count (from + 1) end (omega arith) in
      subst (IsFound t from end) (sym (ap (λ ns. unwrap_or (find t ns) end) (numbers-suc from count) ∙ ap (λ o. unwrap_or o end) (find-out t from (numbers (from + 1) count) e)))
      (record {
        found = ih.found;
        high = ih.high;
        before = λ a low below. elim (cases_lt from a) [
          | inl after ↦ ih.before a (omega arith) below
          | inr at ↦ let same : a ≡ from = omega arith in ap t same ∙ e
        ];
      })
]
