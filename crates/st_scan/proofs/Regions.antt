-- Regions that follow one another, and how many of them are counted.
use Rattle.std.proofs.Common.{◌≡◌, ◌↔◌, ℕ, suc, zero, ◌+◌, ◌<◌, ◌≤◌, ◌⊎◌, List, [], ◌∷◌, length, get_or, inl, inr, refl, sym, ap, ◌∙◌, subst, arith}
use Rattle.std.specs.List.{Contains}
use Rattle.st_index.specs.inner.Index.{Follow, Region}
use Rattle.st_scan.specs.inner.Regions.{Count}
use Rattle.st_scan.specs.inner.Steps.{IsIn}

module _ {X : Type 0} where
  at_in : (xs : List X) (k : ℕ) (x : X) → k < length xs → get_or xs k x ≡ x → IsIn x xs
  at_in [] k x l e = absurd (omega (arith, l))
  at_in (y ∷ ys) zero x l e = inl (sym e)
  at_in (y ∷ ys) (suc k) x l e = inr (at_in ys k x (omega (arith, l)) e)

  pub is_in : (xs : List X) (x : X) → Contains xs x → IsIn x xs
  is_in xs x c = at_in xs c.0 x c.1 c.2

  pub count_le : (P : X → Type 0) (xs : List X) (n : ℕ) → Count P xs n → n ≤ length xs
  count_le P [] n counted = omega (arith, counted)
  count_le P (x ∷ xs) n counted = elim counted [
    | inl c ↦ omega (arith, c.1.1, count_le P xs c.1.0 c.1.2)
    | inr c ↦ omega (arith, count_le P xs n c.1)
  ]

  pub count_none : (P : X → Type 0) (xs : List X) → ((x : X) → IsIn x xs → P x → ⊥) → Count P xs 0
  count_none P [] none = refl
  count_none P (x ∷ xs) none = inr (none x (inl refl), count_none P xs (λ y there. none y (inr there)))

  pub count_iff : (P Q : X → Type 0) (xs : List X) (n : ℕ) → ((x : X) → IsIn x xs → P x ↔ Q x) → Count P xs n → Count Q xs n
  count_iff P Q [] n iff counted = counted
  count_iff P Q (x ∷ xs) n iff counted =
      let rest : (y : X) → IsIn y xs → P y ↔ Q y = λ y there. iff y (inr there) in
      elim counted [
        | inl c ↦ inl ((iff x (inl refl)).0 c.0, (c.1.0, c.1.1, count_iff P Q xs c.1.0 rest c.1.2))
        | inr c ↦ inr (λ h. c.0 ((iff x (inl refl)).1 h), count_iff P Q xs n rest c.1)
      ]

-- what a region in the list is
pub record Lies (lo hi : ℕ) (r : Region) : Type 0 where
  pub from_there : lo ≤ r.first
  pub ordered : r.first ≤ r.last
  pub to_end : r.last < hi

follow_le : (lo hi : ℕ) (rs : List Region) → Follow lo hi rs → lo ≤ hi
follow_le lo hi [] f = omega (arith, f)
follow_le lo hi (r ∷ rs) f = omega (arith, f.1, follow_le (r.last + 1) hi rs f.2)

pub lies : (lo hi : ℕ) (rs : List Region) (r : Region) → Follow lo hi rs → IsIn r rs → Lies lo hi r
lies lo hi [] r f there = absurd there
lies lo hi (s ∷ rs) r f there = elim there [
  | inl same ↦ subst (Lies lo hi) (sym same) (record { from_there = omega (arith, f.0); ordered = omega (arith, f.0, f.1); to_end = omega (arith, follow_le (s.last + 1) hi rs f.2) })
  | inr later ↦
      let l = lies (s.last + 1) hi rs r f.2 later in
      record { from_there = omega (arith, l.from_there, f.1); ordered = l.ordered; to_end = l.to_end }
]

-- two regions are the same, or one lies wholly before the other
pub apart : (lo hi : ℕ) (rs : List Region) (r s : Region) → Follow lo hi rs → IsIn r rs → IsIn s rs → (r ≡ s) ⊎ ((r.last < s.first) ⊎ (s.last < r.first))
apart lo hi [] r s f one other = absurd one
apart lo hi (t ∷ rs) r s f one other = elim one [
  | inl rt ↦ elim other [
    | inl st ↦ inl (rt ∙ sym st)
    | inr later ↦
        let l = lies (t.last + 1) hi rs s f.2 later in
        inr (inl (omega (arith, l.from_there, ap (λ n. n.last) rt)))
  ]
  | inr earlier ↦ elim other [
    | inl st ↦
        let l = lies (t.last + 1) hi rs r f.2 earlier in
        inr (inr (omega (arith, l.from_there, ap (λ n. n.last) st)))
    | inr later ↦ apart (t.last + 1) hi rs r s f.2 earlier later
  ]
]

-- where just one region begins to count, the count is one more
pub count_more : (P Q : Region → Type 0) (lo hi : ℕ) (rs : List Region) (n : ℕ) (one : Region) → Follow lo hi rs → IsIn one rs → (P one → ⊥) → Q one
    → ((r : Region) → IsIn r rs → P r → Q r) → ((r : Region) → IsIn r rs → Q r → P r ⊎ (r.first ≡ one.first)) → Count P rs n → Count Q rs (n + 1)
count_more P Q lo hi [] n one f there old new keep only counted = absurd there
count_more P Q lo hi (r ∷ rs) n one f there old new keep only counted =
    let keeps : (s : Region) → IsIn s rs → P s → Q s = λ s later. keep s (inr later) in
    let rest : (s : Region) → IsIn s rs → Q s → P s ⊎ (s.first ≡ one.first) = λ s later. only s (inr later) in
    elim there [
      | inl same ↦
          let iff : (s : Region) → IsIn s rs → P s ↔ Q s = λ s later. (
            keep s (inr later),
            λ h. elim (only s (inr later) h) [
              | inl p ↦ p
              | inr e ↦ absurd (omega (arith, e, ap (λ t. t.first) same, f.0, f.1, (lies (r.last + 1) hi rs s f.2 later).from_there))
            ],
          ) in
          elim counted [
            | inl c ↦ absurd (old (subst P (sym same) c.0))
            | inr c ↦ inl (subst Q same new, (n, refl, count_iff P Q rs n iff c.1))
          ]
      | inr later ↦ elim counted [
        | inl c ↦ inl (keep r (inl refl) c.0, (c.1.0 + 1, omega (arith, c.1.1), count_more P Q (r.last + 1) hi rs c.1.0 one f.2 later old new keeps rest c.1.2))
        | inr c ↦ inr (
          λ h. elim (only r (inl refl) h) [
            | inl p ↦ c.0 p
            | inr e ↦ absurd (omega (arith, e, f.0, f.1, (lies (r.last + 1) hi rs one f.2 later).from_there))
          ],
          count_more P Q (r.last + 1) hi rs n one f.2 later old new keeps rest c.1,
        )
      ]
    ]
