-- The keys of an id's places, each once.
use Rattle.std.proofs.Common.{◌≡◌, ℕ, ◌+◌, ◌*◌, ◌%◌, ◌^◌, ◌<◌, ◌≤◌, List, cond, ap, refl, subst, arith, ⊎_elim}
use Rattle.std.proofs.lemmas.Bool.{eq-eqb, cases_eq, cases_lt}
use Rattle.st_table.specs.inner.Places.{AddsNoKeys, KeepsKeys, number_at, one_at}
use Rattle.st_table.proofs.Ascending.{eq_no}

one_itself : (place : ℕ) → one_at place place ≡ 1
one_itself place = ap {B = ℕ} (λ b. cond b 1 0) (eq-eqb place place refl)

one_apart : (place other : ℕ) → (place ≡ other → ⊥) → one_at place other ≡ 0
one_apart place other apart = ap {B = ℕ} (λ b. cond b 1 0) (eq_no place other apart)

module _ (numbers keys : List (ℕ × ℕ)) (hash : ℕ) where
  pub keeps_none : KeepsKeys numbers keys hash 0
  keeps_none offset below held = absurd (omega (arith, below))

  pub adds_none : ((place : ℕ) → number_at keys place ≡ 0) → AddsNoKeys numbers keys hash
  adds_none none rank some = let zero = none rank in absurd (omega (arith, zero, some))

  pub keeps_all : (from end : ℕ) → ((n : ℕ) → from ≤ n → n < end → number_at numbers (hash * 2 ^ 96 + n) ≡ 0) → KeepsKeys numbers keys hash from → KeepsKeys numbers keys hash end
  keeps_all from end none keeps offset below held =
      ⊎_elim (λ early. keeps offset early held) (λ late. let zero = none offset late below in absurd (omega (arith, zero, held))) (cases_lt offset from)

  module _ (more : List (ℕ × ℕ)) (found : ℕ) (changes : (other : ℕ) → number_at more other ≡ number_at keys other + one_at (found % 2 ^ 81) other) where
    pub keeps_more : (from : ℕ) → ((n : ℕ) → from ≤ n → n < found → number_at numbers (hash * 2 ^ 96 + n) ≡ 0) → KeepsKeys numbers keys hash from → KeepsKeys numbers more hash (found + 1)
    keeps_more from none keeps offset below held =
        ⊎_elim (λ early. let old = keeps_all from found none keeps offset early held in let change = changes (offset % 2 ^ 81) in omega (arith, old, change))
        (λ late.
        let same : found ≡ offset = omega (arith, below, late) in
        let change = changes (found % 2 ^ 81) in
        let one = one_itself (found % 2 ^ 81) in
        subst (λ n. 0 < number_at more (n % 2 ^ 81)) same (omega (arith, change, one))) (cases_lt offset found)

    pub adds_more : found < 2 ^ 96 → 0 < number_at numbers (hash * 2 ^ 96 + found) → AddsNoKeys numbers keys hash → AddsNoKeys numbers more hash
    adds_more below held none rank some =
        ⊎_elim (λ same. record { offset = found; below = below; of_key = same; held = held })
        (λ apart. let change = changes rank in let zero = one_apart (found % 2 ^ 81) rank apart in none rank (omega (arith, change, zero, some)))
        (cases_eq (found % 2 ^ 81) rank)
