-- Lists of runs.
use Rattle.std.proofs.Common.{◌≡◌, ℕ, ◌+◌, ◌*◌, ◌/◌, ◌^◌, ◌<◌, ◌≤◌, List, [], ◌∷◌, ◌++◌, length, inl, inr, sym, subst, arith}
use Rattle.std.proofs.lemmas.Bool.{cases_lt}
use Rattle.std.proofs.Math.Nat.{div-mul-le_self, div-lt_iff_lt-mul}
use Rattle.std.proofs.lemmas.Nat.{pow_pos, mul-le}
use Rattle.st_bigmin.specs.declared.run.Run.{Run}
use Rattle.st_bigmin.specs.Run.{IsNextRun}
use Rattle.st_box.proofs.Cells.{above_prefix, first_prefix}
use Rattle.st_bigmin.proofs.Runs.{below_prefix}
use Rattle.st_plan.specs.Coarse.{Runs}
use Rattle.st_plan.specs.inner.Levels.{AreFirstRuns}

pub begins-append : (P : ℕ → Type 0) (rs : List Run) (from mid : ℕ) (r : Run) → AreFirstRuns P from rs mid → IsNextRun P mid r → AreFirstRuns P from (rs ++ (r ∷ [])) (r.last + 1)
begins-append P [] from mid r begins next = (subst (λ n. IsNextRun P n r) (sym begins) next, omega arith)
begins-append P (s ∷ rs) from mid r begins next = (begins.0, begins-append P rs (s.last + 1) mid r begins.1 next)

pub begins-runs : (P : ℕ → Type 0) (rs : List Run) (from end : ℕ) → AreFirstRuns P from rs end → ((a : ℕ) → end ≤ a → P a → ⊥) → Runs P from rs
begins-runs P [] from end begins none = λ a le. none a (omega arith)
begins-runs P (s ∷ rs) from end begins none = (begins.0, begins-runs P rs (s.last + 1) end begins.1 none)

pub record Begun (P : ℕ → Type 0) (from : ℕ) (rs : List Run) : Type 0 where
  pub end : ℕ
  pub begins : AreFirstRuns P from rs end

pub runs-begins : (P : ℕ → Type 0) (rs : List Run) (from : ℕ) → Runs P from rs → Begun P from rs
runs-begins P [] from runs = record { end = from; begins = omega arith }
runs-begins P (s ∷ rs) from runs = let h = runs-begins P rs (s.last + 1) runs.1 in record { end = h.end; begins = (runs.0, h.begins) }

-- each number of Q from `from` on is the prefix of one of P from `start` on
pub record Comes (P Q : ℕ → Type 0) (k start c : ℕ) : Type 0 where
  pub number : ℕ
  pub late : start ≤ number
  pub inside : P number
  pub prefix : number / 2 ^ k ≡ c

-- the run r of P, which begins no later than some number of the run s of Q, ends with s at the latest
ends_within : (P Q : ℕ → Type 0) (k start from : ℕ) (r s : Run) → ((a : ℕ) → P a → Q (a / 2 ^ k)) → IsNextRun P start r → IsNextRun Q from s
    → Comes P Q k start s.first → r.last / 2 ^ k ≤ s.last
ends_within P Q k start from r s raise nr ns first =
    elim (cases_lt s.last (r.last / 2 ^ k)) [
      | inl beyond ↦
          let early : r.first ≤ first.number = elim (cases_lt first.number r.first) [ inl l ↦ absurd (nr.before first.number first.late l first.inside) | inr g ↦ g ] in
          let order = ns.ordered in
          let low : r.first / 2 ^ k < s.last + 1 = omega (arith, below_prefix k r.first first.number early, first.prefix) in
          let below : r.first < (s.last + 1) * 2 ^ k = (div-lt_iff_lt-mul (pow_pos k)).0 low in
          let above : (s.last + 1) * 2 ^ k ≤ r.last = omega (arith, mul-le (s.last + 1) (2 ^ k) (r.last / 2 ^ k) (2 ^ k) (omega arith) (omega arith), div-mul-le_self r.last (2 ^ k)) in
          let there = raise ((s.last + 1) * 2 ^ k) (nr.within ((s.last + 1) * 2 ^ k) (omega arith) above) in
          absurd (ns.after (subst Q (first_prefix k (s.last + 1)) there))
      | inr g ↦ g
    ]

-- so a set has no fewer runs than the set of its prefixes
pub no_fewer : (P Q : ℕ → Type 0) (k : ℕ) → ((a : ℕ) → P a → Q (a / 2 ^ k)) → (ss rs : List Run) (start from end : ℕ)
    → ((c : ℕ) → from ≤ c → Q c → Comes P Q k start c) → AreFirstRuns Q from ss end → Runs P start rs → length ss ≤ length rs
no_fewer P Q k raise [] rs start from end comes begins runs = omega arith
no_fewer P Q k raise (s ∷ ss) [] start from end comes begins runs =
    let ns = begins.0 in
    let first = comes s.first ns.ahead (ns.within s.first (omega arith) ns.ordered) in
    absurd (runs first.number first.late first.inside)
no_fewer P Q k raise (s ∷ ss) (r ∷ rs) start from end comes begins runs =
    let ns = begins.0 in
    let first = comes s.first ns.ahead (ns.within s.first (omega arith) ns.ordered) in
    let within = ends_within P Q k start from r s raise runs.0 ns first in
    let order = ns.ordered in
    let ahead = ns.ahead in
    let rest = no_fewer P Q k raise ss rs (r.last + 1) (s.last + 1) end
    (λ c le there.
    let one = comes c (omega arith) there in
    record { number = one.number; late = omega (arith, above_prefix k r.last one.number (omega (arith, one.prefix))); inside = one.inside; prefix = one.prefix })
    begins.1 runs.1 in
    omega arith
