-- Numbers by place: what a change leaves, and what a range of places shows.
use Rattle.std.proofs.Common.{◌≡◌, ℕ, ◌<◌, ◌≤◌, List, [], ◌∷◌, Bool, true, false, cond, Option, Some, None, refl, sym, ap, subst, arith}
use Rattle.std.specs.Prelude.{IfSome, IsSome}
use Rattle.std.specs.declared.cmp.Ordering.{Ordering}
use Rattle.std.specs.declared.cmp.Ordering.TheVariants.{Less, Equal, Greater}
use Rattle.std.specs.declared.ops.Bound.TheVariants.{Included, Unbounded}
use Rattle.std.specs.Map.{lookup}
use Rattle.std.specs.Option.{unwrap_or}
use Rattle.std.specs.Ordering.{nat_cmp, is_eq, is_gt}
use Rattle.std.specs.BTreeMap.{BTreeMap}
use Rattle.std.specs.BTreeMap.Range.{IsRangeOf}
use Rattle.std.proofs.lemmas.Map.Keys.{le_from_not_gt}
use Rattle.st_index.proofs.Names.{nat_greater_is}
use Rattle.st_table.specs.inner.Places.{HasNoZero, number_at}

abbrev found : List (ℕ × ℕ) → ℕ → Option ℕ
found numbers place = lookup (λ other. is_eq (nat_cmp place other)) numbers

abbrev IsPositive : Option ℕ → Type 0
IsPositive o = IfSome o (λ number. 0 < number)

-- a change at one place, to no number or to one that is not 0, leaves no 0
pub no_zero : (old new : List (ℕ × ℕ)) (place : ℕ) (number : Option ℕ) → IsPositive number
    → ((other : ℕ) → found new other ≡ cond (is_eq (nat_cmp place other)) number (found old other)) → HasNoZero old → HasNoZero new
no_zero old new place number positive changes none other =
    subst IsPositive (sym (changes other)) (at (is_eq (nat_cmp place other)))
  where
    at : (b : Bool) → IsPositive (cond b number (found old other))
    at true = positive
    at false = none other

not_before : (a b : ℕ) → a ≤ b → is_gt (nat_cmp a b) ≡ false
not_before a b h = at (nat_cmp a b) refl
  where
    at : (o : Ordering) → nat_cmp a b ≡ o → is_gt (nat_cmp a b) ≡ false
    at Less e = ap is_gt e
    at Equal e = ap is_gt e
    at Greater e = let g = nat_greater_is a b e in absurd (omega (arith, h, g))

module _ (numbers : BTreeMap ℕ ℕ) (from : ℕ) (range : List (ℕ × ℕ)) (is : IsRangeOf nat_cmp (Included from) Unbounded numbers range) where
  -- where a range is empty, no number stands from its start on
  pub none_from : range ≡ [] → (place : ℕ) → from ≤ place → number_at numbers.entries place ≡ 0
  none_from empty place later = ap (λ o. unwrap_or o 0) (is.5 empty place (not_before from place later, tt))

  -- none stands before the first of the range
  pub none_before : (first : ℕ × ℕ) (rest : List (ℕ × ℕ)) → range ≡ first ∷ rest → (place : ℕ) → from ≤ place → place < first.0 → number_at numbers.entries place ≡ 0
  none_before first rest shows place later before = at (found numbers.entries place) refl
    where
      at : (o : Option ℕ) → found numbers.entries place ≡ o → number_at numbers.entries place ≡ 0
      at None e = ap (λ o. unwrap_or o 0) e
      at (Some number) e =
          let some : IsSome (found numbers.entries place) = subst (λ o. IsSome o) (sym e) refl in
          let above = is.2 place (not_before from place later, tt) some in
          let h : is_gt (nat_cmp first.0 place) ≡ false = rw shows at above in
          let low = le_from_not_gt first.0 place h in
          absurd (omega (arith, low, before))
