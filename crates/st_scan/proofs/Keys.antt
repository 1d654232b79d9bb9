-- Rows and the keys of their points.
use Rattle.std.proofs.Math.Bool.{true≢false}
use Rattle.std.proofs.lemmas.Bool.{cases_lt}
use Rattle.std.specs.Prelude.{IfSome, IfNone, Option, Some, None}
use Rattle.st_bigmin.specs.inner.First.{IsAtOrAfter}
use Rattle.st_scan.specs.inner.Steps.{rank_or_end}
use Rattle.std.proofs.Common.{inl, inr, Bool, false, ◌≡◌, ◌↔◌, ℕ, ◌+◌, ◌*◌, ◌/◌, ◌%◌, ◌^◌, ◌<◌, ◌≤◌, refl, sym, ◌∙◌, subst, arith, IsTrue}
use Rattle.st_key.specs.declared.key.Key.{Key}
use Rattle.st_key.specs.declared.period.Period.{Period}
use Rattle.st_key.specs.Key.{IsBefore, IsKeyOf, rank}
use Rattle.st_key.specs.Morton.{address_of}
use Rattle.st_key.specs.Period.{seconds_of, bins_of}
use Rattle.st_key.proofs.MortonLemmas.{joined-lt}
use Rattle.st_key.proofs.PeriodLemmas.{period as lengths}
use Rattle.st_key.proofs.PointLemmas.{before_by_rank, one_point, same_rank}
use Rattle.st_box.specs.declared.query.Query.{Query}
use Rattle.st_box.specs.Query.{HasKey, is_inside}
use Rattle.st_index.specs.declared.row.Row.{Row}
use Rattle.st_index.specs.inner.Entries.{key_end, rank_of}
use Rattle.st_scan.specs.inner.Rows.{has_row}

pub record RowKey {A : Type 0} (period : Period) (row : Row A) : Type 0 where
  pub key : Key
  pub is : IsKeyOf period row.point key
  pub by_rank : rank key ≡ rank_of period row

bin_bound : (a b : ℕ) → a < b → b ≤ 229376 → a < 229376
bin_bound a b h k = omega (arith, h, k)

-- a key before the end of a period has one of its bins
pub bin_below : (bin address bins : ℕ) → bin * 2 ^ 63 + address < bins * 2 ^ 63 → bin < bins
bin_below bin address bins lt = omega (arith, lt)

pub row_key : {A : Type 0} (period : Period) (row : Row A) → RowKey period row
unfolding rank_of
row_key period row =
    let w = lengths period in
    let p = row.point in
    record {
      key = record {
        bin = p.t / seconds_of period;
        address = address_of p.x p.y (p.t % seconds_of period);
        bin_in_range = bin_bound _ _ (w.bin_below p.t p.t_in_range) w.bound;
        address_in_range = joined-lt 21 p.x p.y (p.t % seconds_of period);
      };
      is = record { same_bin = refl; same_address = refl };
      by_rank = refl;
    }

module _ {A : Type 0} (period : Period) (q : Query) where
  -- a row is inside where its key is that of a point inside
  pub by_key : (k : Key) (row : Row A) → rank_of period row ≡ rank k → HasKey q period k → IsTrue (has_row q row)
  by_key k row placed has =
      let r = row_key period row in
      let same = same_rank r.key k (r.by_rank ∙ placed) in
      let point = one_point period row.point has.point k (subst (IsKeyOf period row.point) same r.is) has.key in
      subst (λ p. IsTrue (is_inside q p)) (sym point) has.inside

  pub has_by_row : (k : Key) (row : Row A) → rank_of period row ≡ rank k → IsTrue (has_row q row) → HasKey q period k
  has_by_row k row placed inside =
      let r = row_key period row in
      let same = same_rank r.key k (r.by_rank ∙ placed) in
      record { point = row.point; inside = inside; key = subst (IsKeyOf period row.point) same r.is }

  pub row_has : (row : Row A) → IsTrue (has_row q row) → HasKey q period (row_key period row).key
  row_has row inside = let r = row_key period row in record { point = row.point; inside = inside; key = r.is }

-- a key of a point lies before the end
pub has_below : (q : Query) (period : Period) (k : Key) → HasKey q period k → rank k < key_end period
has_below q period k has =
    let below : k.bin < bins_of period = omega (arith, has.key.same_bin, (lengths period).bin_below has.point.t has.point.t_in_range) in
    omega (arith, below, k.address_in_range)

pub rank_before : (k l : Key) → IsBefore k l → rank k < rank l
rank_before k l h = (before_by_rank k l).0 h

-- where a test says that a key does not come before another
pub not_before : (k l : Key) (b : Bool) → IsTrue b ↔ IsBefore k l → b ≡ false → rank l ≤ rank k
not_before k l b iff out = elim (cases_lt (rank k) (rank l)) [
  | inl low ↦ absurd (true≢false (sym (iff.1 ((before_by_rank k l).1 low)) ∙ out))
  | inr high ↦ high
]

pub rank_from : (k l : Key) → IsAtOrAfter k l → rank l ≤ rank k
rank_from k l after = elim after [ inl b ↦ omega (arith, l.address_in_range) | inr same ↦ omega (arith, same.0, same.1) ]

pub from_rank : (k l : Key) → rank l ≤ rank k → IsAtOrAfter k l
from_rank k l le =
    elim (cases_lt l.bin k.bin) [ inl b ↦ inl b | inr g ↦ inr (omega (arith, k.address_in_range), omega (arith, k.address_in_range)) ]

-- the place of the key after one
pub after_place : (period : Period) (o : Option Key) (n : ℕ) → IfSome o (λ k. rank k ≡ n) → IfNone o (n ≡ key_end period) → rank_or_end period o ≡ n
after_place period None n some none = sym none
after_place period (Some k) n some none = some
