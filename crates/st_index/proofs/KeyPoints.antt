-- The point of a key, told by the key's parts.
use Rattle.std.proofs.Common.{◌≡◌, ℕ, ◌+◌, ◌*◌, ◌/◌, ◌%◌, ◌^◌, ◌<◌, sym, ap, ◌∙◌, subst, arith}
use Rattle.std.proofs.Math.Nat.{mod-eq_of_lt}
use Rattle.st_key.specs.declared.key.Key.{Key}
use Rattle.st_key.specs.declared.period.Period.{Period}
use Rattle.st_key.specs.declared.point.Point.{Point}
use Rattle.st_key.specs.Key.{IsKeyOf, rank}
use Rattle.st_key.specs.Morton.{address_of}
use Rattle.st_key.specs.Period.{seconds_of}
use Rattle.st_key.proofs.KeyLemmas.{decodes}
use Rattle.st_key.proofs.MortonLemmas.{joined-lt}
use Rattle.st_key.proofs.PointLemmas.{same_point}
use Rattle.st_index.specs.declared.row.Row.{Row}
use Rattle.st_index.specs.inner.Entries.{rank_of}
use Rattle.st_index.specs.KeyPoints.{point_of_key}
use Rattle.st_index.specs.inner.KeyPoints.{IsPointKey}

-- the rank of a row's key, by the key's parts
pub ranked : {A : Type 0} (period : Period) (r : Row A) (b a : ℕ) → b ≡ r.point.t / seconds_of period
    → a ≡ address_of r.point.x r.point.y (r.point.t % seconds_of period) → b * 2 ^ 63 + a ≡ rank_of period r
unfolding rank_of
ranked period r b a p q = ap (λ n. n * 2 ^ 63 + a) p ∙ ap (λ n. r.point.t / seconds_of period * 2 ^ 63 + n) q

parts : (b x q a : ℕ) → x < 2 ^ 63 → a < 2 ^ 63 → b * 2 ^ 63 + x ≡ q * 2 ^ 63 + a → (b ≡ q) × (x ≡ a)
parts b x q a l m e = (omega (arith, l, m, e), omega (arith, l, m, e))

pub key_of_row : {A : Type 0} (period : Period) (r : Row A) (k : Key) → rank k ≡ rank_of period r → IsKeyOf period r.point k
unfolding rank_of
key_of_row period r k e =
    let p = parts k.bin k.address (r.point.t / seconds_of period) (address_of r.point.x r.point.y (r.point.t % seconds_of period)) k.address_in_range
    (joined-lt 21 r.point.x r.point.y (r.point.t % seconds_of period)) e in
    record { same_bin = p.0; same_address = p.1 }

pub decoded : (period : Period) (q : Point) (k : Key) → IsKeyOf period q k → point_of_key period k.bin k.address ≡ q
unfolding point_of_key
decoded period q k h =
    let d = decodes period q k h in
    same_point _ q (sym d.x_is) (sym d.y_is) (mod-eq_of_lt (subst (λ n. n < 19818086400) d.t_is q.t_in_range) ∙ sym d.t_is)

-- the key of a row tells its point
pub told : {A : Type 0} (period : Period) (r : Row A) (k : Key) → rank k ≡ rank_of period r → point_of_key period k.bin k.address ≡ r.point
told period r k e = decoded period r.point k (key_of_row period r k e)

pub is_told : {A : Type 0} (period : Period) (r : Row A) (k : Key) → rank k ≡ rank_of period r → IsPointKey period k.bin k.address
is_told period r k e =
    let h = subst (λ q. IsKeyOf period q k) (sym (told period r k e)) (key_of_row period r k e) in
    (h.same_bin, h.same_address)
