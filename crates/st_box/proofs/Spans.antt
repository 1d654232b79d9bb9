-- Spans of time, bin by bin.
use Rattle.std.proofs.Common.{◌≡◌, ℕ, ◌+◌, ◌-◌, ◌*◌, ◌/◌, ◌%◌, ◌<◌, ◌≤◌, inl, inr, refl, sym, ap, ◌∙◌, arith}
use Rattle.std.proofs.lemmas.Bool.{cases_lt}
use Rattle.std.proofs.lemmas.Nat.{div-add-mod', mod_below, mul-le, le-div}
use Rattle.st_key.specs.declared.period.Period.{Period}
use Rattle.st_key.specs.declared.point.Point.{Point}
use Rattle.st_key.specs.declared.key.Key.{Key}
use Rattle.st_key.specs.Morton.{gather}
use Rattle.st_key.specs.Period.{seconds_of}
use Rattle.st_key.proofs.KeyLemmas.{decodes, parts_of_time, address-gather}
use Rattle.st_key.proofs.MortonLemmas.{gather-lt}
use Rattle.st_key.proofs.PeriodLemmas.{period}
use Rattle.st_box.specs.declared.query.Query.{Query}
use Rattle.st_box.specs.declared.zbox.ZBox.{ZBox}
use Rattle.st_box.specs.Query.{HasKey}
use Rattle.st_box.specs.inner.Bins.{IsBoxIn}
use Rattle.st_box.specs.inner.Edges.{IsFirstOffset, IsLastOffset}
use Rattle.st_box.proofs.Bounds.{has, holds}

-- a whole bin more
row : (s m n : ℕ) → m < n → m * s + s ≤ n * s
row s m n below = omega (arith, mul-le (m + 1) s n s (omega arith) (omega arith))

pub starts_in : (w : Period) (t : ℕ) → IsFirstOffset w (t / seconds_of w) t (t % seconds_of w)
starts_in w t o within = let e = div-add-mod' t (seconds_of w) in (λ h. omega arith, λ h. omega arith)

pub starts_before : (w : Period) (bin t : ℕ) → t / seconds_of w < bin → IsFirstOffset w bin t 0
starts_before w bin t after o within =
    let s = seconds_of w in
    let e = div-add-mod' t s in
    let r = row s (t / s) bin after in
    let m = mod_below t s (period w).some in
    (λ h. omega arith, λ h. omega arith)

pub ends_in : (w : Period) (t : ℕ) → IsLastOffset w (t / seconds_of w) t (t % seconds_of w)
ends_in w t o within = let e = div-add-mod' t (seconds_of w) in (λ h. omega arith, λ h. omega arith)

pub ends_after : (w : Period) (bin t : ℕ) → bin < t / seconds_of w → IsLastOffset w bin t (seconds_of w - 1)
ends_after w bin t before o within =
    let s = seconds_of w in
    let e = div-add-mod' t s in
    let r = row s bin (t / s) before in
    (λ h. omega arith, λ h. omega arith)

-- the parts of a box that a query is in one bin
pub record IsCut (q : Query) (w : Period) (bin : ℕ) (b : ZBox) : Type 0 where
  pub x_first : b.x_first ≡ q.x0
  pub x_last : b.x_last ≡ q.x1
  pub y_first : b.y_first ≡ q.y0
  pub y_last : b.y_last ≡ q.y1
  pub starts : IsFirstOffset w bin q.t0 b.offset_first
  pub ends : IsLastOffset w bin q.t1 b.offset_last
  pub offset_below : b.offset_last < seconds_of w

pub box_in : (q : Query) (w : Period) (bin : ℕ) (b : ZBox) → IsCut q w bin b → IsBoxIn q w bin b
box_in q w bin b cut k here =
    let s = seconds_of w in
    let a = k.address in
    let o = gather 21 (a / 4) in (
      λ inside.
          let below : o < s = omega (arith, inside.to_last.offset_within, cut.offset_below) in
          let from : q.t0 ≤ bin * s + o = (cut.starts o below).0 inside.from_first.offset_within in
          let to : bin * s + o ≤ q.t1 = (cut.ends o below).0 inside.to_last.offset_within in
          let fits : bin * s + o < 19818086400 = omega (arith, q.t_in_range) in
          let point : Point = record { x = gather 21 a; y = gather 21 (a / 2); t = bin * s + o; x_in_range = gather-lt 21 a; y_in_range = gather-lt 21 (a / 2); t_in_range = fits } in
          let parts = parts_of_time w bin o (bin * s + o) refl below in
          record {
            point = point;
            inside = holds q point (record {
              x_from = omega (arith, inside.from_first.x_within, cut.x_first);
              x_to = omega (arith, inside.to_last.x_within, cut.x_last);
              y_from = omega (arith, inside.from_first.y_within, cut.y_first);
              y_to = omega (arith, inside.to_last.y_within, cut.y_last);
              t_from = from;
              t_to = to;
            });
            key = record { same_bin = here ∙ parts.0; same_address = address-gather a _ _ _ k.address_in_range refl refl (sym parts.1) };
          },
      λ there.
          let d = decodes w there.point k there.key in
          let h = has q there.point there.inside in
          let t_is : there.point.t ≡ bin * s + o = d.t_is ∙ ap (λ n. n * s + o) here in
          record {
            is_address = k.address_in_range;
            from_first = record {
              x_within = omega (arith, h.x_from, cut.x_first, d.x_is);
              y_within = omega (arith, h.y_from, cut.y_first, d.y_is);
              offset_within = (cut.starts o d.offset_below).1 (omega (arith, h.t_from, t_is));
            };
            to_last = record {
              x_within = omega (arith, h.x_to, cut.x_last, d.x_is);
              y_within = omega (arith, h.y_to, cut.y_last, d.y_is);
              offset_within = (cut.ends o d.offset_below).1 (omega (arith, h.t_to, t_is));
            };
          },
    )

-- a bin of the span has a second of it
pub offsets_ordered : (w : Period) (bin t0 t1 first last : ℕ) → IsFirstOffset w bin t0 first → IsLastOffset w bin t1 last → t0 ≤ t1
    → t0 / seconds_of w ≤ bin → bin ≤ t1 / seconds_of w → first ≤ last
offsets_ordered w bin t0 t1 first last starts ends ordered from to =
    let s = seconds_of w in
    let e0 = div-add-mod' t0 s in
    let e1 = div-add-mod' t1 s in
    let m0 = mod_below t0 s (period w).some in
    elim (cases_lt (t0 / s) bin) [
      | inl after ↦
          let r = row s (t0 / s) bin after in
          let reach : bin * s ≤ t1 / s * s = mul-le bin s (t1 / s) s to (omega arith) in
          let f : first ≤ 0 = (starts 0 (period w).some).1 (omega arith) in
          omega arith
      | inr at ↦
          let same : bin ≡ t0 / s = omega arith in
          let here : bin * s + t0 % s ≡ t0 = ap (λ n. n * s + t0 % s) same ∙ e0 in
          let f : first ≤ t0 % s = (starts (t0 % s) m0).1 (omega arith) in
          let l : t0 % s ≤ last = (ends (t0 % s) m0).1 (omega arith) in
          omega arith
    ]

-- the keys of a query are in the bins of its span
pub bins_of_key : (q : Query) (w : Period) (k : Key) → HasKey q w k → (q.t0 / seconds_of w ≤ k.bin) × (k.bin ≤ q.t1 / seconds_of w)
bins_of_key q w k there =
    let h = has q there.point there.inside in
    let s = seconds_of w in
    let some = (period w).some in
    let t = there.point.t in
    let b : k.bin ≡ t / s = there.key.same_bin in
    let lower = le-div (q.t0 / s) t s some (omega (arith, div-add-mod' q.t0 s, h.t_from)) in
    let upper = le-div (t / s) q.t1 s some (omega (arith, div-add-mod' t s, h.t_to)) in
    (omega arith, omega arith)
