-- Spread coordinates are compared as the coordinates are.
use Rattle.std.proofs.Common.{◌≡◌, ℕ, ◌/◌, ◌%◌, ◌^◌, ◌<◌, ◌≤◌, ◌↔◌, Bool, true, false, nat_eq, inl, inr, refl, sym, ap, subst, arith}
use Rattle.std.proofs.lemmas.Bool.{cases_lt, eqb-true, eqb-false}
use Rattle.std.proofs.lemmas.Nat.{mod_below}
use Rattle.st_key.specs.declared.key.Key.{Key}
use Rattle.st_key.specs.declared.period.Period.{Period}
use Rattle.st_key.specs.Morton.{spread}
use Rattle.st_key.specs.Period.{seconds_of}
use Rattle.st_key.proofs.MortonLemmas.{spread-mono}
use Rattle.st_key.proofs.PeriodLemmas.{period}
use Rattle.st_box.specs.declared.query.Query.{Query}
use Rattle.st_box.specs.declared.zbox.ZBox.{ZBox}
use Rattle.st_box.specs.inner.KeyTest.{IsPlaceIn, IsTimeIn}
use Rattle.st_box.specs.Query.{HasKey}
use Rattle.st_box.specs.inner.Bins.{IsBoxIn, first_offset_of, last_offset_of}
use Rattle.st_box.specs.inner.Edges.{IsFirstOffset, IsLastOffset}
use Rattle.st_box.proofs.Spans.{box_in, bins_of_key, offsets_ordered, starts_in, starts_before, ends_in, ends_after}

-- ---- order

spread_le : (m n : ℕ) → m ≤ n → n < 2 ^ 21 → spread 21 m ≤ spread 21 n
spread_le m n below fits = elim (cases_lt m n) [
  | inl less ↦ omega (arith, spread-mono 21 m n less fits)
  | inr same ↦ let e : m ≡ n = omega arith in omega (arith, ap (spread 21) e)
]

le_spread : (m n : ℕ) → spread 21 m ≤ spread 21 n → m < 2 ^ 21 → m ≤ n
le_spread m n below fits = elim (cases_lt n m) [
  | inl less ↦ absurd (omega (arith, spread-mono 21 n m less fits))
  | inr more ↦ more
]

pub between : (f l v first last n : ℕ) → f ≡ spread 21 first → l ≡ spread 21 last → v ≡ spread 21 n → first < 2 ^ 21 → last < 2 ^ 21 → n < 2 ^ 21
    → (f ≤ v) × (v ≤ l) ↔ (first ≤ n) × (n ≤ last)
between f l v first last n ef el ev first_fits last_fits fits = (
  λ h. (le_spread first n (omega (arith, ef, ev, h.0)) first_fits, le_spread n last (omega (arith, el, ev, h.1)) fits),
  λ h. (omega (arith, ef, ev, spread_le first n h.0 fits), omega (arith, el, ev, spread_le n last h.1 last_fits)),
)

-- ---- offsets of a bin

pub starts_at : (w : Period) (t bin : ℕ) → t / seconds_of w ≤ bin → IsFirstOffset w bin t (first_offset_of w t bin)
starts_at w t bin from = at (nat_eq bin (t / seconds_of w)) refl
  where
    at : (b : Bool) → nat_eq bin (t / seconds_of w) ≡ b → IsFirstOffset w bin t (first_offset_of w t bin)
    at true e =
        let is : bin ≡ t / seconds_of w = eqb-true bin (t / seconds_of w) e in
        rw e (subst (λ n. IsFirstOffset w n t (t % seconds_of w)) (sym is) (starts_in w t))
    at false e =
        let other = eqb-false bin (t / seconds_of w) e in
        rw e (starts_before w bin t (elim (cases_lt (t / seconds_of w) bin) [ inl less ↦ less | inr more ↦ absurd (other (omega arith)) ]))

pub ends_at : (w : Period) (t bin : ℕ) → bin ≤ t / seconds_of w → IsLastOffset w bin t (last_offset_of w t bin)
ends_at w t bin to = at (nat_eq bin (t / seconds_of w)) refl
  where
    at : (b : Bool) → nat_eq bin (t / seconds_of w) ≡ b → IsLastOffset w bin t (last_offset_of w t bin)
    at true e =
        let is : bin ≡ t / seconds_of w = eqb-true bin (t / seconds_of w) e in
        rw e (subst (λ n. IsLastOffset w n t (t % seconds_of w)) (sym is) (ends_in w t))
    at false e =
        let other = eqb-false bin (t / seconds_of w) e in
        rw e (ends_after w bin t (elim (cases_lt bin (t / seconds_of w)) [ inl less ↦ less | inr more ↦ absurd (other (omega arith)) ]))

pub first_below : (w : Period) (t bin : ℕ) → first_offset_of w t bin < seconds_of w
first_below w t bin = at (nat_eq bin (t / seconds_of w)) refl
  where
    at : (b : Bool) → nat_eq bin (t / seconds_of w) ≡ b → first_offset_of w t bin < seconds_of w
    at true e = rw e (mod_below t (seconds_of w) (period w).some)
    at false e = rw e (omega (arith, (period w).some))

pub last_below : (w : Period) (t bin : ℕ) → last_offset_of w t bin < seconds_of w
last_below w t bin = at (nat_eq bin (t / seconds_of w)) refl
  where
    at : (b : Bool) → nat_eq bin (t / seconds_of w) ≡ b → last_offset_of w t bin < seconds_of w
    at true e = rw e (mod_below t (seconds_of w) (period w).some)
    at false e = rw e (omega (arith, (period w).some))

-- ---- keys

-- what the query is in a bin of its span
abbrev pub cut : (q : Query) (w : Period) (bin : ℕ) → q.t0 / seconds_of w ≤ bin → bin ≤ q.t1 / seconds_of w → ZBox
cut q w bin from to = record {
  x_first = q.x0;
  x_last = q.x1;
  y_first = q.y0;
  y_last = q.y1;
  offset_first = first_offset_of w q.t0 bin;
  offset_last = last_offset_of w q.t1 bin;
  x_ordered = q.x_ordered;
  y_ordered = q.y_ordered;
  offset_ordered = offsets_ordered w bin q.t0 q.t1 _ _ (starts_at w q.t0 bin from) (ends_at w q.t1 bin to) q.t_ordered from to;
  x_in_range = q.x_in_range;
  y_in_range = q.y_in_range;
  offset_in_range = omega (arith, last_below w q.t1 bin, (period w).levels);
}

pub cut_keys : (q : Query) (w : Period) (bin : ℕ) (from : q.t0 / seconds_of w ≤ bin) (to : bin ≤ q.t1 / seconds_of w) → IsBoxIn q w bin (cut q w bin from to)
cut_keys q w bin from to = box_in q w bin (cut q w bin from to) (record {
  x_first = refl;
  x_last = refl;
  y_first = refl;
  y_last = refl;
  starts = starts_at w q.t0 bin from;
  ends = ends_at w q.t1 bin to;
  offset_below = last_below w q.t1 bin;
})

pub keyed : (q : Query) (w : Period) (k : Key) → IsPlaceIn q k.address × IsTimeIn q w k.bin k.address ↔ HasKey q w k
keyed q w k = (
  λ h.
      let place = h.0 in
      let time = h.1 in
      (cut_keys q w k.bin time.from_first_bin time.to_last_bin k refl).0 (record {
        is_address = k.address_in_range;
        from_first = record { x_within = place.x_from; y_within = place.y_from; offset_within = time.from_first };
        to_last = record { x_within = place.x_to; y_within = place.y_to; offset_within = time.to_last };
      }),
  λ there.
      let bins = bins_of_key q w k there in
      let inside = (cut_keys q w k.bin bins.0 bins.1 k refl).1 there in (
        record { x_from = inside.from_first.x_within; x_to = inside.to_last.x_within; y_from = inside.from_first.y_within; y_to = inside.to_last.y_within },
        record { from_first_bin = bins.0; to_last_bin = bins.1; from_first = inside.from_first.offset_within; to_last = inside.to_last.offset_within },
      ),
)
