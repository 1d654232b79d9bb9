-- What holds of an index of one list.
use Rattle.std.proofs.Common.{◌≡◌, ◌+◌, ◌-◌, ◌^◌, ◌<◌, List, [], ◌∷◌, length, refl, ap, arith, length-append}
use Rattle.st_key.specs.declared.period.Period.{Period}
use Rattle.st_key.specs.declared.period.Period.TheVariants.{Day, Week}
use Rattle.st_index.specs.declared.row.Row.{Row}
use Rattle.st_index.specs.inner.Entries.{EntryValue, EntriesRise, key_end, rows_of}
use Rattle.st_index.specs.inner.Index.{Adds, Swaps, IsLawful, region}
use Rattle.st_index.proofs.Scanning.{scan_rises}

pub some_keys : (period : Period) → 0 < key_end period
some_keys Day = omega arith
some_keys Week = omega arith

pub lawful : {A : Type 0} (period : Period) (es : List (EntryValue A)) → EntriesRise period 0 (key_end period) es → length (rows_of es) < 2 ^ 64
    → IsLawful period (rows_of es) (region 0 (key_end period - 1) ∷ [])
lawful period es h n =
    let some = some_keys period in
    record {
      in_order = scan_rises period 0 (key_end period) es h;
      count = n;
      follow = (refl, omega arith, omega (arith, some));
      regions_count = omega arith;
    }

pub adds_length : {A : Type 0} (row : Row A) (old new : List (Row A)) → Adds row old new → length new ≡ length old + 1
adds_length row old new h =
    let a = ap length h.old_is in
    let b = ap length h.new_is in
    omega (arith, a, b, length-append h.front h.back, length-append h.front (row ∷ h.back))

pub swaps_length : {A : Type 0} (out row : Row A) (old new : List (Row A)) → Swaps out row old new → length new ≡ length old
swaps_length out row old new h =
    let a = ap length h.old_is in
    let b = ap length h.new_is in
    omega (arith, a, b, length-append h.front (out ∷ h.back), length-append h.front (row ∷ h.back))
