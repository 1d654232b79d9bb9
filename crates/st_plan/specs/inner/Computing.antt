-- A stage of the code, which no reader has to believe: how the plan of a query is computed.
use Rattle.std.specs.Prelude.{ℕ, zero, suc, ◌+◌, ◌-◌, ◌*◌, ◌/◌, ◌^◌, List, map, filter, find, unwrap_or, length, Bool, ◌&&◌}
use Rattle.std.specs.Prelude.{◌||◌, not, if◌then◌else◌, nat_eq, nat_le, nat_lt}
use Rattle.std.specs.List.{range_with_len}
use Rattle.st_key.specs.Morton.{x_of, y_of, offset_of, address_of}
use Rattle.st_box.specs.Part.{Cut}
use Rattle.st_bigmin.specs.declared.run.Run.{Run}
use Rattle.st_plan.specs.declared.range.Range.{Range}
use Rattle.st_plan.specs.Coarse.{coarse_spot}

-- ---- sets of numbers

-- `count` numbers from one on
unfoldable pub numbers : ℕ → ℕ → List ℕ
numbers from count = range_with_len from count

-- the first of `count` numbers from one on that is not in the set, or the number after them when all are
unfoldable pub first_not : (ℕ → Bool) → ℕ → ℕ → ℕ
first_not set from zero = from
first_not set from (suc count) = if set from then first_not set (from + 1) count else from

-- the greatest number of the set below this one, or 0
unfoldable pub last_below : (ℕ → Bool) → ℕ → ℕ
last_below set zero = 0
last_below set (suc n) = if set n then n else last_below set n

-- in the set, and after a number that is not
abbrev pub is_start : (ℕ → Bool) → ℕ → Bool
is_start set a = set a && (nat_eq a 0 || not (set (a - 1)))

abbrev pub run_at : (ℕ → Bool) → ℕ → ℕ → Run
run_at set end a = record { first = a; last = first_not set a (end - a) - 1 }

-- the runs of a set of numbers below an end
abbrev pub runs_of : (ℕ → Bool) → ℕ → List Run
runs_of set end = map (run_at set end) (filter (is_start set) (numbers 0 end))

-- ---- boxes

abbrev between : ℕ → ℕ → ℕ → Bool
between lo hi n = nat_le lo n && nat_le n hi

-- whether the address is that of a place in the box
abbrev pub has_address : Cut → ℕ → Bool
has_address c a =
    between c.first.x c.last.x (x_of a) && between c.first.y c.last.y (y_of a) && between c.first.offset c.last.offset (offset_of a)

-- each bound divided by 2^level
abbrev pub coarse_cut : ℕ → Cut → Cut
coarse_cut level c = record {
  bin_lo = c.bin_lo;
  bin_hi = c.bin_hi;
  first = coarse_spot level c.first;
  last = coarse_spot level c.last;
}

-- the number after the address of the box's last corner, which is the greatest of its addresses
abbrev pub end_of : Cut → ℕ
end_of c = address_of c.last.x c.last.y c.last.offset + 1

abbrev pub coarse_runs : Cut → ℕ → List Run
coarse_runs c level = runs_of (has_address (coarse_cut level c)) (end_of (coarse_cut level c))

-- ---- the plan

-- the least level whose runs are within the budget; level 21 has one run
abbrev pub level_of : Cut → ℕ → ℕ
level_of c budget = unwrap_or (find (λ level. nat_le (length (coarse_runs c level)) budget) (numbers 0 21)) 21

-- from the least to the greatest address of the box among those that a run covers; exact where each between is the box's
abbrev pub range_of : Cut → ℕ → Run → Range
range_of c level run =
    let lo = first_not (λ a. not (has_address c a)) (run.first * 2 ^ (3 * level)) (end_of c - run.first * 2 ^ (3 * level)) in
    let hi = last_below (λ a. has_address c a && nat_lt a ((run.last + 1) * 2 ^ (3 * level))) (end_of c) in
    record { lo = lo; hi = hi; exact = nat_lt hi (first_not (has_address c) lo (end_of c - lo)) }

abbrev pub ranges_of : Cut → ℕ → List Range
ranges_of c budget = map (range_of c (level_of c budget)) (coarse_runs c (level_of c budget))
