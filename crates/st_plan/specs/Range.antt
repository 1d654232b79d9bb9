-- Exact ranges.
use Rattle.std.specs.Prelude.{ℕ, Bool, ◌&&◌, nat_le}
use Rattle.st_plan.specs.declared.range.Range.{Range}

-- whether an exact range holds the address
abbrev pub is_exact_in : ℕ → Range → Bool
is_exact_in address range = range.exact && nat_le range.lo address && nat_le address range.hi
