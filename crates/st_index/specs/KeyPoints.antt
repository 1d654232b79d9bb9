-- The point that the parts of a key tell.
use Rattle.std.specs.Prelude.{ℕ, ◌+◌, ◌*◌, ◌/◌, ◌%◌}
use Rattle.std.proofs.Math.Nat.{mod-lt}
use Rattle.std.proofs.Common.{lit<}
use Rattle.st_key.specs.declared.period.Period.{Period}
use Rattle.st_key.specs.declared.point.Point.{Point}
use Rattle.st_key.specs.Morton.{x_of, y_of, offset_of}
use Rattle.st_key.specs.Period.{seconds_of}
use Rattle.st_key.proofs.MortonLemmas.{gather-lt}

-- the one point that can have this key: its coordinates and its offset in the bin lie in the address, and below 2^21 and 19,818,086,400
unfoldable pub point_of_key : Period → (bin address : ℕ) → Point
point_of_key period bin address = record {
  x = x_of address;
  y = y_of address;
  t = (bin * seconds_of period + offset_of address) % 19818086400;
  x_in_range = gather-lt 21 address;
  y_in_range = gather-lt 21 (address / 2);
  t_in_range = mod-lt (bin * seconds_of period + offset_of address) (lit< tt);
}
