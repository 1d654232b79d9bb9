-- A count of faults over two calls.
use Rattle.std.proofs.Common.{◌≤◌, ℕ, arith}
use Rattle.st_journal.specs.Faults.{FaultsRise}

-- a rise after growth is a rise from the start
pub rises_after : (old mid new : ℕ) → old ≤ mid → FaultsRise mid new → FaultsRise old new
rises_after old mid new grown rise = omega (arith, grown, rise)

-- and so is a rise before growth
pub rises_before : (old mid new : ℕ) → FaultsRise old mid → mid ≤ new → FaultsRise old new
rises_before old mid new rise grown = omega (arith, rise, grown)
