use Rattle.std.proofs.Common.{◌≡◌, ℕ, ◌<◌, ◌≤◌, arith}
use Rattle.st_key.specs.Key.{rank}
use Rattle.st_scan.proofs.Entries.{skips_missing, skips_slice, skips_there}
use Rattle.st_scan.proofs.step.skip_to.Goals as goal
use Rattle.st_scan.proofs.step.skip_to.Goals.{in-Ok, in-Err}

below : (before place len : ℕ) → before ≡ place → place < len → before ≤ len
below before place len is lt = omega (arith, is, lt)

at_most : (before place len : ℕ) → before ≡ place → place ≤ len → before ≤ len
at_most before place len is le = omega (arith, is, le)

pub returns : goal.returns
returns g c period lo hi rises =
    let entries = c.args.entries.now in
    let from = rank c.args.from in
    elim c.match-find.branch [
      | in-Ok w ↦ rw w.before-is (skips_slice period from entries w.in-Ok.place (skips_there period from lo hi entries w.in-Ok.place w.in-Ok.ensures.bound w.in-Ok.ensures.place rises))
      | in-Err w ↦ rw w.before-is (skips_slice period from entries w.in-Err.place (skips_missing period from lo hi entries w.in-Err.place w.in-Err.ensures.place rises))
    ]

pub slice_bounds-result-count : goal.slice_bounds-result-count
slice_bounds-result-count g c =
    elim c.match-find.branch [
      | in-Ok w ↦ below _ _ _ w.before-is w.in-Ok.ensures.bound
      | in-Err w ↦ at_most _ _ _ w.before-is w.in-Err.ensures.bound
    ]

pub slice_bounds-result-start : goal.slice_bounds-result-start
slice_bounds-result-start g c =
    elim c.match-find.branch [
      | in-Ok w ↦ below _ _ _ w.before-is w.in-Ok.ensures.bound
      | in-Err w ↦ at_most _ _ _ w.before-is w.in-Err.ensures.bound
    ]

pub offset_bounds-entries-before : goal.offset_bounds-entries-before
offset_bounds-entries-before g c =
    elim c.match-find.branch [
      | in-Ok w ↦ below _ _ _ w.before-is w.in-Ok.ensures.bound
      | in-Err w ↦ at_most _ _ _ w.before-is w.in-Err.ensures.bound
    ]
