use Rattle.std.proofs.Common.{◌<◌, ◌^◌, length, ap, arith}
use Rattle.st_index.specs.inner.Entries.{key_end, rows_of}
use Rattle.st_index.proofs.Listing.{adds_length, lawful}
use Rattle.st_index.proofs.list_index.ListIndexRowIndex.remove.Goals as goal

pub returns-in_err-row-clause-lawful : goal.returns-in_err-row-clause-lawful
returns-in_err-row-clause-lawful g c =
    let n : c.self.inside.len < 2 ^ 64 = c.self.invariant.2 in
    let same = ap (λ es. length (rows_of es)) c.in_err-row.ensures.none in
    lawful c.self.inside.period c.take.new.entries.items (c.take.ensures.rising c.self.inside.period 0 (key_end c.self.inside.period) c.self.invariant.0) (omega (arith, n, c.self.invariant.1, same))

pub returns-clause-placed : goal.returns-clause-placed
returns-clause-placed g c =
    rw (← c.self.view_is) (c.in_ok-row.ensures.placed c.self.inside.period 0 (key_end c.self.inside.period) c.self.invariant.0)

pub returns-clause-lawful : goal.returns-clause-lawful
returns-clause-lawful g c =
    let n : c.self.inside.len < 2 ^ 64 = c.self.invariant.2 in
    let shorter = adds_length c.in_ok-row.row _ _ c.in_ok-row.ensures.some.0 in
    lawful c.self.inside.period c.take.new.entries.items
    (c.take.ensures.rising c.self.inside.period 0 (key_end c.self.inside.period) c.self.invariant.0)
    (omega (arith, n, c.self.invariant.1, shorter))

pub invariant_of-self-2 : goal.invariant_of-self-2
invariant_of-self-2 g c =
    let n : c.self.inside.len < 2 ^ 64 = c.self.invariant.2 in
    let same = c.self.invariant.1 in
    let shorter = adds_length c.in_ok-row.row _ _ c.in_ok-row.ensures.some.0 in
    (c.take.ensures.rising c.self.inside.period 0 (key_end c.self.inside.period) c.self.invariant.0, omega (arith, same, shorter), omega (arith, n))

pub returns-in_err-row-clause-absent : goal.returns-in_err-row-clause-absent
returns-in_err-row-clause-absent g c =
    rw (c.from_residual.ensures, ← c.self.view_is) (c.in_err-row.ensures.absent c.self.inside.period 0 (key_end c.self.inside.period) c.self.invariant.0)

pub overflow_sub-self : goal.overflow_sub-self
overflow_sub-self g c =
    let shorter = adds_length c.in_ok-row.row _ _ c.in_ok-row.ensures.some.0 in
    omega (arith, c.self.invariant.1, shorter)
