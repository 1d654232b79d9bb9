use Rattle.std.proofs.Common.{◌<◌, ◌^◌, subst}
use Rattle.st_index.proofs.Listing.{lawful}
use Rattle.st_index.proofs.list_index.ListIndexRowIndex.period.Goals as goal

pub returns-clause-lawful : goal.returns-clause-lawful
returns-clause-lawful g c =
    let n : c.self.inside.len < 2 ^ 64 = c.self.invariant.2 in
    rw (← c.self.view_is) (lawful c.self.inside.period c.self.inside.entries.items c.self.invariant.0 (subst (λ k. k < 2 ^ 64) c.self.invariant.1 n))
