use Rattle.std.proofs.Common.{◌<◌, ◌^◌, ◌∙◌, refl, sym, arith}
use Rattle.st_index.specs.inner.Entries.{name_of, key_end, rank_of, rows_of}
use Rattle.st_index.specs.inner.Index.{Holds}
use Rattle.st_index.proofs.Listing.{lawful, swaps_length}
use Rattle.st_index.proofs.Taking.{absent_held}
use Rattle.st_index.proofs.list_index.ListIndexRowIndex.replace.Goals as goal

pub unreachable-requires : goal.unreachable-requires
unreachable-requires g c =
    let p = c.self.inside.period in
    let absent = c.in_default.ensures.absent p 0 (key_end p) c.self.invariant.0 in
    let held : Holds p (rank_of p c.args.row) (name_of c.args.row) (rows_of c.self.inside.entries.items) = rw (← c.self.view_is) at c.requires in
    absent_held p _ _ _ held absent

pub returns-clause-placed : goal.returns-clause-placed
returns-clause-placed g c =
    rw (← c.self.view_is) (c.in-Ok.ensures.placed c.self.inside.period 0 (key_end c.self.inside.period) c.self.invariant.0)

pub returns-clause-lawful : goal.returns-clause-lawful
returns-clause-lawful g c =
    let n : c.self.inside.len < 2 ^ 64 = c.self.invariant.2 in
    let same = swaps_length c.in-Ok.out c.args.row _ _ c.in-Ok.ensures.ok.0 in
    lawful c.self.inside.period c.swap.new.entries.items
    (c.swap.ensures.rising c.self.inside.period 0 (key_end c.self.inside.period) refl c.self.invariant.0)
    (omega (arith, n, c.self.invariant.1, same))

pub invariant_of-self : goal.invariant_of-self
invariant_of-self g c =
    let p = c.self.inside.period in
    let same = swaps_length c.in-Ok.out c.args.row _ _ c.in-Ok.ensures.ok.0 in
    (c.swap.ensures.rising p 0 (key_end p) refl c.self.invariant.0, c.self.invariant.1 ∙ sym same, c.self.invariant.2)
