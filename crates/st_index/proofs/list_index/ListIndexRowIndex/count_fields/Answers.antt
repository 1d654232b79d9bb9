use Rattle.std.proofs.Common.{◌≡◌, ◌<◌, ◌^◌, length, ap, arith}
use Rattle.st_index.specs.inner.Entries.{rows_of}
use Rattle.st_index.proofs.Tallying.{zero_at}
use Rattle.st_index.proofs.list_index.ListIndexRowIndex.count_fields.Goals as goal

pub count-requires-clause-fits : goal.count-requires-clause-fits
count-requires-clause-fits g c = λ field.
    let none = zero_at c.args.counts.now c.requires.none field in
    let few : c.self.inside.len < 2 ^ 64 = c.self.invariant.2 in
    let len : c.self.inside.len ≡ length (rows_of c.self.inside.entries.items) = c.self.invariant.1 in
    let same = ap (λ es. length (rows_of es)) c.deref.ensures.value in
    omega (arith, none, few, len, same)

pub returns : goal.returns
returns g c = rw (← c.self.view_is, ← c.deref.ensures.value) c.count.ensures.counts
