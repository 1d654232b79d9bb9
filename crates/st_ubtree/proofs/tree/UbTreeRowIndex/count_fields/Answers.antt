use Rattle.std.proofs.Common.{◌≡◌, ◌<◌, ◌^◌, length, arith}
use Rattle.st_index.proofs.Tallying.{zero_at}
use Rattle.st_tally.specs.inner.Pages.{rows_of_pages}
use Rattle.st_ubtree.proofs.tree.UbTreeRowIndex.count_fields.Goals as goal

pub count_fields-requires-clause-fits : goal.count_fields-requires-clause-fits
count_fields-requires-clause-fits g c = λ field.
    let few : c.self.inside.len < 2 ^ 64 = c.self.invariant.most in
    let len : c.self.inside.len ≡ length (rows_of_pages c.self.inside.root.pages) = c.self.invariant.counted in
    omega (arith, zero_at c.args.counts.now c.requires.none field, few, len)

pub returns : goal.returns
returns g c = rw (← c.self.view_is) c.count_fields.ensures.counts
