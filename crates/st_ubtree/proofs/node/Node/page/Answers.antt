use Rattle.std.proofs.Common.{[], refl, subst}
use Rattle.st_index.specs.inner.Entries.{rows_of}
use Rattle.st_tally.specs.inner.Sums.{Sums}
use Rattle.st_ubtree.proofs.node.Node.page.Goals as goal

pub invariant_of-result : goal.invariant_of-result
invariant_of-result g c = (
  record { lowest = refl; not_more = c.requires.not_more; room = c.requires.room },
  subst (λ es. Sums c.add_entries.new.self (rows_of es)) c.as_slice.ensures.value (c.add_entries.ensures [] c.new-sum.ensures),
  tt,
  tt,
)
