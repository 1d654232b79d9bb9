use Rattle.std.proofs.Common.{◌<◌, ◌≤◌, length, sym, subst, ◌∙◌, arith}
use Rattle.std.proofs.lemmas.Bool.{ltb-false, ltb-true}
use Rattle.st_key.specs.Key.{rank}
use Rattle.st_index.specs.inner.Fields.{CanAdd}
use Rattle.st_index.specs.inner.Index.{rows_from}
use Rattle.st_index.specs.inner.Entries.{key_end}
use Rattle.st_tally.specs.inner.Pages.{rows_of_pages}
use Rattle.st_ubtree.proofs.Parts.{part_few, part_from, part_rows, part_to, part_within}
use Rattle.st_ubtree.proofs.tree.UbTreeRowIndex.count_fields_at.Given.{Over}
use Rattle.st_ubtree.proofs.tree.UbTreeRowIndex.count_fields_at.Goals.{Else-is_before}
use Rattle.st_ubtree.proofs.tree.UbTreeRowIndex.count_fields_at.Goals as goal

late : (g : Over) (c : Else-is_before g) → rank c.args.from ≤ rank c.first-first.result
late g c = ltb-false (rank c.first-first.result) (rank c.args.from) (sym c.is_before.ensures ∙ c.if-is_before.false)

pub count_fields-requires-clause-fits : goal.count_fields-requires-clause-fits
count_fields-requires-clause-fits g c =
    let p = c.self.inside.period in
    let node = c.lowest_at.result.0.now in
    let few = part_few p (rank c.args.key) (rank c.last.result) node.first (rank c.lowest_at.result.1) c.self.inside.root.pages node.pages c.lowest_at.ensures
    c.self.invariant.spans c.last.ensures.rank (rank c.args.from)
    (subst (λ n. rank c.args.from ≤ n) c.first-first.ensures (late g (goal.at.count_fields-requires-clause-fits g c).Else-is_before)) in
    let fits : CanAdd (length (rows_from p (rank c.args.from) (rows_of_pages c.self.inside.root.pages))) c.args.counts.now = rw (← c.self.view_is) at c.requires.fits in
    λ field. omega (arith, fits field, few)

pub returns-clause-counts : goal.returns-clause-counts
returns-clause-counts g c =
    let node = c.lowest_at.result.0.now in
    let rows = part_rows c.self.inside.period (rank c.args.key) (rank c.last.result) node.first (rank c.lowest_at.result.1) c.self.inside.root.pages node.pages
    c.lowest_at.ensures c.self.invariant.spans c.last.ensures.rank in
    rw (← c.self.view_is, c.first-first.ensures, rows) c.count_fields.ensures.counts

pub returns-clause-has_key : goal.returns-clause-has_key
returns-clause-has_key g c =
    let p = c.self.inside.period in
    let node = c.lowest_at.result.0.now in
    let last = rank c.lowest_at.result.1 in
    let below : rank c.args.key < key_end p = rw (← c.self.view_is) at c.requires.key in
    let low = part_from p (rank c.args.key) (rank c.last.result) node.first last c.self.inside.root.pages node.pages c.lowest_at.ensures c.self.invariant.spans c.last.ensures.rank in (
      omega (arith, low, c.first-first.ensures),
      part_to p (rank c.args.key) (rank c.last.result) node.first last c.self.inside.root.pages node.pages c.lowest_at.ensures c.self.invariant.spans c.last.ensures.rank below,
    )

pub returns-clause-from : goal.returns-clause-from
returns-clause-from g c = late g (goal.at.returns-clause-from g c).Else-is_before

pub returns-clause-within : goal.returns-clause-within
returns-clause-within g c =
    rw (← c.self.view_is) (part_within c.self.inside.period (rank c.args.key) (rank c.last.result) c.lowest_at.result.0.now.first (rank c.lowest_at.result.1)
    c.self.inside.root.pages c.lowest_at.result.0.now.pages c.lowest_at.ensures c.self.invariant.spans c.last.ensures.rank)

pub returns-then-is_before-clause-before : goal.returns-then-is_before-clause-before
returns-then-is_before-clause-before g c =
    omega (arith, ltb-true (rank c.first-first.result) (rank c.args.from) (sym c.is_before.ensures ∙ c.if-is_before.true))
