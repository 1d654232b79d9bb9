use Rattle.std.proofs.Common.{◌≡◌, ap, ◌∙◌}
use Rattle.st_key.specs.Key.{rank}
use Rattle.st_index.specs.inner.Entries.{EntryValue}
use Rattle.st_index.proofs.Names.{nat_equal}
use Rattle.st_index.proofs.Taking.{missing_key, none_at, only_at}
use Rattle.st_ubtree.proofs.Needing.{page_full, page_held, page_short}
use Rattle.st_ubtree.proofs.node.needs.page_needs.Goals as goal

pub returns-in-Ok-clause-rows : goal.returns-in-Ok-clause-rows
returns-in-Ok-clause-rows g c =
    let o = c.requires in
    let e = c.index-entries-i.result in
    let at : e.at ≡ rank c.args.key = ap (λ (f : EntryValue g.row.A.Denot). f.at) c.index-entries-i.is ∙ nat_equal _ _ (c.in-Ok.ensures.place e) in
    rw c.len.ensures.value (only_at o.0 _ c.args.entries.now c.in-Ok.i e c.in-Ok.ensures.bound c.index-entries-i.is at o.1 o.2 o.3)

pub returns-in-Ok-clause-splits : goal.returns-in-Ok-clause-splits
returns-in-Ok-clause-splits g c =
    let e = c.index-entries-i.result in
    page_held (rank c.args.key) c.args.entries.now c.in-Ok.i e c.in-Ok.ensures.bound (nat_equal _ _ (c.in-Ok.ensures.place e))

pub returns-then-entries-lt32-clause-rows : goal.returns-then-entries-lt32-clause-rows
returns-then-entries-lt32-clause-rows g c = let o = c.requires in none_at o.0 _ 0 c.args.entries.now c.in-Err.field-0 o.1 o.2 o.3 c.in-Err.ensures.place

pub returns-then-entries-lt32-clause-splits : goal.returns-then-entries-lt32-clause-splits
returns-then-entries-lt32-clause-splits g c = page_short (rank c.args.key) c.args.entries.now c.if-entries-lt32.true

pub returns-else-entries-lt32-clause-rows : goal.returns-else-entries-lt32-clause-rows
returns-else-entries-lt32-clause-rows g c = let o = c.requires in none_at o.0 _ 0 c.args.entries.now c.in-Err.field-0 o.1 o.2 o.3 c.in-Err.ensures.place

pub returns-else-entries-lt32-clause-splits : goal.returns-else-entries-lt32-clause-splits
returns-else-entries-lt32-clause-splits g c =
    let o = c.requires in
    page_full (rank c.args.key) c.args.entries.now c.if-entries-lt32.false (missing_key o.0 _ c.args.entries.now c.in-Err.field-0 o.1 o.2 o.3 c.in-Err.ensures.place)

pub returns-in-Ok-clause-no_rows : goal.returns-in-Ok-clause-no_rows
returns-in-Ok-clause-no_rows g c = λ none.
    let e = c.index-entries-i.result in
    absurd (none c.in-Ok.i e c.in-Ok.ensures.bound (nat_equal _ _ (c.in-Ok.ensures.place e)))
