use Rattle.std.proofs.Common.{◌≡◌, ap, ◌∙◌}
use Rattle.st_key.specs.Key.{rank}
use Rattle.st_index.specs.inner.Entries.{EntryValue}
use Rattle.st_index.proofs.Names.{nat_equal}
use Rattle.st_index.proofs.Taking.{only_at, none_at}
use Rattle.st_index.proofs.entries.count_at.Goals as goal

pub returns-in-Ok-clause-value : goal.returns-in-Ok-clause-value
returns-in-Ok-clause-value g c = λ period lo hi h.
    let e = c.index-entries-i.result in
    let at : e.at ≡ rank c.args.key = ap (λ (f : EntryValue g.row.A.Denot). f.at) c.index-entries-i.is ∙ nat_equal _ _ (c.in-Ok.ensures.place e) in
    rw c.len.ensures.value (only_at period _ c.args.entries.now c.in-Ok.i e c.in-Ok.ensures.bound c.index-entries-i.is at lo hi h)

pub returns-in-Err-clause-value : goal.returns-in-Err-clause-value
returns-in-Err-clause-value g c = λ period lo hi h. none_at period _ 0 c.args.entries.now c.in-Err.field-0 lo hi h c.in-Err.ensures.place

pub returns-in-Ok-clause-none : goal.returns-in-Ok-clause-none
returns-in-Ok-clause-none g c = λ none.
    let e = c.index-entries-i.result in
    absurd (none c.in-Ok.i e c.in-Ok.ensures.bound (nat_equal _ _ (c.in-Ok.ensures.place e)))
