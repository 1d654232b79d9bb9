use Rattle.std.proofs.Common.{inl, rules}
use Rattle.st_store_file.proofs.Short.{counted_by, left_short}
use Rattle.st_store_file.proofs.journal.shorten_journal.Goals as goal

pub returns-in_err-kept-clause-crash : goal.returns-in_err-kept-clause-crash
returns-in_err-kept-clause-crash g c = λ clean left leaves. inl (c.leave.ensures clean left leaves)

pub returns-in_err-put_in_place-clause-crash : goal.returns-in_err-put_in_place-clause-crash
returns-in_err-put_in_place-clause-crash g c = λ clean left leaves.
    left_short c.args.state _ c.as_slice.result.now c.in_ok-kept.kept.items left c.into_changes-changes.result.items
    c.into_changes-changes.ensures c.as_slice.ensures.value c.in_ok-kept.ensures.ok
    (c.put_in_place.ensures.crash clean left leaves)

pub returns-clause-short : goal.returns-clause-short
returns-clause-short g c = λ clean first watched.
    counted_by first c.args.state _ c.as_slice.result.now _ c.in_ok-kept.kept.items c.into_changes-changes.result.items
    c.len-before.result c.len-after.result c.into_changes-changes.ensures c.as_slice.ensures.value c.in_ok-kept.ensures.ok
    (search rules) (search rules) (c.in_ok-put_in_place.ensures.put clean) watched.0 watched.1

pub returns-clause-crash : goal.returns-clause-crash
returns-clause-crash g c = λ clean left leaves.
    left_short c.args.state _ c.as_slice.result.now c.in_ok-kept.kept.items left c.into_changes-changes.result.items
    c.into_changes-changes.ensures c.as_slice.ensures.value c.in_ok-kept.ensures.ok
    (c.put_in_place.ensures.crash clean left leaves)
