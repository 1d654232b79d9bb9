use Rattle.std.proofs.Common.{◌≡◌, ◌<◌, sym, ap, subst, ◌∙◌, arith}
use Rattle.std.specs.Ordering.{is_lt}
use Rattle.st_key.specs.Key.{rank}
use Rattle.st_index.specs.RowViews.{row_of_view}
use Rattle.st_index.specs.inner.Entries.{rank_of}
use Rattle.st_scan.proofs.Keys.{not_before, rank_before}
use Rattle.st_scan.proofs.Past.{past_after, past_before, past_same}
use Rattle.st_scan.proofs.after.is_after.Goals as goal

pub returns-then-is_before : goal.returns-then-is_before
returns-then-is_before g c =
    let k = c.of-at.result in
    let less = subst (λ n. rank k < n) c.key-key.ensures.value (rank_before k c.key-key.result (c.is_before.ensures.0 c.if-is_before.true)) in
    sym (past_before c.args.period c.args.place.now (row_of_view c.args.row) k c.of-at.ensures.key less)

pub returns-then-is_before-2 : goal.returns-then-is_before-2
returns-then-is_before-2 g c =
    let k = c.of-at.result in
    let less = subst (λ n. n < rank k) c.key-key.ensures.value (rank_before c.key-key.result k (c.is_before-2.ensures.0 c.if-is_before-2.true)) in
    sym (past_after c.args.period c.args.place.now (row_of_view c.args.row) k c.of-at.ensures.key less)

pub returns : goal.returns
returns g c =
    let k = c.of-at.result in
    let l = c.key-key.result in
    let a = not_before k l _ c.is_before.ensures c.if-is_before.false in
    let b = not_before l k _ c.is_before-2.ensures c.if-is_before-2.false in
    let same : rank k ≡ rank_of c.args.period (row_of_view c.args.row) = omega (arith, a, b, c.key-key.ensures.value) in
    c.is_lt.ensures ∙ ap is_lt c.cmp_names.ensures ∙ sym (past_same c.args.period c.args.place.now (row_of_view c.args.row) k c.of-at.ensures.key same)
