use Rattle.std.proofs.Common.{◌≡◌, ◌≤◌, length, ap, ◌∙◌, arith}
use Rattle.st_key.specs.Key.{rank}
use Rattle.st_tally.specs.inner.Pages.{NodeValue}
use Rattle.st_ubtree.specs.inner.Splits.{splits}
use Rattle.st_ubtree.proofs.Joining.{page_beside}
use Rattle.st_ubtree.proofs.Needing.{page_short, splits_alone}
use Rattle.st_ubtree.proofs.node.even.halve_pages.Goals as goal

pub returns-clause-joins : goal.returns-clause-joins
returns-clause-joins g c =
    let rest = c.halve.new.right.items in
    let less = c.halve.ensures.right.1 in
    let most : length rest ≤ 32 = omega (arith, less) in
    let first = rank c.key-first.result in
    let e = c.index-least.result.now in
    let at : first ≡ e.at = c.key-first.ensures in
    record {
      rest = rest;
      kept = c.halve.ensures.kept;
      not_less = c.halve.ensures.left.0;
      not_more = omega (arith, c.halve.ensures.left.1);
      beside = page_beside first rest e c.page.result c.page.ensures at c.index-least.ensures c.halve.ensures.right.0 most;
    }

pub returns-clause-right : goal.returns-clause-right
returns-clause-right g c = λ key.
    let rest = c.halve.new.right.items in
    let first = rank c.key-first.result in
    ap (λ (v : NodeValue g.row.A.Denot). splits v key) c.page.ensures ∙ splits_alone key first 0 rest ∙ page_short key rest c.halve.ensures.right.1
