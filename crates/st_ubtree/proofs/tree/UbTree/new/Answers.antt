use Rattle.std.proofs.Common.{◌≤◌, [], length, refl, arith, rules}
use Rattle.std.proofs.lemmas.List.Elements.{All-cons, All-nil}
use Rattle.st_index.specs.inner.Entries.{key_end}
use Rattle.st_index.proofs.Listing.{some_keys}
use Rattle.st_tally.specs.inner.Pages.{PageValue}
use Rattle.st_ubtree.proofs.Splitting.{page}
use Rattle.st_ubtree.proofs.tree.UbTree.new.Goals as goal

pub invariant_of-result : goal.invariant_of-result
invariant_of-result g c =
    let w = c.args.period in
    rw (c.page.ensures, c.in_ok-entries.ensures.items) (record {
      spans = (refl, (key_end w, some_keys w, omega arith, refl));
      filled = record {
        not_more = All-cons (λ (p : PageValue g.row.A.Denot). length p.entries ≤ 32) (page 0 []) [] (omega arith) (All-nil _);
        not_less = λ two. absurd (omega (arith, two));
      };
      wide = λ tall. absurd (omega (arith, tall));
      counted = refl;
      most = omega arith;
    })

pub returns : goal.returns
returns g c = search rules
