use Rattle.std.proofs.Common.{rules}
use Rattle.std.specs.Cmp.Lexicographic.{slice_cmp}
use Rattle.std.specs.Ordering.{nat_cmp, is_lt}
use Rattle.std.proofs.lemmas.Cmp.{nat_list_cmp_total}
use Rattle.std.proofs.lemmas.Fn.{always_returns_same}
use Rattle.std.proofs.lemmas.List.Sorted.{ranks_by}
use Rattle.st_auth.specs.inner.Order.{name_at}
use Rattle.st_auth.proofs.order.places_in_order.Goals as goal

pub returns : goal.returns
returns g c = record {
  whole = search rules;
  rises =
      c.in_ok-sort_by.ensures.sorted (λ x y. is_lt (slice_cmp nat_cmp (name_at c.args.names.now x) (name_at c.args.names.now y))) (ranks_by nat_list_cmp_total (name_at c.args.names.now))
      (always_returns_same _ _ _ (λ a r f' k. search rules));
}
