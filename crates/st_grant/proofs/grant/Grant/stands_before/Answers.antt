use Rattle.std.proofs.Common.{ap, ◌∙◌}
use Rattle.std.specs.Cmp.Lexicographic.{slice_cmp}
use Rattle.std.specs.Ordering.{is_lt, nat_cmp, ordering_then}
use Rattle.st_grant.specs.Order.{scope_kind, scope_name}
use Rattle.st_grant.specs.Permissions.{place_of}
use Rattle.st_grant.proofs.Order.{key_by_parts}
use Rattle.st_grant.proofs.grant.Grant.stands_before.Goals as goal

pub returns : goal.returns
returns c =
    let by_scope = c.compare-by_scope.ensures in
    let by_user = c.cmp-by_user.ensures ∙ ap (λ name. slice_cmp nat_cmp name c.args.user.now) c.as_str.ensures.value in
    let by_place = c.cmp-by_place.ensures ∙ (λ i. nat_cmp (c.place.ensures i) (c.place-2.ensures i)) in
    let first = c.then.ensures ∙ (λ i. ordering_then (by_scope i) (by_user i)) in
    let parts = key_by_parts
    (slice_cmp nat_cmp (scope_kind c.args.self.now.scope) (scope_kind c.args.scope.now))
    (slice_cmp nat_cmp (scope_name c.args.self.now.scope) (scope_name c.args.scope.now))
    (slice_cmp nat_cmp c.args.self.now.user c.args.user.now)
    (nat_cmp (place_of c.args.self.now.permission) (place_of c.args.permission)) in
    c.is_lt.ensures ∙ ap is_lt (c.then-2.ensures ∙ (λ i. ordering_then (first i) (by_place i)) ∙ parts)
