use Rattle.std.proofs.Common.{rules, List, ap, ◌∙◌}
use Rattle.std.specs.Cmp.Lexicographic.{slice_cmp}
use Rattle.std.specs.Ordering.{nat_cmp}
use Rattle.std.proofs.lemmas.Fn.{always_returns_same}
use Rattle.st_text.specs.Texts.{Text, is_among}
use Rattle.st_auth.specs.inner.Order.{name_at}
use Rattle.st_auth.proofs.Search.{found}
use Rattle.st_auth.proofs.auths.AuthsNames.has_term.Goals as goal

pub returns : goal.returns
returns g c =
    let searched = c.binary_search_by.ensures.position (λ y. slice_cmp nat_cmp (name_at c.self.inside.names.items y) c.args.term.now) (always_returns_same _ _ _ (λ a r f' k. search rules)) in
    let value = c.deref-2.ensures.value in
    c.is_ok.ensures.value
    ∙ found c.self.inside.names.items c.self.inside.order.items c.args.term.now c.binary_search_by.result c.self.invariant.0 (rw value at c.binary_search_by.ensures.bound) (rw value at searched)
    ∙ ap (λ (k : List Text). is_among k c.args.term.now) c.self.view_is
