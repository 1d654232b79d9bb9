use Rattle.std.proofs.Common.{ap, subst, map, ◌∙◌, rules}
use Rattle.std.proofs.lemmas.List.{take_all}
use Rattle.st_auth.specs.inner.Fronts.{AreBytes, front}
use Rattle.st_auth.proofs.Fronts.{one_more_front, one_more_is_bytes, all_are_bytes}
use Rattle.st_auth.proofs.order.Fronts.new.Goals as goal

pub loop-name-preserved : goal.loop-name-preserved
loop-name-preserved g c =
    let names = c.args.names.now in
    let at = c.loop-name.name-index in
    let name = c.name-item.result in (
      c.in_ok-push.ensures.items ∙ rw (c.loop-name.invariant.0, c.front.ensures.number, c.as_str.ensures) (one_more_front names at name (search rules) c.name-item.is),
      one_more_is_bytes names at name (search rules) c.name-item.is (subst AreBytes c.as_str.ensures c.front.ensures.bytes) c.loop-name.invariant.1,
    )

pub invariant_of-result : goal.invariant_of-result
invariant_of-result g c = (
  c.loop-name.invariant.0 ∙ ap (map front) (take_all c.loop-name.name-index c.args.names.now (search rules)),
  all_are_bytes c.args.names.now (λ place inside. c.loop-name.invariant.1 place (search rules)),
)
