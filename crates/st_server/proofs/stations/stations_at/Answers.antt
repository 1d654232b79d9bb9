use Rattle.std.specs.Prelude.{◌≡◌, ◌+◌, get_or, length, vec_items, vec_len}
use Rattle.std.proofs.Common.{rules, arith, below_more, sym, subst}
use Rattle.st_server.specs.Attending.{new_station}
use Rattle.st_server.proofs.stations.stations_at.Goals as goal

pub loop-desk-preserved : goal.loop-desk-preserved
loop-desk-preserved g c =
    let was = c.loop-desk.invariant in let step = c.in-Some.ensures.steps in let done = vec_len c.loop-desk.stations in
    let places = c.push.ensures.by_index in
    let held : length c.loop-desk.stations.items ≡ done = search rules in
    let more : length c.push.new.self.items ≡ vec_len c.push.new.self = search rules in
    let grown : vec_len c.push.new.self ≡ done + 1 = search rules in (
      (λ k d below. let h = was.0 (k + 1) d in grind rules),
      (λ k d below. below_more (λ i. get_or (vec_items c.push.new.self) i d ≡ new_station (i + 1)) done
          (λ i low. subst (λ s. s ≡ new_station (i + 1)) (sym (places.0 i d low)) (was.1 i d (omega (arith, held, low))))
          (subst (λ s. s ≡ new_station (done + 1)) (sym (places.1 d (search rules))) (search rules)) k (omega (arith, below, more, grown))),
      search rules,
    )

pub returns-clause-all : goal.returns-clause-all
returns-clause-all g c =
    let was = c.loop-desk.invariant in let began = c.into_iter-desk-iterator.ensures.into_iter_gives in
    let held : length c.loop-desk.stations.items ≡ vec_len c.loop-desk.stations = search rules in
    let given : length c.args.desks.items ≡ vec_len c.args.desks = search rules in
    omega (arith, held, given, was.2, c.in-None.ensures.steps.0, began.1)
