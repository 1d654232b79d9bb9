use Rattle.std.proofs.Common.{rules, ◌≡◌, true, ap, subst, sym, ◌∙◌}
use Rattle.st_hall_press.specs.Steps.{state_after}
use Rattle.st_hall_press.specs.Views.{IsNext, QueuedValue}
use Rattle.st_hall_press.proofs.Following.{judges_next, settles_next}
use Rattle.st_hall_press.proofs.edition.EditionAbsorbQueued.absorb_first.Goals as goal

pub make-requires : goal.make-requires
make-requires g c =
    let start = g.H.HallName.start in
    let front = c.self.inside.front in
    let here : QueuedValue = record { judged = c.queued.inside.judged; list = c.queued.inside.front } in
    let yes : c.is_after.result ≡ true = search rules in
    let next : IsNext start front here = subst (λ (q : QueuedValue). IsNext start front q) (sym c.queued.view_is) (c.is_after.ensures yes) in
    judges_next start c.self.inside.store front here c.self.invariant next

pub invariant_of-self-2 : goal.invariant_of-self-2
invariant_of-self-2 g c =
    let start = g.H.HallName.start in
    let front = c.self.inside.front in
    let here : QueuedValue = record { judged = c.queued.inside.judged; list = c.queued.inside.front } in
    let yes : c.is_after.result ≡ true = search rules in
    let next : IsNext start front here = subst (λ (q : QueuedValue). IsNext start front q) (sym c.queued.view_is) (c.is_after.ensures yes) in
    c.in_ok-make.ensures.ok ∙ (settles_next start c.self.inside.store front here c.self.invariant next ∙ ap (state_after start) (sym c.again.ensures))
