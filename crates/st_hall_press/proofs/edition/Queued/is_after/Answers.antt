use Rattle.std.proofs.Common.{subst}
use Rattle.st_hall_press.specs.Views.{IsNext, QueuedValue}
use Rattle.st_hall_press.proofs.Following.{is_next}
use Rattle.st_hall_press.proofs.edition.Queued.is_after.Goals as goal

pub returns : goal.returns
returns g c e =
    let start = g.H.HallName.start in
    let before = c.args.front.now in
    let here : QueuedValue = record { judged = c.self.inside.judged; list = c.self.inside.front } in
    subst (λ (q : QueuedValue). IsNext start before q) c.self.view_is (is_next start before here c.self.invariant (c.is_after.ensures e))
