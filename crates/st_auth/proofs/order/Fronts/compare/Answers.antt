use Rattle.std.proofs.Common.{◌∙◌, ◌≢◌, sym}
use Rattle.st_auth.specs.inner.Order.{name_at}
use Rattle.st_auth.specs.inner.Fronts.{front}
use Rattle.st_auth.proofs.Fronts.{fronts_decide}
use Rattle.st_auth.proofs.order.Fronts.compare.Goals as goal

pub returns-then-first-second : goal.returns-then-first-second
returns-then-first-second g c =
    let one = name_at c.args.self.now c.args.one in
    let other = name_at c.args.self.now c.args.other in
    let apart : front one ≢ front other = λ e. c.if-first-second.true (c.front-first.ensures.number ∙ e ∙ sym c.front-second.ensures.number) in
    c.cmp.ensures ∙ rw (c.front-first.ensures.number, c.front-second.ensures.number) (fronts_decide one other c.front-first.ensures.bytes c.front-second.ensures.bytes apart)
