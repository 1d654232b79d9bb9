use Rattle.std.proofs.Common.{drop, sym, ap, subst, List, ◌∙◌}
use Rattle.st_hall_press.specs.Steps.{Ask}
use Rattle.st_hall_press.specs.Views.{IsNext, Printed}
use Rattle.st_hall_press.proofs.Following.{waits}
use Rattle.st_hall_press.proofs.press.Press.put.Goals as goal

pub invariant_of-self : goal.invariant_of-self
invariant_of-self g c =
    let start = g.H.HallName.start in
    let inside = c.self.inside in
    let next = subst (λ (l : List Ask). IsNext start l c.args.queued) (sym (ap (λ (p : Printed). p.pushed) c.self.view_is)) c.requires.next in (
      c.self.invariant.0,
      waits start inside.writer.desk.shown.value.list (drop inside.writer.behind inside.writer.log.items) inside.waiting c.hold.new.waiting inside.front c.again.result
          c.args.queued (ap (λ (p : Printed). p.has_room) c.self.view_is ∙ c.requires.room) c.hold.ensures next (c.again.ensures ∙ c.front.ensures) c.self.invariant.1,
    )
