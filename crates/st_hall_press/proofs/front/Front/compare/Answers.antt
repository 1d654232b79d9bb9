use Rattle.std.proofs.Common.{ap, subst, List}
use mathlib.Core.List.{IsPrefix}
use Rattle.st_hall_press.specs.Steps.{Ask}
use Rattle.st_hall_press.proofs.Fronts.{prefix_shorter}
use Rattle.st_hall_press.proofs.front.Front.compare.Goals as goal

pub returns : goal.returns
returns g c =
    let both = c.learn.new.self.log in
    let mine = c.self.inside.seen.log in
    let this : IsPrefix mine both = subst (λ (l : List Ask). IsPrefix l both) (ap (λ s. s.log) c.again-both.ensures) c.learn.ensures.2 in
    rw (← c.self.view_is, ← c.other.view_is) (prefix_shorter mine c.other.inside.seen.log both this c.learn.ensures.3, prefix_shorter c.other.inside.seen.log mine both c.learn.ensures.3 this)
