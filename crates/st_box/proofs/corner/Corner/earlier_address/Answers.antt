use Rattle.std.proofs.Common.{ap, ◌∙◌, min}
use Rattle.st_key.proofs.MortonLemmas.{interleaved}
use Rattle.st_box.proofs.Lanes.{holds, spread-min}
use Rattle.st_box.proofs.corner.Corner.earlier_address.Goals as goal

pub returns : goal.returns
returns c =
    let s = (holds c.self.inside c.args.self.now c.self.invariant (ap (λ s. s.x) c.self.view_is) (ap (λ s. s.y) c.self.view_is) (ap (λ s. s.offset) c.self.view_is)) in
    let t = (holds c.other.inside c.args.other.now c.other.invariant (ap (λ s. s.x) c.other.view_is) (ap (λ s. s.y) c.other.view_is) (ap (λ s. s.offset) c.other.view_is)) in
    interleaved _ _ _ _ _ _
    (c.min.ensures ∙ ap (λ v. min v c.other.inside.x) s.x_is ∙ ap (min _) t.x_is ∙ spread-min 21 _ _ s.x_fits t.x_fits)
    (c.min-2.ensures ∙ ap (λ v. min v c.other.inside.y) s.y_is ∙ ap (min _) t.y_is ∙ spread-min 21 _ _ s.y_fits t.y_fits)
    (c.min-3.ensures ∙ ap (λ v. min v c.other.inside.offset) s.offset_is ∙ ap (min _) t.offset_is ∙ spread-min 21 _ _ s.offset_fits t.offset_fits)
