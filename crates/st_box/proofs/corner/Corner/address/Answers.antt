use Rattle.std.proofs.Common.{ap}
use Rattle.st_key.proofs.MortonLemmas.{interleaved}
use Rattle.st_box.proofs.Lanes.{holds}
use Rattle.st_box.proofs.corner.Corner.address.Goals as goal

pub returns : goal.returns
returns c =
    let s = holds c.self.inside c.args.self.now c.self.invariant (ap (λ s. s.x) c.self.view_is) (ap (λ s. s.y) c.self.view_is) (ap (λ s. s.offset) c.self.view_is) in
    interleaved _ _ _ _ _ _ s.x_is s.y_is s.offset_is
