use Rattle.std.proofs.Common.{arith, ap, ◌≤◌}
use Rattle.std.proofs.lemmas.Bool.Decides.{nat_tests}
use Rattle.st_box.proofs.Lanes.{holds, within}
use Rattle.st_box.proofs.corner.Corner.is_within.Goals as goal
use Rattle.st_box.proofs.corner.Corner.is_within.Goals.{then-self-other, else-self-other}

pub returns-then-self-other-2 : goal.returns-then-self-other-2
returns-then-self-other-2 c =
    let w = within c.self.inside c.other.inside c.args.self.now c.args.other.now
    (holds c.self.inside c.args.self.now c.self.invariant (ap (λ s. s.x) c.self.view_is) (ap (λ s. s.y) c.self.view_is) (ap (λ s. s.offset) c.self.view_is))
    (holds c.other.inside c.args.other.now c.other.invariant (ap (λ s. s.x) c.other.view_is) (ap (λ s. s.y) c.other.view_is) (ap (λ s. s.offset) c.other.view_is)) in
    elim c.if-self-other.branch [
      | then-self-other b ↦
          let y_le : c.self.inside.y ≤ c.other.inside.y = grind (arith, nat_tests) in
          (λ yes. w.0 (omega arith, y_le, grind (arith, nat_tests)), λ h. let le = w.1 h in grind (arith, nat_tests))
      | else-self-other b ↦ absurd (grind (arith, nat_tests))
    ]

pub returns-else-self-other-2 : goal.returns-else-self-other-2
returns-else-self-other-2 c =
    let w = within c.self.inside c.other.inside c.args.self.now c.args.other.now
    (holds c.self.inside c.args.self.now c.self.invariant (ap (λ s. s.x) c.self.view_is) (ap (λ s. s.y) c.self.view_is) (ap (λ s. s.offset) c.self.view_is))
    (holds c.other.inside c.args.other.now c.other.invariant (ap (λ s. s.x) c.other.view_is) (ap (λ s. s.y) c.other.view_is) (ap (λ s. s.offset) c.other.view_is)) in
    elim c.if-self-other.branch [
      | then-self-other b ↦ (λ yes. absurd (grind (arith, nat_tests)), λ h. let le = w.1 h in grind (arith, nat_tests))
      | else-self-other b ↦ (λ yes. absurd (grind (arith, nat_tests)), λ h. let le = w.1 h in grind (arith, nat_tests))
    ]
