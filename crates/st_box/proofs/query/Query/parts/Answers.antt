use Rattle.std.proofs.Common.{◌/◌, [], ◌∷◌, ◌++◌, ap, ◌∙◌, arith}
use Rattle.st_box.proofs.Parts.{AreParts, are_one, are_two, are_three}
use Rattle.st_box.proofs.query.Query.parts.Goals as goal
use Rattle.st_box.proofs.query.Query.parts.Goals.{then-first-last-2, else-first-last-2}

one : (c : goal.Then-first-last) → AreParts c.args.self.now c.args.period c.push.new.self.items
one c =
    let q = c.args.self.now in
    are_one q c.args.period _ _ c.edge.result _ (ap (λ s. q.t0 / s) c.seconds.ensures) (ap (λ s. q.t1 / s) c.seconds-2.ensures) c.if-first-last.true
    c.edge.ensures (c.push.ensures.items ∙ ap (λ v. v ++ c.edge.result ∷ []) c.new-parts.ensures)

more : (c : goal.After-push-2) → AreParts c.args.self.now c.args.period c.push-2.new.self.items
more c =
    let q = c.args.self.now in
    let e0 = ap (λ s. q.t0 / s) c.seconds.ensures in
    let e1 = ap (λ s. q.t1 / s) c.seconds-2.ensures in
    let p = c.edge.result in
    let r = c.edge-2.result in
    let begun = c.push.ensures.items ∙ ap (λ v. v ++ p ∷ []) c.new-parts.ensures in
    elim c.if-first-last-2.branch [
      | then-first-last-2 w ↦
          are_three q c.args.period _ _ p w.middle.result r _ e0 e1 (omega arith) c.edge.ensures w.middle.ensures c.edge-2.ensures
          (c.push-2.ensures.items ∙ ap (λ v. v.items ++ r ∷ []) w.parts-is ∙ ap (λ v. v ++ r ∷ []) (w.push-then-first-last-2.ensures.items ∙ ap (λ v. v ++ w.middle.result ∷ []) begun))
      | else-first-last-2 w ↦
          are_two q c.args.period _ _ p r _ e0 e1 c.if-first-last.false w.if-first-last-2.false c.edge.ensures c.edge-2.ensures
          (c.push-2.ensures.items ∙ ap (λ v. v.items ++ r ∷ []) w.parts-is ∙ ap (λ v. v ++ r ∷ []) begun)
    ]

pub returns-then-first-last-clause-cuts : goal.returns-then-first-last-clause-cuts
returns-then-first-last-clause-cuts c = (one c).cuts

pub returns-then-first-last-clause-whole : goal.returns-then-first-last-clause-whole
returns-then-first-last-clause-whole c = (one c).whole

pub returns-then-first-last-clause-apart : goal.returns-then-first-last-clause-apart
returns-then-first-last-clause-apart c = (one c).apart

pub returns-clause-cuts : goal.returns-clause-cuts
returns-clause-cuts c = (more c).cuts

pub returns-clause-whole : goal.returns-clause-whole
returns-clause-whole c = (more c).whole

pub returns-clause-apart : goal.returns-clause-apart
returns-clause-apart c = (more c).apart
