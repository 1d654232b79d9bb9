use Rattle.std.proofs.Common.{rules, ◌≡◌, Option, Some, None, refl, ap, ◌∙◌}
use Rattle.st_policy.specs.declared.refusal.Refusal.{Refusal}
use Rattle.st_core.specs.Step.{Heard, settle}
use Rattle.st_core.proofs.Steps.{settled_refused, settled_allowed}
use Rattle.st_core.proofs.store.Store.carry_out.Goals as goal

pub returns-in-Some-clause-state : goal.returns-in-Some-clause-state
returns-in-Some-clause-state g c =
    let same : c.args.refusal ≡ Some c.in-Some.refusal = search rules in
    rw (ap (λ (o : Option Refusal). settle c.args.self.now (Heard c.args.asker.now c.args.request.now o)) same
    ∙ settled_refused c.args.self.now c.args.asker.now c.args.request.now c.requires.change c.in-Some.refusal) (search rules)

pub returns-in_ok-make-in-None-clause-reply : goal.returns-in_ok-make-in-None-clause-reply
returns-in_ok-make-in-None-clause-reply g c =
    let same : c.args.refusal ≡ None = search rules in
    rw (ap (λ (o : Option Refusal). settle c.args.self.now (Heard c.args.asker.now c.args.request.now o)) same
    ∙ settled_allowed c.args.self.now c.args.asker.now c.args.request.now c.requires.change) refl

pub returns-in_ok-make-in-None-clause-state : goal.returns-in_ok-make-in-None-clause-state
returns-in_ok-make-in-None-clause-state g c =
    let same : c.args.refusal ≡ None = search rules in
    rw (ap (λ (o : Option Refusal). settle c.args.self.now (Heard c.args.asker.now c.args.request.now o)) same
    ∙ settled_allowed c.args.self.now c.args.asker.now c.args.request.now c.requires.change) (search rules)
