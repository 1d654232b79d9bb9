use Rattle.std.proofs.Common.{rules}
use Rattle.st_auth.specs.inner.Remembered.{AreHeld, AreKnown, kept_text}
use Rattle.st_auth.proofs.verdicts.Verdicts.ask.Goals as goal
use Rattle.st_auth.proofs.verdicts.Verdicts.ask.Goals.{then-not-is_same+in-Ok, else-not-is_same}

pub invariant_of-self : goal.invariant_of-self
invariant_of-self g c =
    let held : AreHeld c.if-not-is_same.self-inside.auths c.if-not-is_same.self-inside.long.recent = elim c.if-not-is_same.branch [
      | then-not-is_same+in-Ok w ↦ rw w.self-inside-is (w.forget-then-not-is_same.ensures.held w.in-Ok.copy)
      | else-not-is_same w ↦ rw w.self-inside-is c.self.invariant.0
    ] in
    let known : AreKnown kept_text c.if-not-is_same.self-inside.auths c.if-not-is_same.self-inside.long.cache.known.items = elim c.if-not-is_same.branch [
      | then-not-is_same+in-Ok w ↦ rw w.self-inside-is (w.forget-then-not-is_same.ensures.known w.in-Ok.copy)
      | else-not-is_same w ↦ rw w.self-inside-is c.self.invariant.2
    ] in
    (held, c.in-Some.ensures.known, known)

pub ask-requires-in-None : goal.ask-requires-in-None
ask-requires-in-None g c =
    let held : AreHeld c.if-not-is_same.self-inside.auths c.if-not-is_same.self-inside.long.recent = elim c.if-not-is_same.branch [
      | then-not-is_same+in-Ok w ↦ rw w.self-inside-is (w.forget-then-not-is_same.ensures.held w.in-Ok.copy)
      | else-not-is_same w ↦ rw w.self-inside-is c.self.invariant.0
    ] in
    let known : AreKnown kept_text c.if-not-is_same.self-inside.auths c.if-not-is_same.self-inside.long.cache.known.items = elim c.if-not-is_same.branch [
      | then-not-is_same+in-Ok w ↦ rw w.self-inside-is (w.forget-then-not-is_same.ensures.known w.in-Ok.copy)
      | else-not-is_same w ↦ rw w.self-inside-is c.self.invariant.2
    ] in
    record { known = known; held = held }

pub returns-in-Some-clause-value : goal.returns-in-Some-clause-value
returns-in-Some-clause-value g c = search rules

pub returns-in-None-clause-value : goal.returns-in-None-clause-value
returns-in-None-clause-value g c = search rules
