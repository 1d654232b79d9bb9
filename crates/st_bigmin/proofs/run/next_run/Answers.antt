use Rattle.std.proofs.Common.{◌≡◌, inl, inr, subst, arith, rules}
use Rattle.std.proofs.lemmas.Bool.{cases_lt}
use Rattle.st_bigmin.specs.inner.Jump.{IsLeastAbove}
use Rattle.st_box.specs.ZBox.{IsInside}
use Rattle.st_bigmin.proofs.Runs.{run_of}
use Rattle.st_bigmin.proofs.run.next_run.Goals as goal
use Rattle.st_bigmin.proofs.run.next_run.Goals.{then-has_address, else-has_address+in_ok-first}

pub returns-clause-some : goal.returns-clause-some
returns-clause-some c =
    elim c.if-has_address.branch [
      | then-has_address w ↦ run_of c.args.zbox.now c.args.from _ c.run_last-last.result (omega arith) (λ a from to there. absurd (omega arith)) c.run_last-last.ensures.run
      | else-has_address+in_ok-first w ↦
          let m : IsLeastAbove c.args.zbox.now c.args.from w.in_ok-first.first = w.in_ok-first.ensures.some in
          run_of c.args.zbox.now c.args.from _ c.run_last-last.result (omega (arith, m.above))
          (λ a from to there. elim (cases_lt c.args.from a) [
            | inl above ↦ let le = m.least a there above in absurd (omega arith)
            | inr here ↦
                let e : a ≡ c.args.from = omega arith in
                let yes = c.has_address.ensures.1 (subst (IsInside c.args.zbox.now) e there) in
                search rules
          ])
          c.run_last-last.ensures.run
    ]
