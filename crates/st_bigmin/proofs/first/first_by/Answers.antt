use Rattle.std.proofs.Common.{ℕ, ◌+◌, ◌/◌, ◌≤◌, ◌∙◌, inl, inr, sym, subst, arith, rules}
use Rattle.st_key.specs.Period.{seconds_of}
use Rattle.st_box.specs.inner.Bins.{IsBoxIn}
use Rattle.st_box.specs.ZBox.{IsInside}
use Rattle.st_box.proofs.KeyTests.{cut, cut_keys}
use Rattle.st_box.proofs.Spans.{bins_of_key}
use Rattle.st_bigmin.specs.inner.Jump.{IsLeastAbove}
use Rattle.st_bigmin.proofs.FirstKeys as keys
use Rattle.st_bigmin.proofs.first.first_by.Goals as goal

pub returns-then-bin-first_bin-clause-some : goal.returns-then-bin-first_bin-clause-some
returns-then-bin-first_bin-clause-some c =
    let q = c.args.test.now.query in
    let w = c.args.test.now.period in
    let here = c.bin-bin.ensures.value in
    keys.first_of_next q w c.first_bin-then-bin-first_bin.result c.args.from c.first_in.result c.first_in.ensures (omega (arith, c.first_bin.ensures, c.first_bin-then-bin-first_bin.ensures))
    (λ l has later. let bins = bins_of_key q w l has in omega (arith, c.first_bin-then-bin-first_bin.ensures))

pub returns-then-has_key-clause-some : goal.returns-then-has_key-clause-some
returns-then-has_key-clause-some c = keys.itself c.args.test.now.query c.args.test.now.period c.args.from (c.has_key.ensures.0 c.if-has_key.true)

pub at-requires-clause-address : goal.at-requires-clause-address
at-requires-clause-address c =
    let q = c.args.test.now.query in
    let w = c.args.test.now.period in
    let from : q.t0 / seconds_of w ≤ c.bin-bin.result = omega (arith, c.first_bin.ensures) in
    let to : c.bin-bin.result ≤ q.t1 / seconds_of w = omega (arith, c.last_bin.ensures) in
    let next = c.in-Some.ensures.some (cut q w c.bin-bin.result from to) (sym c.corners_in-first.ensures.first) (sym c.corners_in-first.ensures.last) in
    next.inside.is_address

pub returns-in-Some-clause-some : goal.returns-in-Some-clause-some
returns-in-Some-clause-some c =
    let q = c.args.test.now.query in
    let w = c.args.test.now.period in
    let from : q.t0 / seconds_of w ≤ c.bin-bin.result = omega (arith, c.first_bin.ensures) in
    let to : c.bin-bin.result ≤ q.t1 / seconds_of w = omega (arith, c.last_bin.ensures) in
    let b = cut q w c.bin-bin.result from to in
    let box = subst (λ n. IsBoxIn q w n b) c.bin-bin.ensures.value (cut_keys q w c.bin-bin.result from to) in
    let next = c.in-Some.ensures.some b (sym c.corners_in-first.ensures.first) (sym c.corners_in-first.ensures.last) in
    let above = subst (λ z. IsLeastAbove b z c.in-Some.address) c.address.ensures.value next in
    keys.next_in_bin q w b c.args.from c.at.result box (λ has. let held = c.has_key.ensures.1 has in search rules)
    (c.at.ensures.bin ∙ c.bin-bin.ensures.value)
    (subst (λ m. IsLeastAbove b c.args.from.address m) (sym c.at.ensures.address) above)

pub returns-in-None-clause-some : goal.returns-in-None-clause-some
returns-in-None-clause-some c =
    let q = c.args.test.now.query in
    let w = c.args.test.now.period in
    let here = c.bin-bin.ensures.value in
    let from : q.t0 / seconds_of w ≤ c.bin-bin.result = omega (arith, c.first_bin.ensures) in
    let to : c.bin-bin.result ≤ q.t1 / seconds_of w = omega (arith, c.last_bin.ensures) in
    let b = cut q w c.bin-bin.result from to in
    let box = subst (λ n. IsBoxIn q w n b) here (cut_keys q w c.bin-bin.result from to) in
    let none = subst (λ z. (a : ℕ) → IsInside b a → a ≤ z) c.address.ensures.value (c.in-None.ensures.none b (sym c.corners_in-first.ensures.first) (sym c.corners_in-first.ensures.last)) in
    keys.first_of_next q w (c.bin-bin.result + 1) c.args.from c.first_in-in-None.result c.first_in-in-None.ensures (omega arith)
    (λ l has later. elim (keys.past_bin q w b c.args.from box (λ there. let held = c.has_key.ensures.1 there in search rules) none l has) [
      | inl before ↦ absurd (keys.before_absurd l c.args.from before later)
      | inr beyond ↦ omega arith
    ])

pub returns-in-None-2-clause-none : goal.returns-in-None-2-clause-none
returns-in-None-2-clause-none c l has =
    let q = c.args.test.now.query in
    let w = c.args.test.now.period in
    let here = c.bin-bin.ensures.value in
    let from : q.t0 / seconds_of w ≤ c.bin-bin.result = omega (arith, c.first_bin.ensures) in
    let to : c.bin-bin.result ≤ q.t1 / seconds_of w = omega (arith, c.last_bin.ensures) in
    let b = cut q w c.bin-bin.result from to in
    let box = subst (λ n. IsBoxIn q w n b) here (cut_keys q w c.bin-bin.result from to) in
    let none = subst (λ z. (a : ℕ) → IsInside b a → a ≤ z) c.address.ensures.value (c.in-None.ensures.none b (sym c.corners_in-first.ensures.first) (sym c.corners_in-first.ensures.last)) in
    let bins = bins_of_key q w l has in
    elim (keys.past_bin q w b c.args.from box (λ there. let held = c.has_key.ensures.1 there in search rules) none l has) [
      | inl before ↦ before
      | inr beyond ↦ absurd (omega (arith, c.last_bin.ensures))
    ]
