use Rattle.std.proofs.Common.{◌≡◌, ℕ, ◌+◌, ◌*◌, ◌^◌, ◌<◌, ◌≤◌, arith, subst}
use Rattle.st_table.specs.inner.Places.{number_at}
use Rattle.st_table.proofs.Keys.{adds_more, adds_none, keeps_all, keeps_more, keeps_none}
use Rattle.st_table.proofs.places.Places.keys.Goals as goal

pub places-init : goal.places-init
places-init g c = (
  omega arith,
  keeps_none c.args.self.now.numbers c.new-keys.result.numbers c.args.hash,
  adds_none c.args.self.now.numbers c.new-keys.result.numbers c.args.hash c.new-keys.ensures.none,
)

pub places-preserved : goal.places-preserved
places-preserved g c =
    let numbers = c.args.self.now.numbers in
    let from = c.places.from in
    let found = c.in-Some.found in
    let none = subst (λ h. (n : ℕ) → from ≤ n → n < found → number_at numbers (h * 2 ^ 96 + n) ≡ 0) c.from-first.ensures c.in-Some.ensures.first in
    let held = subst (λ h. 0 < number_at numbers (h * 2 ^ 96 + found)) c.from-first.ensures c.in-Some.ensures.held in
    let below = c.in-Some.ensures.in_range in (
      omega (arith, below),
      keeps_more numbers c.places.keys.numbers c.args.hash c.add.new.self.numbers found c.in_ok-add.ensures.ok from none c.places.invariant.1,
      adds_more numbers c.places.keys.numbers c.args.hash c.add.new.self.numbers found c.in_ok-add.ensures.ok below held c.places.invariant.2,
    )

pub returns-clause-all : goal.returns-clause-all
returns-clause-all g c =
    let numbers = c.args.self.now.numbers in
    let from = c.places.from in
    let none = subst (λ h. (n : ℕ) → from ≤ n → n < 2 ^ 96 → number_at numbers (h * 2 ^ 96 + n) ≡ 0) c.from-first.ensures c.in_default.ensures.none in
    keeps_all numbers c.places.keys.numbers c.args.hash from (2 ^ 96) none c.places.invariant.1

pub returns-clause-no_more : goal.returns-clause-no_more
returns-clause-no_more g c = c.places.invariant.2
