use Rattle.std.proofs.Common.{◌+◌, ◌-◌, ◌*◌, ◌/◌, ◌^◌, ap, ◌∙◌, arith}
use Rattle.st_scan.proofs.Factors.{by_factor}
use Rattle.st_scan.proofs.Fields.{share_below}
use Rattle.st_scan.proofs.shares.Shares.of.Goals as goal

pub returns-clause-value : goal.returns-clause-value
returns-clause-value c =
    let s = c.args.self.now in
    let width = s.last - s.first + 1 in
    ap (λ n. n * s.factor / 2 ^ 42) c.from.ensures
    ∙ by_factor (c.args.number - s.first) s.shares width s.factor (omega arith) (omega arith) s.rounded_up

pub returns-clause-below : goal.returns-clause-below
returns-clause-below c =
    let s = c.args.self.now in
    let value = returns-clause-value c in
    let below = share_below (c.args.number - s.first) (s.last - s.first + 1) s.shares (omega arith) s.some in
    omega (arith, value, below)
