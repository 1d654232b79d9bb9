use Rattle.st_key.proofs.Digits.{digits_by_level}
use Rattle.st_key.proofs.OrderLemmas.{before_by_key}
use Rattle.st_key.proofs.law.key_order.Goals as goal

pub returns : goal.returns
returns c period p q k l hp hq =
    let keys = before_by_key period p q k l hp hq in
    let digits = digits_by_level period p q in
    (λ before. digits.1 (keys.0 before), λ less. keys.1 (digits.0 less))
