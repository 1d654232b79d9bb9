use Rattle.std.proofs.lemmas.Bool.{ltb_from_iff}
use Rattle.st_key.proofs.PointLemmas.{before_by_rank}
use Rattle.st_index.proofs.order.is_before.Goals as goal

pub returns : goal.returns
returns c =
    let is = before_by_rank c.args.one c.args.other in
    ltb_from_iff ((λ h. is.0 (c.is_before.ensures.0 h)), (λ h. c.is_before.ensures.1 (is.1 h)))
