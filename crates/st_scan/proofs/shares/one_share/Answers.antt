use Rattle.std.proofs.Common.{◌+◌, ◌-◌, ◌<◌, ℕ, sym, ◌∙◌, arith}
use Rattle.st_scan.proofs.Fields.{max_at_most, min_at_least, share_between}
use Rattle.st_scan.proofs.shares.one_share.Goals as goal

some_wide : (n : ℕ) → 0 < n + 1
some_wide n = omega arith

pub returns-clause-some : goal.returns-clause-some
returns-clause-some c number after_first to_last after_from before_to =
    share_between c.args.first (c.args.last - c.args.first + 1) c.args.shares c.max-from.result c.min-to.result number c.share_of-share.result
    (some_wide (c.args.last - c.args.first)) (max_at_most c.args.from c.args.first number _ c.max-from.ensures after_from after_first)
    (min_at_least c.args.to c.args.last number _ c.min-to.ensures before_to to_last) c.share_of-share.ensures.value (sym c.share_of.ensures.value ∙ c.if-share_of-share.false)
