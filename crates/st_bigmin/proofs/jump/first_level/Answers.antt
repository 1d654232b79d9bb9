use Rattle.std.proofs.Common.{◌≡◌, ◌^◌, ◌<◌, ◌-◌, rules}
use Rattle.std.specs.Int.Bits.{bit_xor}
use Rattle.std.specs.Int.Count.{count_leading_zeros}
use Rattle.st_bigmin.proofs.Starts.{nearest_at, start_level}
use Rattle.st_bigmin.proofs.jump.first_level.Goals as goal

pub returns : goal.returns
returns c =
    let nearest = c.later_address-nearest.result in
    let at = nearest_at c.args.first.now c.args.last.now _ _ c.args.z _ nearest c.at.ensures c.earlier_address-not_past.ensures c.at-2.ensures c.later_address-nearest.ensures in
    let wide : nearest < 2 ^ 64 = search rules in
    let level : c.saturating_sub.result ≡ 63 - count_leading_zeros 64 (bit_xor c.args.z nearest) = search rules in
    start_level c.args.first.now c.args.last.now c.args.z nearest c.saturating_sub.result c.requires.in_range wide at level
