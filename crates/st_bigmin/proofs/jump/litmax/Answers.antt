use Rattle.std.proofs.Common.{◌≡◌, ◌/◌, ◌-◌, ◌^◌, ap, sym, ◌∙◌, subst, arith, rules}
use Rattle.st_box.specs.Corner.{IsWithin, spot_at}
use Rattle.st_box.specs.inner.Corners.{address_at, earlier_of}
use Rattle.st_box.specs.ZBox.{last_of}
use Rattle.st_bigmin.specs.inner.Jump.{IsGreatestBelow}
use Rattle.st_bigmin.proofs.Jumps as jumps
use Rattle.st_box.proofs.Boxes.{cell_last}
use Rattle.st_bigmin.proofs.Jumps.{meets_from, meets_to}
use Rattle.st_bigmin.proofs.jump.litmax.Goals as goal
use Rattle.st_bigmin.proofs.jump.litmax.Goals.{then-prefix-eq1+else-is_within, else-is_within-via-then-is_within+else-is_within-2, else-is_within-via-else-is_within, else-prefix-eq1}

pub returns-then-is_within-2-clause-some : goal.returns-then-is_within-2-clause-some
returns-then-is_within-2-clause-some c =
    let b = c.args.zbox.now in
    let k = c.loop-level.level in
    let starts : IsWithin c.cell-cell_first.result.0 c.last-last.result = c.is_within.ensures.0 (search rules) in
    let ends : IsWithin c.first-first.result c.cell-cell_first.result.1 = c.is_within-then-is_within.ensures.0 (search rules) in
    let m = meets_from b k (c.min-end.result / 2 ^ k - 1) _ _ _ _ c.cell-cell_first.ensures.first c.last-last.ensures c.first-first.ensures c.cell-cell_first.ensures.last starts ends in
    let found = jumps.greatest_below b c.min-end.result k c.loop-level.invariant (omega arith) (jumps.room_below c.min-end.result k (omega arith) (omega arith)) m in
    let same : c.earlier_address.result ≡ address_at (earlier_of (last_of b) (spot_at (cell_last k (c.min-end.result / 2 ^ k - 1)))) =
    c.earlier_address.ensures ∙ ap (λ s. address_at (earlier_of s c.cell-cell_first.result.1)) c.last-last.ensures ∙ ap (λ s. address_at (earlier_of (last_of b) s)) c.cell-cell_first.ensures.last in
    jumps.greatest_below-min b c.args.z c.min-end.result c.earlier_address.result c.min-end.ensures (subst (IsGreatestBelow b c.min-end.result) (sym same) found)

pub loop-level-preserved : goal.loop-level-preserved
loop-level-preserved c =
    let b = c.args.zbox.now in
    let k = c.loop-level.level in
    jumps.none_near_below-suc b c.min-end.result k c.loop-level.invariant
    (elim c.if-prefix-eq1.branch [
      | then-prefix-eq1+else-is_within w ↦ λ even m.
          let both = meets_to b k (c.min-end.result / 2 ^ k - 1) _ _ _ _ w.cell-cell_first.ensures.first c.last-last.ensures c.first-first.ensures w.cell-cell_first.ensures.last m in
          elim w.else-is_within.branch [
            | else-is_within-via-then-is_within+else-is_within-2 v ↦ let yes = v.is_within-then-is_within.ensures.1 both.1 in search rules
            | else-is_within-via-else-is_within v ↦ let yes = w.is_within.ensures.1 both.0 in search rules
          ]
      | else-prefix-eq1 w ↦ λ even m. absurd (omega arith)
    ])

pub returns-clause-none : goal.returns-clause-none
returns-clause-none c a inside =
    let past = jumps.none_below c.args.zbox.now c.min-end.result c.loop-level.level c.loop-level.invariant (omega arith) (omega arith) a inside in
    omega (arith, inside.is_address)
