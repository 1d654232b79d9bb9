use Rattle.std.proofs.Common.{◌≡◌, ◌/◌, ◌+◌, ◌^◌, ap, sym, ◌∙◌, subst, arith, rules}
use Rattle.st_box.specs.Corner.{IsWithin, spot_at}
use Rattle.st_box.specs.inner.Corners.{address_at, later_of}
use Rattle.st_box.specs.ZBox.{first_of}
use Rattle.st_bigmin.specs.inner.Jump.{IsLeastAbove}
use Rattle.st_bigmin.proofs.Jumps as jumps
use Rattle.st_box.proofs.Boxes.{cell_first}
use Rattle.st_bigmin.proofs.Jumps.{meets_from, meets_to}
use Rattle.st_bigmin.proofs.jump.next_between.Goals as goal
use Rattle.st_bigmin.proofs.jump.next_between.Goals.{then-prefix-eq0+else-is_within, else-is_within-via-then-is_within+else-is_within-2, else-is_within-via-else-is_within, else-prefix-eq0}

pub cell-cell_first-requires-clause-fits : goal.cell-cell_first-requires-clause-fits
cell-cell_first-requires-clause-fits c = jumps.room_above c.args.z c.loop-level.level (omega arith) (omega arith) (omega arith)

pub returns-then-is_within-2-clause-some : goal.returns-then-is_within-2-clause-some
returns-then-is_within-2-clause-some c = λ b first_is last_is.
    let k = c.loop-level.level in
    let starts : IsWithin c.cell-cell_first.result.0 c.args.last.now = c.is_within.ensures.0 (search rules) in
    let ends : IsWithin c.args.first.now c.cell-cell_first.result.1 = c.is_within-then-is_within.ensures.0 (search rules) in
    let m = meets_from b k (c.args.z / 2 ^ k + 1) _ _ _ _ c.cell-cell_first.ensures.first (sym last_is) (sym first_is) c.cell-cell_first.ensures.last starts ends in
    let found = jumps.least_above b c.args.z k (c.loop-level.invariant b first_is last_is) (jumps.room_above c.args.z k (omega arith) (omega arith) (omega arith)) m in
    let same : c.later_address.result ≡ address_at (later_of (first_of b) (spot_at (cell_first k (c.args.z / 2 ^ k + 1)))) =
    c.later_address.ensures ∙ ap (λ s. address_at (later_of s c.cell-cell_first.result.0)) (sym first_is) ∙ ap (λ s. address_at (later_of (first_of b) s)) c.cell-cell_first.ensures.first in
    subst (IsLeastAbove b c.args.z) (sym same) found

pub loop-level-preserved : goal.loop-level-preserved
loop-level-preserved c = λ b first_is last_is.
    let k = c.loop-level.level in
    jumps.none_near-suc b c.args.z k (c.loop-level.invariant b first_is last_is)
    (elim c.if-prefix-eq0.branch [
      | then-prefix-eq0+else-is_within w ↦ λ even m.
          let both = meets_to b k (c.args.z / 2 ^ k + 1) _ _ _ _ w.cell-cell_first.ensures.first (sym last_is) (sym first_is) w.cell-cell_first.ensures.last m in
          elim w.else-is_within.branch [
            | else-is_within-via-then-is_within+else-is_within-2 v ↦ let yes = v.is_within-then-is_within.ensures.1 both.1 in search rules
            | else-is_within-via-else-is_within v ↦ let yes = w.is_within.ensures.1 both.0 in search rules
          ]
      | else-prefix-eq0 w ↦ λ even m. absurd (omega arith)
    ])

pub returns-clause-none : goal.returns-clause-none
returns-clause-none c = λ b first_is last_is. jumps.none_above b c.args.z c.loop-level.level (c.loop-level.invariant b first_is last_is) (omega arith)

pub loop-level-init : goal.loop-level-init
loop-level-init c = λ b first_is last_is.
    jumps.none_near-start b c.args.z c.first_level-level.result _ _ (sym first_is) (sym last_is) c.first_level-level.ensures

pub returns-then-z-address-clause-none : goal.returns-then-z-address-clause-none
returns-then-z-address-clause-none c = λ b first_is last_is.
    jumps.past_last b c.args.last.now c.args.z c.address.result c.address.ensures last_is (omega arith)
