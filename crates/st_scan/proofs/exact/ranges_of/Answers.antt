use Rattle.std.proofs.Common.{◌≡◌, ◌∷◌, ◌++◌, ◌<◌, ◌&&◌, [], inl, inr, length, get_or, nat_le, true, subst, arith}
use Rattle.std.specs.List.{list_any}
use Rattle.st_plan.specs.Range.{is_exact_in}
use Rattle.st_scan.specs.inner.Steps.{has_exact}
use Rattle.st_scan.proofs.ExactRanges.{any_at, any_last}
use Rattle.st_scan.proofs.exact.ranges_of.Goals as goal

pub loop-part-preserved : goal.loop-part-preserved
loop-part-preserved g c k held =
    let plan = c.args.plan.now in
    let i = c.loop-part.part-index in
    let x = c.part-item.result in
    let l : i < length plan = subst (λ xs. i < length xs) c.parts-part-items.ensures (omega arith) in
    let one : list_any (has_exact k) (c.loop-part.parts.items ++ _ ∷ []) ≡ true = subst (λ xs. list_any (has_exact k) xs ≡ true) c.push.ensures.items held in
    elim (any_last (has_exact k) c.loop-part.parts.items _ one) [
      | inl before ↦ c.loop-part.invariant k before
      | inr last ↦
          any_at (λ y. nat_le y.bin_lo k.bin && nat_le k.bin y.bin_hi && list_any (is_exact_in k.address) y.ranges) plan i x l
          (subst (λ xs. x ≡ get_or xs i x) c.parts-part-items.ensures c.part-item.is)
          (subst (λ rs. (nat_le x.bin_lo k.bin && nat_le k.bin x.bin_hi && list_any (is_exact_in k.address) rs) ≡ true) c.as_slice.ensures last)
    ]
