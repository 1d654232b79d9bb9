use Rattle.std.proofs.Common.{◌≡◌, ℕ, ◌+◌, ◌-◌, ◌<◌, length, subst, ap, ◌∙◌, get_or, arith, suc, sym}
use Rattle.st_key.specs.declared.period.Period.{Period}
use Rattle.st_key.specs.Key.{rank}
use Rattle.st_ubtree.specs.inner.Growing.{IsChosen}
use Rattle.st_tally.specs.inner.Marks.{HasAt}
use Rattle.st_ubtree.proofs.Firsts.{as_many}
use Rattle.st_ubtree.proofs.Leaves.{part_kid, ends_next, ends_last}
use Rattle.st_ubtree.proofs.Lifting.{that_kid}
use Rattle.st_tally.proofs.Placing.{any_default}
use Rattle.st_ubtree.proofs.Spanning.{Found}
use Rattle.st_ubtree.proofs.node.seek.child_at.Goals as goal
use Rattle.st_ubtree.proofs.node.seek.child_at.Goals.{then-after-kids, else-after-kids}

pub at-requires : goal.at-requires
at-requires g c =
    omega (arith, as_many c.args.firsts.now c.args.kids.now c.requires.firsts, c.if-after-kids.true)

pub returns-clause-part : goal.returns-clause-part
returns-clause-part g c = λ below each.
    let kids = c.args.kids.now in
    let i = c.child_for-at.result in
    let kid = c.index-kids-at.result in
    let chosen : IsChosen (rank c.args.key) kids i = c.child_for-at.ensures kids c.requires.some c.requires.firsts in
    let l = chosen.within in
    let read = c.index-kids-at.is in
    let ends : (period : Period) (lo : ℕ) (f : Found period (rank c.args.key) lo (rank c.args.last + 1) kids i kid) → rank c.if-after-kids.kid_last + 1 ≡ f.b =
    elim c.if-after-kids.branch [
      | then-after-kids w ↦
          let more : suc i < length kids = let a = w.if-after-kids.true in omega (arith, a) in
          let next = get_or kids (suc i) kid in
          let there : next ≡ get_or kids (suc i) next = any_default kids (suc i) kid next more in
          let e : i + 1 ≡ suc i = omega arith in
          let begins : rank w.at.result ≡ next.first = w.at.ensures kids next c.requires.firsts (subst (λ (j : ℕ). HasAt kids j next) (sym e) (more, there)) in
          let k : rank c.if-after-kids.kid_last ≡ next.first - 1 = ap rank w.kid_last-is ∙ w.before-kid_last.ensures ∙ ap (λ n. n - 1) begins in
          ends_next (rank c.args.key) below (rank c.args.last) kids i chosen.upto kid each chosen.found chosen.is l read
          (rank c.if-after-kids.kid_last) next more there k
      | else-after-kids w ↦
          rw w.kid_last-is (ends_last (rank c.args.key) below (rank c.args.last) kids i chosen.upto kid each chosen.found chosen.is l read
          (omega (arith, w.if-after-kids.false)))
    ] in
    part_kid (rank c.args.key) below (rank c.args.last) kids i chosen.upto kid each chosen.found chosen.is l read (rank c.if-after-kids.kid_last) ends

pub returns-clause-lower : goal.returns-clause-lower
returns-clause-lower g c = λ below each.
    let kids = c.args.kids.now in
    let i = c.child_for-at.result in
    let chosen : IsChosen (rank c.args.key) kids i = c.child_for-at.ensures kids c.requires.some c.requires.firsts in
    (that_kid below kids i c.index-kids-at.result chosen.within c.index-kids-at.is each).same_height

pub overflow_add-after : goal.overflow_add-after
overflow_add-after g c =
    omega (arith, (c.child_for-at.ensures c.args.kids.now c.requires.some c.requires.firsts).within)

pub bounds-kids-at : goal.bounds-kids-at
bounds-kids-at g c = (c.child_for-at.ensures c.args.kids.now c.requires.some c.requires.firsts).within

pub offset_bounds-kids-at : goal.offset_bounds-kids-at
offset_bounds-kids-at g c =
    omega (arith, (c.child_for-at.ensures c.args.kids.now c.requires.some c.requires.firsts).within)
