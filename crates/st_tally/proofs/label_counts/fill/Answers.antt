use Rattle.std.proofs.Common.{◌≡◌, ℕ, Bool, true, false, cond, List, [], ◌∷◌, ◌++◌, ap, ◌∙◌, refl, arith}
use Rattle.std.proofs.lemmas.List.Sums.{sum_by_push}
use Rattle.st_text.specs.Texts.{Text}
use Rattle.st_tally.specs.declared.label_counts.LabelCount.{LabelCount}
use Rattle.st_tally.specs.inner.Sums.{found, total}
use Rattle.st_tally.proofs.label_counts.fill.Goals as goal

none_more : (b : Bool) → ◌≡◌ {A = ℕ} (cond b 0 0) 0
none_more true = refl
none_more false = refl

same_total : {A : Type 0} (judges : Text → Bool) (counts : List (LabelCount A)) (c : LabelCount A) → c.rows ≡ 0
    → total judges (counts ++ c ∷ []) ≡ total judges counts
same_total judges counts c none =
    let last : found judges c ≡ 0 = ap (λ n. cond (judges c.label) n 0) none ∙ none_more (judges c.label) in
    omega (arith, sum_by_push (found judges) counts c, last)

pub loop-preserved : goal.loop-preserved
loop-preserved g c = λ judges. ap (total judges) c.in-Ok.ensures.items ∙ same_total judges c.loop.counts.items c.in-Some.count c.in-Some.ensures.1 ∙ c.loop.invariant judges
