use Rattle.std.proofs.Common.{◌≡◌, ◌++◌, ◌-◌, ◌≤◌, List, ℕ, length, take, drop, replicate, ap, sym, ◌∙◌, subst, rules}
use Rattle.std.specs.Str.{IsUtf8}
use Rattle.std.proofs.lemmas.List.{drop-replicate}
use Rattle.std.proofs.Math.Seq.{take-append_seam}
use Rattle.st_text.proofs.short.ShortText.new.Goals as goal

pub invariant_of-result : goal.invariant_of-result
invariant_of-result c =
    let text = c.args.text.now in
    let n = length text in
    let bytes = c.copy_from_slice.new.self ++ drop n (replicate 14 0) in
    let held : bytes ≡ text ++ replicate (14 - n) 0 =
    ap (λ (it : List ℕ). it ++ drop n (replicate 14 0)) (c.copy_from_slice.ensures.after ∙ c.as_bytes.ensures.value) ∙ ap (λ (it : List ℕ). text ++ it) (drop-replicate n 14 0) in
    let front : take n bytes ≡ text = ap (take n) held ∙ take-append_seam text (replicate (14 - n) 0) in
    let fits : n ≤ 14 = search rules in
    let utf8 : ∥ IsUtf8 (take n bytes) ∥₁ = subst (λ (it : List ℕ). ∥ IsUtf8 it ∥₁) (sym front) ∣ c.utf8.text ∣₁ in
    (fits, utf8, held ∙ ap (λ (it : List ℕ). it ++ replicate (14 - n) 0) (sym front))
