-- Texts appended in turn.
use Rattle.std.proofs.Common.{◌≡◌, ◌∙◌, ℕ, List, [], ◌++◌, ap, sym, append_assoc}
use Rattle.std.proofs.lemmas.List.{append-nil}
use Rattle.st_http.specs.inner.Growth.{GrowsTo}

-- one text more
after : (out front all line : List ℕ) → all ≡ out ++ front → all ++ line ≡ out ++ (front ++ line)
after out front all line e = ap (λ (text : List ℕ). text ++ line) e ∙ append_assoc out front line

pub seven_more : (out a b c d e f g one two three four five six seven : List ℕ) → one ≡ out ++ a → two ≡ one ++ b → three ≡ two ++ c
    → four ≡ three ++ d → five ≡ four ++ e → six ≡ five ++ f → seven ≡ six ++ g
    → seven ≡ out ++ ((((((a ++ b) ++ c) ++ d) ++ e) ++ f) ++ g)
seven_more out a b c d e f g one two three four five six seven at_a at_b at_c at_d at_e at_f at_g =
    at_g
    ∙ after out (((((a ++ b) ++ c) ++ d) ++ e) ++ f) six g (at_f
    ∙ after out ((((a ++ b) ++ c) ++ d) ++ e) five f (at_e
    ∙ after out (((a ++ b) ++ c) ++ d) four e (at_d
    ∙ after out ((a ++ b) ++ c) three d (at_c
    ∙ after out (a ++ b) two c (at_b
    ∙ after out a one b at_a)))))

pub stays : (old new : List ℕ) → new ≡ old → GrowsTo old new
stays old new e = ([], e ∙ sym (append-nil old))

pub grows_by : (old new more : List ℕ) → new ≡ old ++ more → GrowsTo old new
grows_by old new more e = (more, e)

pub grows_on : (a b c : List ℕ) → GrowsTo a b → GrowsTo b c → GrowsTo a c
grows_on a b c first next =
    (first.0 ++ next.0, next.1 ∙ ap (λ text. text ++ next.0) first.1 ∙ append_assoc a first.0 next.0)

pub three_more : (out a b c one two three : List ℕ) → one ≡ out ++ a → two ≡ one ++ b → three ≡ two ++ c → three ≡ out ++ ((a ++ b) ++ c)
three_more out a b c one two three at_a at_b at_c = at_c ∙ after out (a ++ b) two c (at_b ∙ after out a one b at_a)
