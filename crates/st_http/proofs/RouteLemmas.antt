-- Where the first slash of a text stands.
use Rattle.std.proofs.Common.{◌≡◌, ◌≢◌, List, [], ◌∷◌, ℕ, zero, suc, ◌<◌, ◌≤◌, ◌==◌, true, false, ◌+◌, ◌∙◌, length, get_or, drop, refl, sym, ap, arith}
use Rattle.std.specs.List.{position_or_len}
use Rattle.std.proofs.lemmas.Bool.{ne_eqb}
use Rattle.std.proofs.lemmas.List.{drop_more, drop_all}
use Rattle.st_http.specs.Routes.{from_slash}

-- where the first slash stands, and that there is none
first_slash : (text : List ℕ) (i : ℕ) → i ≤ length text → (i < length text → get_or text i 0 ≡ 47)
    → ((k : ℕ) → k < i → get_or text k 0 ≢ 47) → position_or_len (λ b. b == 47) text ≡ i
first_slash [] zero within here before = refl
first_slash [] (suc i) within here before = absurd (omega arith)
first_slash (x ∷ text) zero within here before =
    let is : x ≡ 47 = here (omega arith) in rw is refl
first_slash (x ∷ text) (suc i) within here before =
    let other : (x == 47) ≡ false = ne_eqb x 47 (before 0 (omega arith)) in
    let more = first_slash text i (omega arith) (λ h. here (omega arith)) (λ k h. before (suc k) (omega arith)) in
    rw other (omega arith)

pub slash_at : (text : List ℕ) (i : ℕ) → i < length text → get_or text i 0 ≡ 47 → ((k : ℕ) → k < i → get_or text k 0 ≢ 47)
    → drop i text ≡ from_slash text
slash_at text i within here before =
    let place = first_slash text i (omega arith) (λ _. here) before in
    rw place (drop_more text i 0 within ∙ ap (λ b. b ∷ drop (i + 1) text) here)

pub no_slash : (text : List ℕ) → ((k : ℕ) → k < length text → get_or text k 0 ≢ 47) → 47 ∷ [] ≡ from_slash text
no_slash text none =
    let place = first_slash text (length text) (omega arith) (λ h. absurd (omega arith)) none in
    rw place (ap (λ more. 47 ∷ more) (sym (drop_all (length text + 1) text (omega arith))))
