-- A run up to a request, and one request more.
use Rattle.std.proofs.Common.{◌≡◌, ◌<◌, ◌≤◌, ◌+◌, ℕ, zero, suc, List, [], ◌∷◌, ◌++◌, take, drop, length, refl, arith, sym, ap, ◌∙◌, subst, add-one, length-append}
use Rattle.std.specs.Prelude.{slice_index_or}
use Rattle.std.proofs.Math.Seq.{drop-cons}
use Rattle.std.proofs.lemmas.List.{append-nil, append_assoc, drop_all}
use Rattle.st_core.specs.declared.asked.Asked.{Asked}
use Rattle.st_policy.specs.declared.reply.Reply.{Reply}
use Rattle.st_core.specs.State.{State}
use Rattle.st_core.specs.Step.{step, replies, after}

after_next : {A : Type 0} (s : State A) (asked : List (Asked A)) (i : ℕ) (d : Asked A) → i < length asked
    → after s (take (suc i) asked) ≡ (step (after s (take i asked)) (slice_index_or asked i d)).state
after_next s [] i d below = absurd (omega arith)
after_next s (one ∷ rest) zero d below = refl
after_next s (one ∷ rest) (suc i) d below = after_next (step s one).state rest i d (omega arith)

-- after i requests of a run the state is s and these were told
pub record Running {A : Type 0} (first s : State A) (asked : List (Asked A)) (i : ℕ) (told : List (Reply A)) : Type 0 where
  pub so_far : s ≡ after first (take i asked)
  pub ahead : told ++ replies s (drop i asked) ≡ replies first asked
  pub rest : after s (drop i asked) ≡ after first asked
  pub count : length told ≡ i

pub at_start : {A : Type 0} (first : State A) (asked : List (Asked A)) (told : List (Reply A)) → told ≡ [] → Running first first asked 0 told
at_start first asked told none = record { so_far = refl; ahead = ap (λ xs. xs ++ replies first asked) none; rest = refl; count = ap length none }

one_more : {A : Type 0} (first s : State A) (asked : List (Asked A)) (i : ℕ) (told : List (Reply A)) (one : Asked A)
    → i < length asked → one ≡ slice_index_or asked i one → Running first s asked i told
    → Running first (step s one).state asked (i + 1) (told ++ (step s one).reply ∷ [])
one_more first s asked i told one below is running =
    let cut : drop i asked ≡ one ∷ drop (suc i) asked = subst (λ x. drop i asked ≡ x ∷ drop (suc i) asked) (sym is) (drop-cons asked i one below) in
    rw add-one (record {
      so_far = ap (λ t. (step t one).state) running.so_far ∙ ap (λ x. (step (after first (take i asked)) x).state) is ∙ sym (after_next first asked i one below);
      ahead = append_assoc told ((step s one).reply ∷ []) (replies (step s one).state (drop (suc i) asked)) ∙ subst (λ xs. told ++ replies s xs ≡ replies first asked) cut running.ahead;
      rest = subst (λ xs. after s xs ≡ after first asked) cut running.rest;
      count = omega (arith, length-append told ((step s one).reply ∷ []), running.count);
    })

pub one_more_told : {A : Type 0} (first s next : State A) (asked : List (Asked A)) (i : ℕ) (told more : List (Reply A)) (one : Asked A) (reply : Reply A)
    → i < length asked → one ≡ slice_index_or asked i one → next ≡ (step s one).state → reply ≡ (step s one).reply → more ≡ told ++ reply ∷ []
    → Running first s asked i told → Running first next asked (i + 1) more
one_more_told first s next asked i told more one reply below is is_next is_reply is_more running =
    rw (is_more, is_reply, is_next) (one_more first s asked i told one below is running)

pub done : {A : Type 0} (first s : State A) (asked : List (Asked A)) (i : ℕ) (told : List (Reply A)) → length asked ≤ i
    → Running first s asked i told → (told ≡ replies first asked) × (s ≡ after first asked)
done first s asked i told all running =
    let end : drop i asked ≡ [] = drop_all i asked all in (
      sym (append-nil told) ∙ subst (λ xs. told ++ replies s xs ≡ replies first asked) end running.ahead,
      subst (λ xs. after s xs ≡ after first asked) end running.rest,
    )
