-- What a change came to at a desk, by what the clerk says of it.
use Rattle.std.proofs.Common.{◌≡◌, ◌⊎◌, inl, inr, ℕ, ◌+◌, ◌==◌, ◌<◌, true, arith, List, [], ◌∷◌, ◌++◌, length, get_or, take, Option, None, Some, sym, ap, subst, ◌∙◌, append_assoc}
use Rattle.std.proofs.lemmas.Bool.Decides.{nat_tests}
use Rattle.std.proofs.lemmas.List.Elements.{All-more, All-weaker}
use Rattle.std.specs.List.{All}
use Rattle.std.specs.Prelude.{Result, Ok, Err, OnErr, OnOk, IfOk, IfSome, MatchOption, MatchResult, ⊤}
use mathlib.Core.List.{IsPrefix}
use Rattle.st_hall_press.specs.Steps.{Ask, HallState, Response, reply_of, state_after}
use Rattle.st_hall_press.specs.Views.{Beside, EndsAfter, EndsWith, Learns, Post}
use Rattle.st_hall_press.proofs.Fronts.{prefix_length, prefix_self, prefix_trans, prefix_whole}
use Rattle.st_hall.specs.Decisions.{Decides, StandsIn}
use Rattle.st_hall.specs.declared.commits.Undecided.{Undecided}

-- a receipt's end is the list after its change
pub end_ends : {A E : Type 0} (start : HallState) (seen before list : List Ask) (a : Ask) (reply : A → Response) (end : A → List Ask) (r : Result A E)
    → OnOk r (IsPrefix seen before) → MatchResult r (λ _. list ≡ before ++ a ∷ []) (λ _. list ≡ before)
    → IfOk r (λ x. reply x ≡ reply_of (state_after start before) a) → IfOk r (λ x. end x ≡ list)
    → IfOk r (λ x. EndsAfter start seen (end x) a (reply x))
end_ends start seen before list a reply end (Ok x) on is told ends = (before, on, ends ∙ is, told)
end_ends start seen before list a reply end (Err e) on is told ends = tt

-- a receipt's front is its end
pub front_is_end : {A E : Type 0} (before list published : List Ask) (end : A → List Ask) (front : A → Option (List Ask)) (r : Result A E)
    → IfOk r (λ x. end x ≡ list) → IfOk r (λ x. MatchOption (front x) (published ≡ before) (λ f. (f ≡ list) × (published ≡ list)))
    → IfOk r (λ x. IfSome (front x) (λ f. f ≡ end x))
front_is_end before list published end front (Ok x) is fronts = go (front x) fronts
  where
    go : (f : Option (List Ask)) → MatchOption f (published ≡ before) (λ l. (l ≡ list) × (published ≡ list)) → IfSome f (λ l. l ≡ end x)
    go (Some l) same = same.0 ∙ sym is
    go None same = tt
front_is_end before list published end front (Err e) is fronts = tt

-- what was decided goes on what was seen
pub decides_on : (start : HallState) (seen : List Ask) (a : Ask) (told : Option Response) (list : List Ask) → Decides start seen a told list → IsPrefix seen list
decides_on start seen a (Some reply) list (before, on, is, told) = prefix_trans seen before list on (a ∷ [], sym is)
decides_on start seen a None list (on, none) = on

-- what goes on what was seen is seen whole once it is learnt
pub learnt_whole : (old new front : List Ask) → IsPrefix old front → (new ≡ old) ⊎ (new ≡ front) → IsPrefix front new → new ≡ front
learnt_whole old new front on (inl same) begins =
    prefix_whole new front (subst (λ (l : List Ask). IsPrefix l front) (sym same) on) (prefix_length front new begins)
learnt_whole old new front on (inr is) begins = is

-- what is learnt by a change is what is seen then
pub learns_seen : (s t : Post) (front : List Ask) → IsPrefix s.seat.seen front → t.learnt ≡ front → t.seat.seen ≡ front → Learns s t
learns_seen s t front on learnt seen =
    inr (
      subst (λ (l : List Ask). IsPrefix s.seat.seen l) (sym learnt) on,
      subst (λ (l : List Ask). IsPrefix t.learnt l) (sym seen) (subst (λ (l : List Ask). IsPrefix l front) (sym learnt) (prefix_self front)),
    )

-- a change that ends a list stands in each list that goes on it
pub stands : (start : HallState) (front list : List Ask) (a : Ask) (reply : Response) → EndsWith start front a reply → IsPrefix front list
    → StandsIn start list a reply
stands start front list a reply (before, is, told) begins = (
  before,
  begins.0,
  sym begins.1 ∙ (ap (λ (l : List Ask). l ++ begins.0) is ∙ append_assoc before (a ∷ []) begins.0),
  told,
)

-- where an error always is that memory ran out, none is another
pub never_lost : {A : Type 0} (r : Result A Undecided) → OnErr r (r ≡ Err Undecided.NoMemory) → r ≡ Err Undecided.Lost → ⊥
never_lost (Ok x) busy is = cc
never_lost (Err e) busy is = cc

-- what begins a list begins each list that goes on it, and so does one front more
pub all_begin : (fronts : List (List Ask)) (i : ℕ) (d old new : List Ask) → i < length fronts → IsPrefix old new
    → All (λ (front : List Ask). IsPrefix front old) (take i fronts) → IsPrefix (get_or fronts i d) new
    → All (λ (front : List Ask). IsPrefix front new) (take (i + 1) fronts)
all_begin fronts i d old new within on all one =
    All-more (λ (front : List Ask). IsPrefix front new) fronts i d within
    (All-weaker (λ (front : List Ask). IsPrefix front old) (λ (front : List Ask). IsPrefix front new)
    (λ front begins. prefix_trans front old new begins on) (take i fronts) all) one

-- two beginnings of one list that are as long as each other are equal
pub as_long : (xs ys : List Ask) (n m : ℕ) → Beside xs ys → n ≡ length xs → m ≡ length ys → (n == m) ≡ true → xs ≡ ys
as_long xs ys n m beside is_n is_m same =
    let equal : n ≡ m = grind (arith, nat_tests) in
    prefix_whole xs ys (beside.0 (omega (arith, is_n, is_m, equal))) (omega (arith, is_n, is_m, equal))
