-- Records that are read piece by piece.
use Rattle.std.proofs.Common.{◌≡◌, ◌⊎◌, inl, inr, ◌≤◌, ◌<◌, ◌+◌, ℕ, zero, suc, List, [], ◌∷◌, ◌++◌, drop, take, length, refl, sym, ap, subst, ◌∙◌, arith, append_assoc, length-append}
use Rattle.std.specs.Prelude.{Result, Ok, Err, IfOk, OnOk}
use mathlib.Core.List.{IsPrefix}
use Rattle.st_journal.specs.declared.record.Record.{Record}
use Rattle.st_journal.specs.Replays.{Replays}
use Rattle.st_journal_copy.specs.Following.{AreGiven, IsGiven, IsAtEnd, GoesOn}

pub if_ok : {T E : Type 0} (P Q : T → Type 0) (r : Result T E) → ((x : T) → P x → Q x) → IfOk r P → IfOk r Q
if_ok P Q (Ok x) so h = so x h
if_ok P Q (Err e) so h = h

pub on_ok : {T E : Type 0} (P : T → Type 0) (Q : Type 0) (r : Result T E) → ((x : T) → P x → Q) → IfOk r P → OnOk r Q
on_ok P Q (Ok x) so h = so x h
on_ok P Q (Err e) so h = h

-- how many records were applied
pub counted : (before after : ℕ) (changes : List Record) → Replays (λ (b : ℕ) (r : Record) (a : ℕ). a ≡ b + 1) before changes after
    → after ≡ before + length changes
counted before after [] same = omega (arith, same)
counted before after (r ∷ changes) (mid, one, more) = let rest = counted mid after changes more in omega (arith, one, rest)

nil : (l : List Record) → l ≡ l ++ []
nil [] = refl
nil (r ∷ l) = ap (λ m. r ∷ m) (nil l)

pub drop_done : (done rest : List Record) → drop (length done) (done ++ rest) ≡ rest
drop_done [] rest = refl
drop_done (r ∷ done) rest = drop_done done rest

abbrev empty : List Record
empty = []

drop_none : (n : ℕ) → drop n empty ≡ empty
drop_none zero = refl
drop_none (suc n) = refl

drop_more : (n m : ℕ) (list : List Record) → drop (n + m) list ≡ drop m (drop n list)
drop_more zero m list = let same : 0 + m ≡ m = omega arith in ap (λ k. drop k list) same
drop_more (suc n) m [] = drop_none (suc n + m) ∙ sym (drop_none m)
drop_more (suc n) m (r ∷ list) = let same : suc n + m ≡ suc (n + m) = omega arith in ap (λ k. drop k (r ∷ list)) same ∙ drop_more n m list

halves : (m : ℕ) (list : List Record) → list ≡ take m list ++ drop m list
halves zero list = refl
halves (suc m) [] = refl
halves (suc m) (r ∷ list) = ap (λ l. r ∷ l) (halves m list)

whole_take : (m : ℕ) (list : List Record) → length (take m list) < m → length (take m list) ≡ length list
whole_take zero list low = absurd (omega (arith, low))
whole_take (suc m) [] low = refl
whole_take (suc m) (r ∷ list) low = ap suc (whole_take m list (omega (arith, low)))

dropped : (n : ℕ) (list : List Record) → length list ≤ n + length (drop n list)
dropped zero list = omega arith
dropped (suc n) [] = omega arith
dropped (suc n) (r ∷ list) = let rest = dropped n list in omega (arith, rest)

none : (list : List Record) → length list ≡ 0 → list ≡ []
none [] is = refl
none (r ∷ list) is = absurd (omega (arith, is))

-- so many of the records were found to be the list's
pub record HasCompared (gives : (from most : ℕ) → List Record → Type 0) (list : List Record) (at : ℕ) : Type 0 where
  pub done : List Record
  pub rest : List Record
  pub is : list ≡ done ++ rest
  pub counted : length done ≡ at
  pub given : IsGiven gives 0 done

module _ (gives : (from most : ℕ) → List Record → Type 0) where
  pub append_given : (n : ℕ) (pieces more : List (List Record)) (records others : List Record) → AreGiven gives n pieces records
      → AreGiven gives (n + length records) more others → AreGiven gives n (pieces ++ more) (records ++ others)
  append_given n [] more records others is given =
      subst (AreGiven gives n more) (ap (λ r. r ++ others) (sym is)) (subst (λ k. AreGiven gives k more others) (omega (arith, ap length is)) given)
  append_given n (piece ∷ pieces) more records others (rest, is, gave, given) last = (
    rest ++ others,
    ap (λ r. r ++ others) is ∙ append_assoc piece rest others,
    gave,
    append_given (n + length piece) pieces more rest others given
        (subst (λ k. AreGiven gives k more others) (omega (arith, ap length is, length-append piece rest)) last),
  )

  one_given : (n most : ℕ) (piece : List Record) → gives n most piece → AreGiven gives n (piece ∷ []) piece
  one_given n most piece gave = ([], nil piece, (most, gave), refl)

  pub goes_none : (old : List Record) → GoesOn gives old old
  goes_none old = ([], nil old, ([], refl))

  pub goes_more : (old mid new piece : List Record) (most : ℕ) → GoesOn gives old mid → gives (length mid) most piece → new ≡ mid ++ piece
      → GoesOn gives old new
  goes_more old mid new piece most (more, is, (pieces, given)) gave grown = (
    more ++ piece,
    grown ∙ ap (λ m. m ++ piece) is ∙ append_assoc old more piece,
    (
      pieces ++ piece ∷ [],
      append_given (length old) pieces (piece ∷ []) more piece given
          (one_given _ most piece (subst (λ k. gives k most piece) (omega (arith, ap length is, length-append old more)) gave)),
    ),
  )

  -- what a crash leaves of a copy while a piece is appended
  pub left_goes : (old mid left : List Record) (now most : ℕ) → GoesOn gives old mid → now ≡ length mid
      → (left ≡ mid) ⊎ ((piece : List Record) × gives now most piece × (left ≡ mid ++ piece)) → GoesOn gives old left
  left_goes old mid left now most had is (inl same) = subst (GoesOn gives old) (sym same) had
  left_goes old mid left now most had is (inr (piece, gave, grown)) =
      goes_more old mid left piece most had (subst (λ k. gives k most piece) is gave) grown

  -- a copy once a piece is appended
  pub grown : (old mid new piece : List Record) (now some sum most : ℕ) → GoesOn gives old mid → now ≡ length mid → length piece ≡ some
      → gives now most piece → new ≡ mid ++ piece → sum ≡ now + some → GoesOn gives old new × (sum ≡ length new)
  grown old mid new piece now some sum most had is long gave by total = (
    goes_more old mid new piece most had (subst (λ k. gives k most piece) is gave) by,
    omega (arith, is, long, total, ap length by, length-append mid piece),
  )

  -- what goes on a list that was read is read
  pub goes_whole : (old new : List Record) → IsGiven gives 0 old → GoesOn gives old new → IsGiven gives 0 new
  goes_whole old new (first, given) (more, is, (pieces, rest)) = (
    first ++ pieces,
    subst (AreGiven gives 0 (first ++ pieces)) (sym is) (append_given 0 first pieces old more given
        (let same : length old ≡ 0 + length old = omega arith in subst (λ k. AreGiven gives k pieces more) same rest)),
  )

  pub compared_none : (list : List Record) → HasCompared gives list 0
  compared_none list = record { done = []; rest = list; is = refl; counted = refl; given = ([], refl) }

  pub compared_more : (list piece : List Record) (at some most many : ℕ) → HasCompared gives list at → length piece ≡ some → gives at most piece
      → piece ≡ take many (drop at list) → HasCompared gives list (at + some)
  compared_more list piece at some most many had long gave is =
      let left : drop at list ≡ had.rest = ap (λ k. drop k list) (sym had.counted) ∙ ap (drop (length had.done)) had.is ∙ drop_done had.done had.rest in
      let here : gives (0 + length had.done) most piece = subst (λ k. gives k most piece) (omega (arith, had.counted)) gave in
      record {
        done = had.done ++ piece;
        rest = drop many had.rest;
        is = had.is ∙ ap (λ r. had.done ++ r) (halves many had.rest ∙ ap (λ p. p ++ drop many had.rest) (sym (is ∙ ap (take many) left)))
            ∙ sym (append_assoc had.done piece (drop many had.rest));
        counted = omega (arith, length-append had.done piece, had.counted, long);
        given = (had.given.0 ++ piece ∷ [], append_given 0 had.given.0 (piece ∷ []) had.done piece had.given.1 (one_given _ most piece here));
      }

  pub compared_all : (list : List Record) (at : ℕ) → HasCompared gives list at → at ≡ length list → IsGiven gives 0 list
  compared_all list at had all =
      let empty : had.rest ≡ [] = none had.rest (omega (arith, all, had.counted, ap length had.is, length-append had.done had.rest)) in
      let same : had.done ≡ list = nil had.done ∙ ap (λ r. had.done ++ r) (sym empty) ∙ sym had.is in
      subst (IsGiven gives 0) same had.given

  -- records that were read stand in each list in which every piece stands
  pub stand : (n : ℕ) (pieces : List (List Record)) (records list : List Record)
      → ((from most : ℕ) (piece : List Record) → gives from most piece → IsPrefix piece (drop from list)) → AreGiven gives n pieces records
      → IsPrefix records (drop n list)
  stand n [] records list each is = (drop n list, ap (λ r. r ++ drop n list) is)
  stand n (piece ∷ pieces) records list each (rest, is, (most, gave), given) =
      let first = each n most piece gave in
      let more = stand (n + length piece) pieces rest list each given in
      let after : drop (n + length piece) list ≡ first.0 =
      drop_more n (length piece) list ∙ ap (drop (length piece)) (sym first.1) ∙ drop_done piece first.0 in
      (more.0, ap (λ r. r ++ more.0) is ∙ append_assoc piece rest more.0 ∙ ap (λ r. piece ++ r) (more.1 ∙ after) ∙ first.1)

  pub at_end : (list : List Record) (count : ℕ)
      → ((from most : ℕ) (piece : List Record) → gives from most piece → piece ≡ take most (drop from list)) → IsAtEnd gives count
      → length list ≤ count
  at_end list count each (from, most, last, gave, short, counted) =
      let is : last ≡ take most (drop from list) = each from most last gave in
      let len = ap length is in
      let all = whole_take most (drop from list) (omega (arith, len, short)) in
      omega (arith, counted, len, all, dropped from list)

module _ (gives later : (from most : ℕ) → List Record → Type 0)
    (stays : (from most : ℕ) (piece : List Record) → gives from most piece → later from most piece) where
  pub given_stays : (n : ℕ) (pieces : List (List Record)) (records : List Record) → AreGiven gives n pieces records → AreGiven later n pieces records
  given_stays n [] records is = is
  given_stays n (piece ∷ pieces) records (rest, is, (most, gave), given) =
      (rest, is, (most, stays n most piece gave), given_stays (n + length piece) pieces rest given)

  pub whole_stays : (records : List Record) → IsGiven gives 0 records → IsGiven later 0 records
  whole_stays records (pieces, given) = (pieces, given_stays 0 pieces records given)

  pub goes_stays : (old new : List Record) → GoesOn gives old new → GoesOn later old new
  goes_stays old new (more, is, (pieces, given)) = (more, is, (pieces, given_stays (length old) pieces more given))

  pub compared_stays : (list : List Record) (at : ℕ) → HasCompared gives list at → HasCompared later list at
  compared_stays list at had = record { done = had.done; rest = had.rest; is = had.is; counted = had.counted; given = whole_stays had.done had.given }
