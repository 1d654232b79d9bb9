-- What follows from queued changes that follow each other.
use Rattle.std.proofs.Common.{◌≡◌, ◌+◌, subst, List, [], ◌∷◌, ◌++◌, length, fold, refl, ap, sym, ◌∙◌, arith, length-append, append_assoc, Option}
use Rattle.std.proofs.Common.{None, Some, Result, Ok, Err, MatchOption, MatchResult, IfOk, IfSome, OnOk, true, false, is_none}
use Rattle.std.proofs.lemmas.List.{append-nil, same_from_push}
use mathlib.Core.List.{IsPrefix}
use Rattle.std.specs.declared.alloc.Global.{Global}
use Rattle.st_core.specs.Judging.{JudgesChange}
use Rattle.st_core.specs.Step.{after, step, asks_for_change}
use Rattle.st_hall_press.specs.Steps.{Ask, HallState, Response, judged_in, settled, next, state_after, reply_of}
use Rattle.st_hall_press.specs.Views.{EndsAfter, EndsWith, IsNext, QueuedValue}
use Rattle.st_dir.specs.Directory.{Directory}
use Rattle.st_hall_press.specs.inner.Editions.{EditionValue, IsJudged, absorbed, Agrees, Follows, waiting_list}

run_snoc : (s : HallState) (xs : List Ask) (a : Ask) → after s (xs ++ a ∷ []) ≡ (step (after s xs) a).state
run_snoc s [] a = refl
run_snoc s (x ∷ xs) a = run_snoc (step s x).state xs a

-- the state after one change more
pub after_snoc : (s : HallState) (xs : List Ask) (a : Ask) → state_after s (xs ++ a ∷ []) ≡ next (state_after s xs) a
unfolding state_after next
after_snoc s xs a = run_snoc s xs a

pub after_none : (s : HallState) → state_after s [] ≡ s
unfolding state_after
after_none s = refl

-- a step settles the judgement
next_settled : (s : HallState) (a : Ask) → settled s (judged_in s a) ≡ next s a
unfolding settled judged_in next
next_settled s a = refl

judged_by : (s : HallState) (a : Ask) → asks_for_change a ≡ true → JudgesChange s.directory (judged_in s a)
unfolding judged_in
judged_by s a change = (a, change, refl)

-- the next change was judged by the directory of the state before it
pub judges_next : (start s : HallState) (before : List Ask) (q : QueuedValue) → s ≡ state_after start before → IsNext start before q
    → JudgesChange s.directory q.judged
judges_next start s before q is (ask, change, list, judged) =
    subst (JudgesChange s.directory) (sym (judged ∙ ap (λ (t : HallState). judged_in t ask) (sym is))) (judged_by s ask change)

-- settled there, it gives the state after its list
pub settles_next : (start s : HallState) (before : List Ask) (q : QueuedValue) → s ≡ state_after start before → IsNext start before q
    → settled s q.judged ≡ state_after start q.list
settles_next start s before q is (ask, change, list, judged) =
    ap (λ (t : HallState). settled t q.judged) is ∙ ap (settled (state_after start before)) judged ∙ next_settled (state_after start before) ask
    ∙ sym (after_snoc start before ask) ∙ ap (state_after start) (sym list)

-- what goes on some list by one change goes on each list that it is one longer than
pub is_next : (start : HallState) (before : List Ask) (q : QueuedValue) → IsJudged start q → (ask : Ask) × (q.list ≡ before ++ ask ∷ []) → IsNext start before q
is_next start before q (other, (ask, change, list, judged)) (last, is) =
    let same = same_from_push other before ask last (sym list ∙ is) in
    (ask, change, is ∙ ap (λ (a : Ask). before ++ a ∷ []) (sym same.1), judged ∙ ap (λ (l : List Ask). judged_in (state_after start l) ask) same.0)

-- a copy that agrees, and takes changes that follow it, agrees with the last list
pub follows_taken : (start : HallState) (e : EditionValue) (qs : List QueuedValue) (ys : List Ask) → Agrees start e → Follows start e.list qs ys
    → Agrees start (fold absorbed e qs) × ((fold absorbed e qs).list ≡ ys)
follows_taken start e [] ys agrees same = (agrees, same)
follows_taken start e (q ∷ qs) ys agrees f = follows_taken start (absorbed e q) qs ys (settles_next start e.state e.list q agrees f.0) f.1

pub follows_length : (start : HallState) (xs : List Ask) (qs : List QueuedValue) (ys : List Ask) → Follows start xs qs ys → length ys ≡ length xs + length qs
follows_length start xs [] ys same = omega (arith, ap length same)
follows_length start xs (q ∷ qs) ys ((ask, change, list, judged), f) =
    omega (arith, follows_length start q.list qs ys f, ap length list, length-append xs (ask ∷ []))

pub empty_of : {A : Type 0} (xs : List A) → length xs ≡ 0 → xs ≡ []
empty_of [] h = refl
empty_of (x ∷ xs) h = absurd (omega arith)

-- where the last list is the first, there is no change between them
pub follows_none : (start : HallState) (xs : List Ask) (qs : List QueuedValue) (ys : List Ask) → Follows start xs qs ys → xs ≡ ys → qs ≡ []
follows_none start xs qs ys f same = empty_of qs (omega (arith, follows_length start xs qs ys f, ap length same))

pub first_empty : {A : Type 0} (xs ys : List A) → xs ++ ys ≡ [] → xs ≡ []
first_empty xs ys h = empty_of xs (omega (arith, ap length h, length-append xs ys))

-- a copy that agrees agrees after publishing, whether that found memory or not
pub publishes : {A E : Type 0} (start : HallState) (shown shown' : EditionValue) (qs qs' : List QueuedValue) (ys : List Ask) (r : Result A E)
    → Agrees start shown → Follows start shown.list qs ys
    → MatchResult r (λ _. (shown' ≡ fold absorbed shown qs) × (qs' ≡ [])) (λ _. (shown' ≡ shown) × (qs' ≡ qs))
    → Agrees start shown' × Follows start shown'.list (qs' ++ []) ys
publishes start shown shown' qs qs' ys (Ok x) agrees f m =
    let t = follows_taken start shown qs ys agrees f in
    rw (m.1, m.0) (t.0, t.1)
publishes start shown shown' qs qs' ys (Err e) agrees f m =
    rw (m.1, m.0, append-nil qs) (agrees, f)

pub published_list : {A E : Type 0} (start : HallState) (shown shown' : EditionValue) (qs qs' : List QueuedValue) (ys : List Ask) (r : Result A E)
    → Agrees start shown → Follows start shown.list qs ys
    → MatchResult r (λ _. (shown' ≡ fold absorbed shown qs) × (qs' ≡ [])) (λ _. (shown' ≡ shown) × (qs' ≡ qs))
    → MatchResult r (λ _. shown'.list ≡ ys) (λ _. shown'.list ≡ shown.list)
published_list start shown shown' qs qs' ys (Ok x) agrees f m =
    let t = follows_taken start shown qs ys agrees f in
    rw (m.0) (t.1)
published_list start shown shown' qs qs' ys (Err e) agrees f m = ap (λ (c : EditionValue). c.list) m.0

-- one change more
pub follows_snoc : (start : HallState) (xs : List Ask) (qs : List QueuedValue) (ys : List Ask) (q : QueuedValue) → Follows start xs qs ys → IsNext start ys q
    → Follows start xs (qs ++ q ∷ []) q.list
follows_snoc start xs [] ys q f is = (subst (λ (l : List Ask). IsNext start l q) (sym f) is, refl)
follows_snoc start xs (d ∷ qs) ys q f is = (f.0, follows_snoc start d.list qs ys q f.1 is)

-- a reply after some list that goes on what was seen is the last of the run of a list that ends with the change
pub ends : {A E : Type 0} (start : HallState) (seen before : List Ask) (a : Ask) (reply : A → Response) (r : Result A E)
    → OnOk r (IsPrefix seen before) → IfOk r (λ x. reply x ≡ reply_of (state_after start before) a)
    → IfOk r (λ x. (list : List Ask) × EndsAfter start seen list a (reply x))
ends start seen before a reply (Ok x) on h = (before ++ a ∷ [], (before, on, refl, h))
ends start seen before a reply (Err e) on h = tt

-- whatever was seen
pub ended : (start : HallState) (seen : List Ask) (a : Ask) (reply : Response) → ((list : List Ask) × EndsAfter start seen list a reply)
    → (list : List Ask) × EndsWith start list a reply
ended start seen a reply (list, (before, on, is, told)) = (list, (before, is, told))

pub all_ended : {E : Type 0} (start : HallState) (seen : List Ask) (a : Ask) (r : Result Response E) → IfOk r (λ x. (list : List Ask) × EndsAfter start seen list a x)
    → IfOk r (λ x. (list : List Ask) × EndsWith start list a x)
all_ended start seen a (Ok x) h = ended start seen a x h
all_ended start seen a (Err e) h = tt

-- the first list begins the last
pub follows_prefix : (start : HallState) (xs : List Ask) (qs : List QueuedValue) (ys : List Ask) → Follows start xs qs ys → IsPrefix xs ys
follows_prefix start xs [] ys f = ([], append-nil xs ∙ f)
follows_prefix start xs (q ∷ qs) ys ((ask, change, list, judged), f) =
    let p = follows_prefix start q.list qs ys f in
    (ask ∷ p.0, sym (append_assoc xs (ask ∷ []) p.0) ∙ (ap (λ (l : List Ask). l ++ p.0) (sym list) ∙ p.1))

-- what is shown after publishing goes on what was shown before
pub published_grows : {A E : Type 0} (start : HallState) (shown shown' : EditionValue) (qs qs' : List QueuedValue) (ys : List Ask) (r : Result A E)
    → Agrees start shown → Follows start shown.list qs ys
    → MatchResult r (λ _. (shown' ≡ fold absorbed shown qs) × (qs' ≡ [])) (λ _. (shown' ≡ shown) × (qs' ≡ qs))
    → IsPrefix shown.list shown'.list
published_grows start shown shown' qs qs' ys (Ok x) agrees f m =
    let t = follows_taken start shown qs ys agrees f in
    subst (λ (l : List Ask). IsPrefix shown.list l) (sym (ap (λ (e : EditionValue). e.list) m.0 ∙ t.1)) (follows_prefix start shown.list qs ys f)
published_grows start shown shown' qs qs' ys (Err e) agrees f m = ([], append-nil shown.list ∙ sym (ap (λ (e : EditionValue). e.list) m.0))

-- one change more, which is added to the list
pub enters : (start : HallState) (xs : List Ask) (qs qs' : List QueuedValue) (front front' : List Ask) (q : QueuedValue) → qs' ≡ qs → IsNext start front q
    → front' ≡ q.list → Follows start xs qs front → Follows start xs (qs' ++ q ∷ []) front'
enters start xs qs qs' front front' q same next is_front f =
    subst (λ (l : List QueuedValue). Follows start xs (l ++ q ∷ []) front') (sym same)
    (subst (Follows start xs (qs ++ q ∷ [])) (sym is_front) (follows_snoc start xs qs front q f next))

-- the same where the change waits, and nothing waited before it
pub waits : (start : HallState) (xs : List Ask) (qs : List QueuedValue) (waiting waiting' : Option QueuedValue) (front front' : List Ask) (q : QueuedValue)
    → is_none waiting ≡ true → waiting' ≡ Some q → IsNext start front q → front' ≡ q.list → Follows start xs (qs ++ waiting_list waiting) front
    → Follows start xs (qs ++ waiting_list waiting') front'
waits start xs qs None waiting' front front' q none is next is_front f =
    subst (λ (o : Option QueuedValue). Follows start xs (qs ++ waiting_list o) front') (sym is)
    (enters start xs (qs ++ []) qs front front' q (sym (append-nil qs)) next is_front f)
waits start xs qs (Some w) waiting' front front' q none is next is_front f = absurd (let e : false ≡ true = none in cc)

-- what is decided after a list holds in the state after it
pub at_state : {D E : Type 0} (P : D → HallState → Type 0) (directory : Directory Global) (s : HallState) (r : Result D E) → directory ≡ s.directory
    → IfOk r (λ d. (t : HallState) → t.directory ≡ directory → P d t) → IfOk r (λ d. P d s)
at_state P directory s (Ok d) is h = h s (sym is)
at_state P directory s (Err e) is h = tt

-- a front that is the list after a change goes on what was seen
pub front_ends : {A E : Type 0} (start : HallState) (seen before list published published' : List Ask) (a : Ask) (reply : A → Response) (front : A → Option (List Ask))
    (r : Result A E) → OnOk r (IsPrefix seen before) → MatchResult r (λ _. list ≡ before ++ a ∷ []) (λ _. list ≡ before)
    → IfOk r (λ x. reply x ≡ reply_of (state_after start before) a)
    → IfOk r (λ x. MatchOption (front x) (published' ≡ published) (λ f. (f ≡ list) × (published' ≡ list)))
    → IfOk r (λ x. IfSome (front x) (λ f. EndsAfter start seen f a (reply x)))
front_ends start seen before list published published' a reply front (Ok x) on is told fronts = go (front x) fronts
  where
    go : (f : Option (List Ask)) → MatchOption f (published' ≡ published) (λ l. (l ≡ list) × (published' ≡ list)) → IfSome f (λ l. EndsAfter start seen l a (reply x))
    go (Some l) same = (before, on, same.0 ∙ is, told)
    go None same = tt
front_ends start seen before list published published' a reply front (Err e) on is told fronts = tt

-- what was seen before a change is published after it
pub shown_after : {A E : Type 0} (seen before list published : List Ask) (a : Ask) (front : A → Option (List Ask)) (r : Result A E)
    → OnOk r (IsPrefix seen before) → MatchResult r (λ _. list ≡ before ++ a ∷ []) (λ _. list ≡ before)
    → IfOk r (λ x. MatchOption (front x) (published ≡ before) (λ f. (f ≡ list) × (published ≡ list))) → OnOk r (IsPrefix seen published)
shown_after seen before list published a front (Ok x) on is fronts = go (front x) fronts
  where
    go : (f : Option (List Ask)) → MatchOption f (published ≡ before) (λ l. (l ≡ list) × (published ≡ list)) → IsPrefix seen published
    go None same = subst (IsPrefix seen) (sym same) on
    go (Some l) same = subst (IsPrefix seen) (sym (same.1 ∙ is)) (on.0 ++ a ∷ [], sym (append_assoc seen on.0 (a ∷ [])) ∙ ap (λ (l : List Ask). l ++ a ∷ []) on.1)
shown_after seen before list published a front (Err e) on is fronts = tt
