-- In a list of names each name has its length.
use Rattle.std.proofs.Common.{◌≡◌, ◌≤◌, ◌+◌, List, [], ◌∷◌, Bool, true, false, not, refl, cond, Some, None, length, arith, nat_lt, suc, sym}
use Rattle.std.proofs.lemmas.Bool.Decides.{nat_tests}
use Rattle.std.specs.List.{prefix_len, find}
use Rattle.st_text.specs.Texts.{Text}
use Rattle.st_auth.specs.Names.{is_auth_name, first_bad}

-- a list that begins with no name has a first one that is none
split : (ns : List Text) (b : Bool) → b ≡ false
    → cond (nat_lt (cond (not (not b)) (1 + prefix_len (λ m. not (not (is_auth_name m))) ns) 0) (suc (length ns)))
    (Some (cond (not (not b)) (1 + prefix_len (λ m. not (not (is_auth_name m))) ns) 0)) None ≡ None → b ≡ true
split ns true e h = refl
split ns false e h = let some : nat_lt 0 (suc (length ns)) ≡ true = grind (arith, nat_tests) in let h2 = rw some at h in cc

first_is_name : (n : Text) (ns : List Text) → first_bad (n ∷ ns) ≡ None → is_auth_name n ≡ true
first_is_name n ns none = at (is_auth_name n) refl
  where
    at : (b : Bool) → is_auth_name n ≡ b → is_auth_name n ≡ true
    at true e = e
    at false e = split ns (is_auth_name n) e none

rest_is_good : (n : Text) (ns : List Text) → first_bad (n ∷ ns) ≡ None → first_bad ns ≡ None
rest_is_good n ns none = at (nat_lt (prefix_len (λ m. not (not (is_auth_name m))) ns) (length ns)) refl
  where
    at : (b : Bool) → nat_lt (prefix_len (λ m. not (not (is_auth_name m))) ns) (length ns) ≡ b → first_bad ns ≡ None
    at true e = let h = rw (first_is_name n ns none) at none in grind (arith, h, e)
    at false e = rw e refl

found_is_name : (test : Text → Bool) (names : List Text) → first_bad names ≡ None → (x : Text) → find test names ≡ Some x → is_auth_name x ≡ true
found_is_name test [] none x found = cc
found_is_name test (n ∷ ns) none x found = at (test n) refl (found_is_name test ns (rest_is_good n ns none) x)
  where
    at : (t : Bool) → test n ≡ t → (find test ns ≡ Some x → is_auth_name x ≡ true) → is_auth_name x ≡ true
    at true e ih = let h = rw e at found in let same : n ≡ x = cc in rw (sym same) (first_is_name n ns none)
    at false e ih = ih (rw e at found)

pub found_is_short : (test : Text → Bool) (names : List Text) → first_bad names ≡ None → (x : Text) → find test names ≡ Some x → length x ≤ 256
found_is_short test names none x found = grind (arith, found_is_name test names none x found)
