-- An opening is said by one text alone.
use Rattle.std.proofs.Common.{◌≡◌, ◌≢◌, ◌==◌, ◌+◌, ◌*◌, ◌/◌, ◌%◌, ◌++◌, ◌<◌, ◌^◌, ℕ, suc, not, cond, List, [], ◌∷◌, decimal, length, take}
use Rattle.std.proofs.Common.{slice_index, None, Some, Ok, refl, ap, sym, ◌∙◌, arith, append_assoc, ne_eqb}
use Rattle.std.specs.Prelude.{⊤, ◌↔◌}
use Rattle.std.specs.declared.alloc.Global.{Global}
use Rattle.std.specs.List.{before_first, position_or_len}
use Rattle.std.specs.Str.Parse.{AllDigits}
use Rattle.std.proofs.lemmas.List.{append_cancel_left}
use Rattle.std.proofs.lemmas.Fmt.{decimal_injective, decimal_is_IsNumeral}
use Rattle.hex.specs.Hex.{lower_digits, encode_with, encode_lower, decode_sized, decode_of, hex_digit_value, IsBytes}
use Rattle.hex.proofs.HexLemmas.{IsDigits-lower_digits, decode_sized-ok, decode_sized-twice, decode_of-ok, decode_of-same, decode_of-encode_lower, length-encode_with}
use Rattle.st_text.specs.Texts.{Text}
use Rattle.st_auth.specs.Names.{first_bad}
use Rattle.st_core.specs.State.{State, first_state}
use Rattle.st_command.specs.Opening.{OpensWith, sized_name, names_text, opening_text}

-- digits before a colon end at it
same_digits : (xs ys a b : List ℕ) → AllDigits 10 xs → AllDigits 10 ys → xs ++ (58 ∷ a) ≡ ys ++ (58 ∷ b) → (xs ≡ ys) × (a ≡ b)
same_digits [] [] a b dx dy same = grind arith
same_digits [] (y ∷ ys) a b dx dy same = grind arith
same_digits (x ∷ xs) [] a b dx dy same = grind arith
same_digits (x ∷ xs) (y ∷ ys) a b dx dy same = grind (arith, same_digits xs ys a b dx.1 dy.1)

-- lists of one length before others
same_front : (xs ys a b : List ℕ) → length xs ≡ length ys → xs ++ a ≡ ys ++ b → (xs ≡ ys) × (a ≡ b)
same_front [] [] a b long same = (refl, same)
same_front [] (y ∷ ys) a b long same = grind arith
same_front (x ∷ xs) [] a b long same = grind arith
same_front (x ∷ xs) (y ∷ ys) a b long same = grind (arith, same_front xs ys a b)

same_name : (name other more others : List ℕ) → length name < 2 ^ 64 → length other < 2 ^ 64
    → sized_name name ++ more ≡ sized_name other ++ others → (name ≡ other) × (more ≡ others)
same_name name other more others fits fits_other same =
    let n = decimal (length name) in
    let m = decimal (length other) in
    let behind : (n ++ (58 ∷ name)) ++ more ≡ (m ++ (58 ∷ other)) ++ others = append_cancel_left (32 ∷ []) _ _ same in
    let even : n ++ (58 ∷ (name ++ more)) ≡ m ++ (58 ∷ (other ++ others)) = sym (append_assoc n (58 ∷ name) more) ∙ behind ∙ append_assoc m (58 ∷ other) others in
    let p = same_digits n m (name ++ more) (other ++ others) (decimal_is_IsNumeral (length name) fits).0.1 (decimal_is_IsNumeral (length other) fits_other).0.1 even in
    same_front name other more others (decimal_injective (length name) (length other) fits fits_other p.0) p.1

-- texts whose lengths have a decimal
abbrev AreShort : List Text → Type 0
AreShort [] = ⊤
AreShort (name ∷ names) = (length name < 2 ^ 64) × AreShort names

same_names : (names others : List Text) → AreShort names → AreShort others → names_text names ≡ names_text others → names ≡ others
unfolding names_text
same_names [] [] short shorts same = refl
same_names [] (other ∷ others) short shorts same = grind arith
same_names (name ∷ names) [] short shorts same = grind arith
same_names (name ∷ names) (other ∷ others) short shorts same =
    let p = same_name name other (names_text names) (names_text others) short.0 shorts.0 same in
    rw p.0 (ap (λ rest. other ∷ rest) (same_names names others short.1 shorts.1 p.1))

-- names of at most 256 bytes
are_short : (names : List Text) → first_bad names ≡ None → AreShort names
are_short [] good = tt
are_short (name ∷ names) good = (grind arith, are_short names (grind arith))

-- digests that decoded, by their text
same_digests : (text texts one other : List ℕ) → decode_sized text 32 ≡ Ok one → decode_sized texts 32 ≡ Ok other
    → (length one ≡ length other) × (encode_lower one ≡ encode_lower other → one ≡ other)
same_digests text texts one other ok oks =
    let long = decode_sized-ok text 32 one ok in
    let longs = decode_sized-ok texts 32 other oks in
    let p = decode_of-ok text one (sym (decode_sized-twice text 32 long) ∙ ok) in
    let q = decode_of-ok texts other (sym (decode_sized-twice texts 32 longs) ∙ oks) in (
      omega (arith, long, longs, p.2, q.2),
      λ even. decode_of-same (encode_lower one) one other (decode_of-encode_lower one p.3) (ap decode_of even ∙ decode_of-encode_lower other q.3),
    )

pub one_opening : (digits other : Text) (names others : List Text) (one two : State Global) (opening : Text)
    → OpensWith digits names one opening → OpensWith other others two opening → one ≡ two
one_opening digits other names others one two opening a b =
    let da = a.opens.digest in
    let db = b.opens.digest in
    let same : opening_text da names ≡ opening_text db others = sym a.opening_is ∙ b.opening_is in
    let d = same_digests digits other da db a.opens.written b.opens.written in
    let even : length (encode_lower da) ≡ length (encode_lower db) =
    length-encode_with lower_digits da ∙ ap (λ (n : ℕ). 2 * n) d.0 ∙ sym (length-encode_with lower_digits db) in
    let parts = same_front (encode_lower da) (encode_lower db) (names_text names) (names_text others) even same in
    let all = same_names names others (are_short names a.opens.good) (are_short others b.opens.good) parts.1 in
    let by_digest : first_state da names ≡ first_state db names = ap (λ (digest : List ℕ). first_state digest names) (d.1 parts.0) in
    let by_names : first_state db names ≡ first_state db others = ap (λ (list : List Text). first_state db list) all in
    a.opens.is ∙ by_digest ∙ by_names ∙ sym b.opens.is

-- no byte of the text is a blank
abbrev IsWord : List ℕ → Type 0
IsWord [] = ⊤
IsWord (x ∷ xs) = (x ≢ 32) × IsWord xs

first_word : (xs : List ℕ) (names : List Text) → IsWord xs → before_first (λ c. c == 32) (xs ++ names_text names) ≡ xs
unfolding names_text
first_word [] [] word = refl
first_word [] (name ∷ names) word = refl
first_word (x ∷ xs) names word =
    let more = position_or_len (λ c. c == 32) (xs ++ names_text names) in
    let one : 1 + more ≡ suc more = omega arith in
    let longer : position_or_len (λ c. c == 32) (x ∷ (xs ++ names_text names)) ≡ suc more =
    ap (λ b. cond (not b) (1 + more) 0) (ne_eqb x 32 word.0) ∙ one in
    ap (λ n. take n (x ∷ (xs ++ names_text names))) longer ∙ ap (λ l. x ∷ l) (first_word xs names word.1)

-- a digit is no blank
no_blank : (d : ℕ) → d < 16 → slice_index lower_digits d ≢ 32
no_blank d low blank =
    let none : None ≡ Some d = ap hex_digit_value (sym blank) ∙ IsDigits-lower_digits d low in
    cc

digits_are_word : (bytes : List ℕ) → IsBytes bytes → IsWord (encode_lower bytes)
unfolding encode_with
digits_are_word [] are = tt
digits_are_word (b ∷ bytes) are =
    let fits : b < 256 = are 0 in
    (no_blank (b / 16) (omega arith), (no_blank (b % 16) (omega arith), digits_are_word bytes (λ k. are (suc k))))

owner : (digits : Text) (names : List Text) (state : State Global) (opening : Text) → (a : OpensWith digits names state opening)
    → before_first (λ c. c == 32) opening ≡ encode_lower a.opens.digest
owner digits names state opening a =
    let digest = a.opens.digest in
    let long = decode_sized-ok digits 32 digest a.opens.written in
    let p = decode_of-ok digits digest (sym (decode_sized-twice digits 32 long) ∙ a.opens.written) in
    ap (before_first (λ c. c == 32)) a.opening_is ∙ first_word (encode_lower digest) names (digits_are_word digest p.3)

pub one_owner : (digits other : Text) (names others : List Text) (one two : State Global) (opening found : Text)
    → (a : OpensWith digits names one opening) → (b : OpensWith other others two found)
    → (before_first (λ c. c == 32) opening ≡ before_first (λ c. c == 32) found) ↔ (a.opens.digest ≡ b.opens.digest)
one_owner digits other names others one two opening found a b =
    let first = owner digits names one opening a in
    let second = owner other others two found b in
    let d = same_digests digits other a.opens.digest b.opens.digest a.opens.written b.opens.written in
    (λ same. d.1 (sym first ∙ same ∙ second), λ same. first ∙ ap encode_lower same ∙ sym second)
