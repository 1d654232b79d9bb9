-- A text has one first item, and keeps it.
use Rattle.std.proofs.Common.{◌≡◌, ◌∙◌, ℕ, ◌+◌, ◌-◌, ◌<◌, ◌≤◌, Bool, true, false, not, cond, List, [], ◌∷◌, ◌++◌, length, drop, take, refl, sym, ap}
use Rattle.std.proofs.Common.{subst, arith, length-append, length-drop, Result, Ok, Err}
use Rattle.std.specs.Prelude.{codes, nat_lt, nat_le}
use Rattle.std.specs.Str.Parse.{digits_value}
use Rattle.std.proofs.lemmas.Bool.{ltb-true, ltb-false, le-ltb}
use Rattle.std.proofs.lemmas.Bool.Decides.{nat_tests}
use Rattle.std.proofs.lemmas.List.{take-append-le, drop-append-le}
use Rattle.httparse.specs.Grammar.{RequestHead, print_request, ReadsRequest}
use Rattle.httparse.proofs.GrammarLemmas.{request_unique, ReadsRequest-append}
use Rattle.st_http.specs.declared.fields.Reason.{Reason}
use Rattle.st_http.specs.declared.fields.Reason.TheVariants as reasons
use Rattle.st_http.specs.Head.{window, Reading, whole, begun, hopeless, HasReading}
use Rattle.st_http.specs.Fields.{Fields, body_length_of, length_by, is_number, breaks_host, values_of}
use Rattle.st_http.specs.First.{First, IsItem, message, fault, more, with_body, waits_with, fields_of, first_by, IsFirst}
use Rattle.st_http.proofs.WindowLemmas.{window_grows, window_full, window-length, window_short, hopeless_stays}
use Rattle.st_http.proofs.BareLemmas.{bare_by_head, bare_by_length, bare_by_garbage, bare_unique}

reading_unique : (p : List ℕ) (a b : Reading) → HasReading p a → HasReading p b → a ≡ b
reading_unique p (whole h) (whole k) x y = ap whole (request_unique p h k x.0 y.0 x.1 y.1).0
reading_unique p (whole h) begun x y = absurd (y.0 h x.0 x.1)
reading_unique p (whole h) hopeless x y = absurd (y.0 h x.0 x.1)
reading_unique p begun (whole h) x y = absurd (x.0 h y.0 y.1)
reading_unique p begun begun x y = refl
reading_unique p begun hopeless x y = absurd (y.1 x.1)
reading_unique p hopeless (whole h) x y = absurd (x.0 h y.0 y.1)
reading_unique p hopeless begun x y = absurd (x.1 y.1)
reading_unique p hopeless hopeless x y = refl

pub first_unique : (text : List ℕ) (a b : First) → IsFirst text a → IsFirst text b → a ≡ b
first_unique text a b (x, bare_x, reads_x, tells_x, is_x) (y, bare_y, reads_y, tells_y, is_y) =
    is_x
    ∙ ap (λ (flag : Bool). first_by text flag x) (bare_unique text bare_x bare_y tells_x tells_y)
    ∙ ap (first_by text bare_y) (reading_unique (window text) x y reads_x reads_y)
    ∙ sym is_y

-- with more text the body is the same
body_stays : (h : RequestHead) (text after : List ℕ) (bare : Bool) (r : Result ℕ Reason) → IsItem (with_body h text bare r)
    → with_body h text bare r ≡ with_body h (text ++ after) bare r
body_stays h text after bare (Ok n) some = go (nat_le n (length text)) refl some
  where
    go : (t : Bool) → nat_le n (length text) ≡ t → IsItem (cond t (message h (take n text) bare) (more (waits_with h n)))
        → cond t (message h (take n text) bare) (more (waits_with h n)) ≡ with_body h (text ++ after) bare (Ok n)
    go true e here =
        let fits : n ≤ length text = grind (arith, nat_tests) in
        let room : nat_le n (length (text ++ after)) ≡ true = simp length-append (grind (arith, nat_tests)) in
        rw room (ap (λ (body : List ℕ). message h body bare) (sym (take-append-le n text after fits)))
    go false e here = absurd here
body_stays h text after bare (Err reason) some = refl

head_fits : (text rest : List ℕ) (h : RequestHead) → ReadsRequest (window text) h rest → length (print_request h) ≤ length text
head_fits text rest h reads =
    omega (arith, window-length text, ap length reads.1, length-append (print_request h) rest)

whole_stays : (text after rest : List ℕ) (h : RequestHead) (bare : Bool) → ReadsRequest (window text) h rest
    → IsItem (first_by text bare (whole h)) → first_by text bare (whole h) ≡ first_by (text ++ after) bare (whole h)
whole_stays text after rest h bare reads some = go (nat_lt 64 (length h.fields)) some
  where
    go : (t : Bool) → IsItem (cond t (fault reasons.Headers bare) (with_body h (drop (length (print_request h)) text) bare (body_length_of h.minor (fields_of h))))
        → cond t (fault reasons.Headers bare) (with_body h (drop (length (print_request h)) text) bare (body_length_of h.minor (fields_of h)))
        ≡ cond t (fault reasons.Headers bare) (with_body h (drop (length (print_request h)) (text ++ after)) bare (body_length_of h.minor (fields_of h)))
    go true here = refl
    go false here =
        body_stays h (drop (length (print_request h)) text) after bare (body_length_of h.minor (fields_of h)) here
        ∙ ap (λ (t : List ℕ). with_body h t bare (body_length_of h.minor (fields_of h))) (sym (drop-append-le (length (print_request h)) text after (head_fits text rest h reads)))

pub first_kept : (text after : List ℕ) (first : First) → IsItem first → IsFirst text first → IsFirst (text ++ after) first
first_kept text after first some (whole h, bare, reads, decides, is) =
    let grown = window_grows text after in
    let longer = ReadsRequest-append (window text) h reads.0 grown.0 reads.1 in (
      whole h,
      bare,
      (reads.0 ++ grown.0, subst (λ (t : List ℕ). ReadsRequest t h (reads.0 ++ grown.0)) (sym grown.1) longer),
      bare_by_head text after reads.0 h bare reads.1 decides,
      is ∙ whole_stays text after reads.0 h bare reads.1 (subst IsItem is some),
    )
first_kept text after first some (begun, bare, reads, decides, is) = go (nat_lt (length text) 8192) refl is
  where
    go : (t : Bool) → nat_lt (length text) 8192 ≡ t → first ≡ cond t (more false) (fault reasons.Headers bare) → IsFirst (text ++ after) first
    go true e here = absurd (subst IsItem here some)
    go false e here =
        let full : 8192 ≤ length text = ltb-false _ _ e in
        let test : nat_lt (length (text ++ after)) 8192 ≡ false = le-ltb _ _ (omega (arith, length-append text after)) in
        (begun, bare, subst (λ (t : List ℕ). HasReading t begun) (sym (window_full text after full)) reads, bare_by_length text after bare full decides, here ∙ rw test refl)
first_kept text after first some (hopeless, bare, reads, decides, is) = go (nat_lt (length text) 8192) refl
  where
    go : (t : Bool) → nat_lt (length text) 8192 ≡ t → IsFirst (text ++ after) first
    go true e =
        let short : length text < 8192 = ltb-true _ _ e in
        let grown = window_grows text after in
        let stays = hopeless_stays (window text) grown.0 reads in
        (hopeless, bare, subst (λ (t : List ℕ). HasReading t hopeless) (sym grown.1) stays, bare_by_garbage text after bare reads.1 decides, is)
    go false e =
        let full : 8192 ≤ length text = ltb-false _ _ e in
        (hopeless, bare, subst (λ (t : List ℕ). HasReading t hopeless) (sym (window_full text after full)) reads, bare_by_length text after bare full decides, is)

-- a body that is awaited has at most 65,536 bytes
length_by_fits : (values : List (List ℕ)) (n : ℕ) → length_by values ≡ Ok n → n ≤ 65536
length_by_fits [] n e = let none : 0 ≡ n = cc in omega arith
length_by_fits (value ∷ []) n e = go (is_number value) (nat_lt 65536 (digits_value 10 value)) refl e
  where
    go : (a b : Bool) → nat_lt 65536 (digits_value 10 value) ≡ b
        → cond (not a) (Err reasons.Head) (cond b (Err reasons.Size) (Ok (digits_value 10 value))) ≡ Ok n → n ≤ 65536
    go true true test f = absurd (cc)
    go true false test f =
        let same : digits_value 10 value ≡ n = cc in
        let few : digits_value 10 value ≤ 65536 = ltb-false _ _ test in
        omega arith
    go false b test f = absurd (cc)
length_by_fits (value ∷ other ∷ values) n e = absurd (cc)

body_fits : (minor n : ℕ) (fields : Fields) → body_length_of minor fields ≡ Ok n → n ≤ 65536
unfolding body_length_of
body_fits minor n fields e =
    go (breaks_host minor (values_of (codes "host") fields)) (nat_lt 0 (length (values_of (codes "transfer-encoding") fields))) e
  where
    go : (a b : Bool) → cond a (Err reasons.Host) (cond b (Err reasons.Length) (length_by (values_of (codes "content-length") fields))) ≡ Ok n
        → n ≤ 65536
    go true b f = absurd (cc)
    go false true f = absurd (cc)
    go false false f = length_by_fits (values_of (codes "content-length") fields) n f

-- a text that waits for more is short
pub more_short : (text : List ℕ) (waits : Bool) → IsFirst text (more waits) → length text < 8192 + 65536
more_short text waits (whole h, bare, reads, decides, is) = go (nat_lt 64 (length h.fields)) is
  where
    after : List ℕ
    after = drop (length (print_request h)) text

    by_length : (n : ℕ) (t : Bool) → n ≤ 65536 → nat_le n (length after) ≡ t → more waits ≡ cond t (message h (take n after) bare) (more (waits_with h n))
        → length text < 8192 + 65536
    by_length n true few test e = absurd (cc)
    by_length n false few test e =
        let short : length after < n = grind (arith, nat_tests) in
        let cut : length after ≡ length text - length (print_request h) = length-drop (length (print_request h)) text in
        let head : length (print_request h) ≤ 8192
        = omega (arith, window_short text, ap length reads.1.1, length-append (print_request h) reads.0) in
        omega (short, cut, head, few, arith)

    by_rule : (r : Result ℕ Reason) → body_length_of h.minor (fields_of h) ≡ r → more waits ≡ with_body h after bare r
        → length text < 8192 + 65536
    by_rule (Ok n) says e = by_length n (nat_le n (length after)) (body_fits h.minor n (fields_of h) says) refl e
    by_rule (Err reason) says e = absurd (cc)

    go : (t : Bool) → more waits ≡ cond t (fault reasons.Headers bare) (with_body h after bare (body_length_of h.minor (fields_of h)))
        → length text < 8192 + 65536
    go true e = absurd (cc)
    go false e = by_rule (body_length_of h.minor (fields_of h)) refl e
more_short text waits (begun, bare, reads, decides, is) = go (nat_lt (length text) 8192) refl is
  where
    go : (t : Bool) → nat_lt (length text) 8192 ≡ t → more waits ≡ cond t (more false) (fault reasons.Headers bare) → length text < 8192 + 65536
    go true e here =
        let short : length text < 8192 = ltb-true _ _ e in omega (short, arith)
    go false e here = absurd (cc)
more_short text waits (hopeless, bare, reads, decides, is) = absurd (cc)
