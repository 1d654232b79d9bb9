-- A message in the words of the grammar, and the one list of items.
use Rattle.std.proofs.Common.{◌≡◌, ◌∙◌, ℕ, ◌+◌, ◌-◌, ◌<◌, ◌≤◌, Bool, true, false, cond, List, [], ◌∷◌, ◌++◌, length, take, drop, refl, sym, ap, subst}
use Rattle.std.proofs.Common.{arith, append_assoc, length-append, length-take, take-append-drop, Result, Ok, Err}
use Rattle.std.specs.Prelude.{nat_lt, nat_le}
use Rattle.std.proofs.lemmas.Bool.{le-ltb, ltb-false}
use Rattle.std.proofs.lemmas.Bool.Decides.{nat_tests}
use Rattle.std.proofs.Math.Seq.{take-append_seam, take-append-add, drop-append_seam}
use Rattle.httparse.specs.Grammar.{RequestHead, print_request, ReadsRequest}
use Rattle.st_http.specs.declared.fields.Reason.{Reason}
use Rattle.st_http.specs.declared.fields.Reason.TheVariants as reasons
use Rattle.st_http.specs.Head.{window, DecidesBare, whole, begun, hopeless}
use Rattle.st_http.specs.Fields.{body_length_of}
use Rattle.st_http.specs.First.{First, message, fault, more, with_body, waits_with, fields_of, IsFirst, IsItem, size_of}
use Rattle.st_http.specs.Items.{Items, none, last, next, after_item, closes}
use Rattle.st_http.specs.inner.Messages.{IsMessage}
use Rattle.st_http.proofs.WindowLemmas.{window_short}
use Rattle.st_http.proofs.FirstLemmas.{first_unique, first_kept}
use Rattle.st_http.proofs.LengthLemmas.{head_length}
use Rattle.st_http.specs.declared.message.Take.{Take}
use Rattle.st_http.specs.declared.message.Take.TheVariants as takes
use Rattle.st_http.specs.inner.Takes.{Takes, FitsIn}
use Rattle.std.proofs.lemmas.List.{drop-append-le}

-- the whole text begins with the window's head
whole_text : (text rest : List ℕ) (h : RequestHead) → ReadsRequest (window text) h rest → ReadsRequest text h (rest ++ drop 8192 text)
unfolding window
whole_text text rest h reads =
    (reads.0, sym (take-append-drop 8192 text) ∙ ap (λ (t : List ℕ). t ++ drop 8192 text) reads.1 ∙ append_assoc (print_request h) rest (drop 8192 text))

-- a body of the length that the head says
with_length : (text rest : List ℕ) (h : RequestHead) (n : ℕ) (bare : Bool) → DecidesBare text bare → ReadsRequest (window text) h rest
    → length h.fields ≤ 64
    → body_length_of h.minor (fields_of h) ≡ Ok n → n ≤ length (drop (length (print_request h)) text)
    → IsMessage text h (take n (drop (length (print_request h)) text)) bare
with_length text rest h n bare decides reads few says fits =
    let here = whole_text text rest h reads in
    let tail : drop (length (print_request h)) text ≡ rest ++ drop 8192 text
    = ap (drop (length (print_request h))) here.1 ∙ drop-append_seam (print_request h) (rest ++ drop 8192 text) in
    let body = take n (drop (length (print_request h)) text) in
    let long : length body ≡ n = simp length-take (omega arith) in
    record {
      rest = drop n (drop (length (print_request h)) text);
      reads = (reads.0, here.1 ∙ ap (λ (t : List ℕ). print_request h ++ t) (sym tail ∙ sym (take-append-drop n (drop (length (print_request h)) text))));
      in_window = omega (arith, window_short text, ap length reads.1, length-append (print_request h) rest);
      few = few;
      length_is = says ∙ ap Ok (sym long);
      decides = decides;
    }

pub message_from_first : (text : List ℕ) (h : RequestHead) (body : List ℕ) (bare : Bool) → IsFirst text (message h body bare)
    → IsMessage text h body bare
message_from_first text h body bare (whole k, flag, reads, decides, is) = go (nat_lt 64 (length k.fields)) refl is
  where
    after : List ℕ
    after = drop (length (print_request k)) text

    by_length : (n : ℕ) (t : Bool) → length k.fields ≤ 64 → body_length_of k.minor (fields_of k) ≡ Ok n
        → nat_le n (length after) ≡ t → message h body bare ≡ cond t (message k (take n after) flag) (more (waits_with k n)) → IsMessage text h body bare
    by_length n true few says test e =
        let fits : n ≤ length after = grind (arith, nat_tests) in
        let heads : k ≡ h = cc in
        let bodies : take n after ≡ body = cc in
        let flags : flag ≡ bare = cc in
        subst (λ (g : RequestHead). IsMessage text g body bare) heads
        (subst (λ (b : List ℕ). IsMessage text k b bare) bodies
        (subst (λ (t : Bool). IsMessage text k (take n after) t) flags (with_length text reads.0 k n flag decides reads.1 few says fits)))
    by_length n false few says test e = absurd (cc)

    by_rule : (r : Result ℕ Reason) → length k.fields ≤ 64 → body_length_of k.minor (fields_of k) ≡ r
        → message h body bare ≡ with_body k after flag r → IsMessage text h body bare
    by_rule (Ok n) few says e = by_length n (nat_le n (length after)) few says refl e
    by_rule (Err reason) few says e = absurd (cc)

    go : (t : Bool) → nat_lt 64 (length k.fields) ≡ t
        → message h body bare ≡ cond t (fault reasons.Headers flag) (with_body k after flag (body_length_of k.minor (fields_of k)))
        → IsMessage text h body bare
    go true test e = absurd (cc)
    go false test e = by_rule (body_length_of k.minor (fields_of k)) (ltb-false _ _ test) refl e
message_from_first text h body bare (begun, flag, reads, decides, is) = go (nat_lt (length text) 8192) is
  where
    go : (t : Bool) → message h body bare ≡ cond t (more false) (fault reasons.Headers flag) → IsMessage text h body bare
    go true e = absurd (cc)
    go false e = absurd (cc)
message_from_first text h body bare (hopeless, flag, reads, decides, is) = absurd (cc)

window_of_head : (text front after : List ℕ) → text ≡ front ++ after → length front ≤ 8192
    → (rest : List ℕ) × (window text ≡ front ++ rest)
unfolding window
window_of_head text front after e fits =
    let split : length front + (8192 - length front) ≡ 8192 = omega arith in (
      take (8192 - length front) after,
      ap (take 8192) e ∙ ap (λ (n : ℕ). take n (front ++ after)) (sym split) ∙ take-append-add front after (8192 - length front),
    )

pub first_from_message : (text : List ℕ) (h : RequestHead) (body : List ℕ) (bare : Bool) → IsMessage text h body bare
    → IsFirst text (message h body bare)
first_from_message text h body bare m =
    let seen = window_of_head text (print_request h) (body ++ m.rest) m.reads.1 m.in_window in
    let room : nat_lt 64 (length h.fields) ≡ false = le-ltb _ _ m.few in
    let tail : drop (length (print_request h)) text ≡ body ++ m.rest
    = ap (drop (length (print_request h))) m.reads.1 ∙ drop-append_seam (print_request h) (body ++ m.rest) in
    let fits : nat_le (length body) (length (body ++ m.rest)) ≡ true = simp length-append (grind (arith, nat_tests)) in (
      whole h,
      bare,
      (seen.0, (m.reads.0, seen.1)),
      m.decides,
      rw (room, m.length_is, tail, fits) (ap (λ (b : List ℕ). message h b bare) (sym (take-append_seam body m.rest))),
    )

none_same : {t : List ℕ} {b : List First} {y : List ℕ} → Items t b y → (waits : Bool) → IsFirst t (more waits) → ([] ≡ b) × (t ≡ y)
none_same (none g) waits f = (refl, refl)
none_same (last g some closing) waits f = absurd (subst IsItem (first_unique _ _ _ g f) some)
none_same (next g stays tail) waits f = let both : true ≡ false = sym (ap closes (first_unique _ _ _ g f)) ∙ stays in absurd (cc)

last_same : {t : List ℕ} {b : List First} {y : List ℕ} → Items t b y → (item : First) → IsFirst t item → IsItem item → closes item ≡ true
    → (item ∷ [] ≡ b) × (after_item t item ≡ y)
last_same (none g) item f some here = absurd (subst IsItem (first_unique _ _ _ f g) some)
last_same (last {text} {item = other} g some_too closing) item f some here =
    let e : item ≡ other = first_unique _ _ _ f g in
    (ap (λ (i : First). i ∷ []) e, ap (after_item text) e)
last_same (next {text} {item = other} g stays tail) item f some here =
    let e : item ≡ other = first_unique _ _ _ f g in
    let both : true ≡ false = sym here ∙ ap closes e ∙ stays in
    absurd (cc)

next_same : {t : List ℕ} {b : List First} {y : List ℕ} → Items t b y → (item : First) (items : List First) (rest : List ℕ)
    → IsFirst t item → closes item ≡ false
    → ((c : List First) (z : List ℕ) → Items (after_item t item) c z → (items ≡ c) × (rest ≡ z))
    → (item ∷ items ≡ b) × (rest ≡ y)
next_same (none {text} {waits} g) item items rest f here more_same =
    let e : item ≡ more waits = first_unique _ _ _ f g in
    let both : true ≡ false = sym (ap closes e) ∙ here in
    absurd (cc)
next_same (last {text} {item = other} g some closing) item items rest f here more_same =
    let e : item ≡ other = first_unique _ _ _ f g in
    let both : true ≡ false = sym closing ∙ sym (ap closes e) ∙ here in
    absurd (cc)
next_same (next {text} {rest = left} {item = other} {items = others} g stays tail) item items rest f here more_same =
    let e : item ≡ other = first_unique _ _ _ f g in
    let there : after_item text other ≡ after_item text item = ap (after_item text) (sym e) in
    let same = more_same others left (subst (λ (t : List ℕ). Items t others left) there tail) in
    (λ i. e i ∷ same.0 i, same.1)

items_same : {text : List ℕ} {a : List First} {x : List ℕ} → Items text a x → (b : List First) (y : List ℕ) → Items text b y → (a ≡ b) × (x ≡ y)
items_same (none {text} {waits} f) b y q = none_same q waits f
items_same (last {text} {item} f some closing) b y q = last_same q item f some closing
items_same (next {text} {rest} {item} {items} f stays tail) b y q = next_same q item items rest f stays (λ c z r. items_same tail c z r)

pub items_unique : (text : List ℕ) (a b : List First) (x y : List ℕ) → Items text a x → Items text b y → (a ≡ b) × (x ≡ y)
items_unique text a b x y p q = items_same p b y q

-- how long a message is
pub message_size : (text : List ℕ) (h : RequestHead) (body : List ℕ) (bare : Bool) → IsFirst text (message h body bare)
    → (0 < size_of h body) × (size_of h body ≤ length text)
message_size text h body bare first =
    let m = message_from_first text h body bare first in
    let long = head_length h m.reads.0.fields in
    let whole = ap length m.reads.1 in (
      omega arith,
      omega (arith, length-append (print_request h) (body ++ m.rest), length-append body m.rest),
    )

pub takes_within : (text : List ℕ) (taken : Take) → Takes text taken → FitsIn (length text) taken
takes_within text (takes.Message m used) (message h body bare, first, represents) =
    let long = message_size text h body bare first in rw represents.1 long
takes_within text (takes.Message m used) (fault reason bare, first, represents) = absurd represents
takes_within text (takes.Message m used) (more waits, first, represents) = absurd represents
takes_within text (takes.More flag) t = tt
takes_within text (takes.Fault f) t = tt

pub items_next : (text after rest : List ℕ) (item : First) (items : List First) → IsFirst text item → closes item ≡ false
    → Items (after_item text item ++ after) items rest → Items (text ++ after) (item ∷ items) rest
items_next text after rest (message h body bare) items first stays more_items =
    let long = message_size text h body bare first in
    let kept = first_kept text after (message h body bare) tt first in
    let tail = drop-append-le (size_of h body) text after long.1 in
    next kept stays (subst (λ (t : List ℕ). Items t items rest) (sym tail) more_items)
items_next text after rest (fault reason bare) items first stays more_items = absurd (cc)
items_next text after rest (more waits) items first stays more_items = absurd (cc)
