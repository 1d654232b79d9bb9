-- Where the client may wait with a body, the item that comes of the text is its message.
use Rattle.std.proofs.Common.{◌≡◌, ◌∙◌, ℕ, ◌≤◌, Bool, true, false, cond, List, ◌++◌, length, drop, take, refl, sym, ap, subst, arith, length-take, Result, Ok, Err}
use Rattle.std.specs.Prelude.{nat_lt, nat_le}
use Rattle.std.proofs.lemmas.Bool.Decides.{nat_tests}
use Rattle.httparse.specs.Grammar.{RequestHead, print_request, ReadsRequest}
use Rattle.httparse.proofs.GrammarLemmas.{ReadsRequest-append}
use Rattle.st_http.specs.declared.fields.Reason.{Reason}
use Rattle.st_http.specs.declared.fields.Reason.TheVariants as reasons
use Rattle.st_http.specs.Head.{window, whole, begun, hopeless}
use Rattle.st_http.specs.Fields.{body_length_of}
use Rattle.st_http.specs.First.{First, message, fault, more, with_body, waits_with, expects, fields_of, first_by, IsFirst}
use Rattle.st_http.proofs.WindowLemmas.{window_grows}
use Rattle.st_http.proofs.BareLemmas.{bare_by_head}
use Rattle.st_http.proofs.FirstLemmas.{first_unique}

-- what comes of a head expects the same, however much of its body is there
body_expects : (h : RequestHead) (text after : List ℕ) (bare : Bool) (r : Result ℕ Reason) → more true ≡ with_body h text bare r
    → expects (with_body h after bare r) ≡ true
body_expects h text after bare (Ok n) is = before (nat_le n (length text)) is
  where
    later : (t : Bool) → nat_le n (length after) ≡ t → waits_with h n ≡ true
        → expects (cond t (message h (take n after) bare) (more (waits_with h n))) ≡ true
    later true e waits =
        let fits : n ≤ length after = grind (arith, nat_tests) in
        let long : length (take n after) ≡ n = simp length-take (omega arith) in ap (waits_with h) long ∙ waits
    later false e waits = waits

    before : (t : Bool) → more true ≡ cond t (message h (take n text) bare) (more (waits_with h n)) → expects (with_body h after bare (Ok n)) ≡ true
    before true e = absurd (cc)
    before false e = later (nat_le n (length after)) refl (let w : true ≡ waits_with h n = cc in sym w)
body_expects h text after bare (Err reason) is = absurd (cc)

first_expects : (text after : List ℕ) (h : RequestHead) (bare : Bool) → more true ≡ first_by text bare (whole h)
    → expects (first_by after bare (whole h)) ≡ true
first_expects text after h bare is = go (nat_lt 64 (length h.fields)) is
  where
    go : (t : Bool) → more true ≡ cond t (fault reasons.Headers bare) (with_body h (drop (length (print_request h)) text) bare (body_length_of h.minor (fields_of h)))
        → expects (cond t (fault reasons.Headers bare) (with_body h (drop (length (print_request h)) after) bare (body_length_of h.minor (fields_of h)))) ≡ true
    go true e = absurd (cc)
    go false e = body_expects h (drop (length (print_request h)) text) (drop (length (print_request h)) after) bare (body_length_of h.minor (fields_of h)) e

pub awaited : (text after : List ℕ) (first : First) → IsFirst text (more true) → IsFirst (text ++ after) first → expects first ≡ true
awaited text after first (whole h, bare, reads, decides, is) longer =
    let grown = window_grows text after in
    let still : IsFirst (text ++ after) (first_by (text ++ after) bare (whole h)) = (
      whole h,
      bare,
      (reads.0 ++ grown.0, subst (λ (t : List ℕ). ReadsRequest t h (reads.0 ++ grown.0)) (sym grown.1) (ReadsRequest-append (window text) h reads.0 grown.0 reads.1)),
      bare_by_head text after reads.0 h bare reads.1 decides,
      refl,
    ) in
    ap expects (first_unique (text ++ after) first (first_by (text ++ after) bare (whole h)) longer still) ∙ first_expects text (text ++ after) h bare is
awaited text after first (begun, bare, reads, decides, is) longer = go (nat_lt (length text) 8192) is
  where
    go : (t : Bool) → more true ≡ cond t (more false) (fault reasons.Headers bare) → expects first ≡ true
    go true e = absurd (let w : true ≡ false = cc in cc)
    go false e = absurd (cc)
awaited text after first (hopeless, bare, reads, decides, is) longer = absurd (cc)
