-- Whether an item is that of a HEAD request does not change with what follows.
use Rattle.std.proofs.Common.{◌≡◌, ◌∙◌, ℕ, ◌≤◌, inl, inr, Bool, true, false, lit<, List, [], ◌∷◌, ◌++◌, length, get_or, refl, sym, ap, subst, arith, append_assoc, length-append}
use Rattle.std.specs.Prelude.{codes}
use Rattle.std.proofs.lemmas.List.Elements.{All-cons, All-nil}
use Rattle.httparse.specs.Grammar.{IsToken, is_token_byte, is_uri_byte, LineEnd, crlf, lf, print_end, print_blank, print_version, print_section}
use Rattle.httparse.specs.Grammar.{RequestHead, ReadsRequest, HasNoRequest, MayBecomeRequest}
use Rattle.httparse.proofs.GrammarLemmas.{print_request-append, ReadsRequest-append}
use Rattle.httparse.proofs.PieceLemmas.{Stops_token}
use Rattle.st_http.specs.Head.{window, IsBare, DecidesBare}
use Rattle.st_http.specs.inner.Windows.{StartsInLine}
use Rattle.st_http.proofs.TargetLemmas.{blank_parts, method_unique}
use Rattle.st_http.proofs.WindowLemmas.{fronts, window_grows, window_full, target_open}

head_is_token : IsToken (codes "HEAD")
unfolding is_token_byte
head_is_token =
    let P : ℕ → Type 0 = λ v. is_token_byte v ≡ true in
    (lit< tt, All-cons P 72 (69 ∷ 65 ∷ 68 ∷ []) refl (All-cons P 69 (65 ∷ 68 ∷ []) refl (All-cons P 65 (68 ∷ []) refl (All-cons P 68 [] refl (All-nil P)))))

head_starts : StartsInLine (codes "HEAD ")
head_starts crlf rest e = omega (arith, ap (λ t. get_or t 0 0) e)
head_starts lf rest e = omega (arith, ap (λ t. get_or t 0 0) e)

-- a text that ends where a HEAD request's target begins has no head
no_head_yet : (text : List ℕ) (blank : List LineEnd) → text ≡ print_blank blank ++ codes "HEAD " → HasNoRequest text
no_head_yet text blank e h rest reads =
    let tail = h.target ++ 32 ∷ (print_version h.minor ++ (print_end h.line_end ++ (print_section h.fields h.last ++ rest))) in
    let line : codes "HEAD " ≡ h.method ++ 32 ∷ tail
    = blank_parts blank h.blank (codes "HEAD ") (h.method ++ 32 ∷ tail) head_starts (Stops_token h.method (32 ∷ tail) reads.0.method.0 reads.0.method.1)
    (sym e ∙ reads.1 ∙ print_request-append h rest) in
    let same : [] ≡ tail = method_unique (codes "HEAD ") (codes "HEAD") h.method [] tail (head_is_token, refl) (reads.0.method, line) in
    omega (arith, ap length same, length-append h.target (32 ∷ (print_version h.minor ++ (print_end h.line_end ++ (print_section h.fields h.last ++ rest)))))

bare_more : (p w : List ℕ) → IsBare p → IsBare (p ++ w)
bare_more p w (blank, rest, e) =
    (blank, rest ++ w, ap (λ (t : List ℕ). t ++ w) e ∙ append_assoc (print_blank blank) (codes "HEAD " ++ rest) w)

-- a window that is a head or hopeless is bare if it is with more bytes
bare_less : (p w : List ℕ) → ((m : List ℕ) (blank : List LineEnd) → p ++ m ≡ print_blank blank ++ codes "HEAD " → ⊥)
    → IsBare (p ++ w) → IsBare p
bare_less p w never (blank, rest, e) =
    elim (fronts p w (print_blank blank ++ codes "HEAD ") rest (e ∙ sym (append_assoc (print_blank blank) (codes "HEAD ") rest))) [
      | inl (m, f) ↦ absurd (never m blank f)
      | inr (d, f, g) ↦ (blank, d, sym f ∙ append_assoc (print_blank blank) (codes "HEAD ") d)
    ]

-- the flag of a text is that of a longer one, where no text between them ends with the word and the space
kept_both_ways : (text after : List ℕ) (bare : Bool)
    → ((m : List ℕ) (blank : List LineEnd) → window text ++ m ≡ print_blank blank ++ codes "HEAD " → ⊥)
    → DecidesBare text bare → DecidesBare (text ++ after) bare
unfolding DecidesBare
kept_both_ways text after bare never decides =
    let grown = window_grows text after in (
      λ holds. subst IsBare (sym grown.1) (bare_more (window text) grown.0 (decides.0 holds)),
      λ is. decides.1 (bare_less (window text) grown.0 never (subst IsBare grown.1 is)),
    )

pub bare_by_head : (text after rest : List ℕ) (h : RequestHead) (bare : Bool) → ReadsRequest (window text) h rest
    → DecidesBare text bare → DecidesBare (text ++ after) bare
bare_by_head text after rest h bare reads =
    kept_both_ways text after bare (λ m blank e. no_head_yet (window text ++ m) blank e h (rest ++ m) (ReadsRequest-append (window text) h rest m reads))

pub bare_by_length : (text after : List ℕ) (bare : Bool) → 8192 ≤ length text → DecidesBare text bare → DecidesBare (text ++ after) bare
unfolding DecidesBare
bare_by_length text after bare long decides =
    let same = window_full text after long in
    (λ holds. subst IsBare (sym same) (decides.0 holds), λ is. decides.1 (subst IsBare same is))

pub bare_by_garbage : (text after : List ℕ) (bare : Bool) → ¬ (MayBecomeRequest (window text))
    → DecidesBare text bare → DecidesBare (text ++ after) bare
bare_by_garbage text after bare never =
    kept_both_ways text after bare
    (λ m blank e. never (target_open (window text) m (
      blank,
      codes "HEAD",
      [],
      head_is_token,
      All-nil (λ v. is_uri_byte v ≡ true),
      e ∙ sym (append_assoc (print_blank blank) (codes "HEAD") (32 ∷ [])),
    )))

-- a text has one flag
pub bare_unique : (text : List ℕ) (a b : Bool) → DecidesBare text a → DecidesBare text b → a ≡ b
unfolding DecidesBare
bare_unique text true true x y = refl
bare_unique text true false x y = sym (y.1 (x.0 refl))
bare_unique text false true x y = x.1 (y.0 refl)
bare_unique text false false x y = refl
