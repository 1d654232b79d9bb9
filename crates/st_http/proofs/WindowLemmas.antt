-- What a window holds of a text and of a longer one.
use Rattle.std.proofs.Common.{◌≡◌, ◌∙◌, ℕ, zero, suc, lit<, lit≤, ◌≤◌, ◌⊎◌, inl, inr, true, List, [], ◌∷◌, ◌++◌, length, take, refl, sym, ap, subst, arith, append_assoc, append-nil, length-take}
use Rattle.std.specs.Prelude.{codes}
use Rattle.std.specs.Str.{IsAscii}
use Rattle.std.proofs.lemmas.Str.{IsUtf8-from_ascii}
use Rattle.std.proofs.lemmas.Str.Ascii.{IsAscii-cons, IsAscii-nil}
use Rattle.std.proofs.Math.Seq.{take-append_seam}
use Rattle.std.proofs.lemmas.List.{take-append-le}
use Rattle.std.proofs.lemmas.List.Elements.{All-take, All-cons, All-nil}
use Rattle.httparse.specs.Grammar.{AllPass, IsField, is_uri_byte, IsToken, LineEnd, lf, print_blank, RequestHead, IsRequestHead, print_request, ReadsRequest, MayBecomeRequest, EndsInTarget}
use Rattle.httparse.proofs.GrammarLemmas.{print_request-append}
use Rattle.st_http.specs.Head.{window, hopeless, HasReading}

-- of two fronts of one text, one begins with the other
pub fronts : (a b c d : List ℕ) → a ++ b ≡ c ++ d
    → ((e : List ℕ) × (a ++ e ≡ c)) ⊎ ((e : List ℕ) × (c ++ e ≡ a) × (d ≡ e ++ b))
fronts [] b c d same = inl (c, refl)
fronts (x ∷ a) b [] d same = inr (x ∷ a, refl, sym same)
fronts (x ∷ a) b (y ∷ c) d same = elim (fronts a b c d (cc)) [
  | inl (e, f) ↦ inl (e, cc)
  | inr (e, f, g) ↦ inr (e, cc, g)
]

-- what follows goes behind a front
take_grows : (n : ℕ) (xs ys : List ℕ) → (w : List ℕ) × (take n (xs ++ ys) ≡ take n xs ++ w)
take_grows zero xs ys = ([], refl)
take_grows (suc n) [] ys = (take (suc n) ys, refl)
take_grows (suc n) (x ∷ xs) ys = let more = take_grows n xs ys in (more.0, cc)

pub window_grows : (text after : List ℕ) → (w : List ℕ) × (window (text ++ after) ≡ window text ++ w)
unfolding window
window_grows text after = take_grows 8192 text after

pub window_full : (text after : List ℕ) → 8192 ≤ length text → window (text ++ after) ≡ window text
unfolding window
window_full text after full = take-append-le 8192 text after full

pub window_short : (text : List ℕ) → length (window text) ≤ 8192
unfolding window
window_short text = omega (arith, length-take 8192 text)

pub window-length : (text : List ℕ) → length (window text) ≤ length text
unfolding window
window-length text = omega (arith, length-take 8192 text)

-- a head that begins as the text does is there, or may come
whole_or_open : (text after rest : List ℕ) (h : RequestHead) → ReadsRequest (text ++ after) h rest
    → ((r : List ℕ) × ReadsRequest text h r) ⊎ MayBecomeRequest text
whole_or_open text after rest h reads = elim (fronts text after (print_request h) rest reads.1) [
  | inl (e, f) ↦ inr (inl (e, h, (reads.0, f ∙ sym (append-nil (print_request h)))))
  | inr (e, f, g) ↦ inl (e, (reads.0, sym f))
]

-- the shortest head of a method, and what of it follows the method's space
least : List LineEnd → List ℕ → RequestHead
least blank method = record { blank = blank; method = method; target = codes "/"; minor = 1; line_end = lf; fields = []; last = lf }

abbrev least_end : List ℕ
least_end = codes "/ HTTP/1.1" ++ 10 ∷ 10 ∷ []

slash_is_ascii : IsAscii (codes "/")
slash_is_ascii = IsAscii-cons 47 [] (lit< tt) IsAscii-nil

is_least : (blank : List LineEnd) (method : List ℕ) → IsToken method → IsRequestHead (least blank method)
unfolding least
is_least blank method token = record {
  method = token;
  target = (lit< tt, All-cons (λ v. is_uri_byte v ≡ true) 47 [] refl (All-nil (λ v. is_uri_byte v ≡ true)));
  target_text = IsUtf8-from_ascii (codes "/") slash_is_ascii;
  minor = lit≤ tt;
  fields = All-nil IsField;
}

print-least : (blank : List LineEnd) (method : List ℕ)
    → print_request (least blank method) ++ [] ≡ print_blank blank ++ (method ++ 32 ∷ least_end)
unfolding least
print-least blank method = print_request-append (least blank method) []

regroup : (a b c d e : List ℕ) → a ++ d ≡ (b ++ c) ++ 32 ∷ [] → a ++ (d ++ e) ≡ b ++ (c ++ 32 ∷ e)
regroup a b c d e same =
    sym (append_assoc a d e) ∙ ap (λ (t : List ℕ). t ++ e) same ∙ append_assoc (b ++ c) (32 ∷ []) e ∙ append_assoc b c (32 ∷ e)

-- a text that goes on to end inside a target may become a head, or ends inside one
pub target_open : (text after : List ℕ) → EndsInTarget (text ++ after) → MayBecomeRequest text
target_open text after (blank, method, target, token, all, e) =
    elim (fronts text after (print_blank blank ++ method ++ 32 ∷ []) target (e ∙ sym (append_assoc (print_blank blank ++ method) (32 ∷ []) target))) [
      | inl (m, f) ↦ inl (
        m ++ least_end,
        least blank method,
        (
          is_least blank method token,
          regroup text (print_blank blank) method m least_end f ∙ sym (print-least blank method),
        ),
      )
      | inr (d, f, g) ↦ inr (blank, method, d, token, front_passes d after (subst (AllPass is_uri_byte) g all), sym f ∙ append_assoc (print_blank blank ++ method) (32 ∷ []) d)
    ]
  where
    front_passes : (d r : List ℕ) → AllPass is_uri_byte (d ++ r) → AllPass is_uri_byte d
    front_passes d r both =
        subst (AllPass is_uri_byte) (take-append_seam d r) (All-take (λ v. is_uri_byte v ≡ true) (length d) (d ++ r) both)

-- a hopeless text stays so
pub hopeless_stays : (text after : List ℕ) → HasReading text hopeless → HasReading (text ++ after) hopeless
hopeless_stays text after (none, never) = (
  λ h rest reads. elim (whole_or_open text after rest h reads) [ inl (r, there) ↦ none h r there | inr may ↦ never may ],
  λ may. elim may [
    | inl (front, h, reads) ↦
        elim (whole_or_open text (after ++ front) [] h (subst (λ (t : List ℕ). ReadsRequest t h []) (append_assoc text after front) reads))
        [ inl (r, there) ↦ none h r there | inr may_be ↦ never may_be ]
    | inr ends ↦ never (target_open text after ends)
  ],
)
