-- A page as it is filled.
use Rattle.std.proofs.Common.{◌≡◌, ℕ, ◌<◌, ◌≤◌, ◌&&◌, List, [], ◌∷◌, ◌++◌, length, filter, Bool, true, false, take, refl, sym, ap, ◌∙◌, arith, append_assoc, append-nil, length-append}
use Rattle.std.proofs.lemmas.Bool.{lt-ltb, le-ltb}
use Rattle.std.proofs.lemmas.List.{take_all, take-append-le}
use Rattle.st_label.specs.Reading.{is_true}
use Rattle.st_text.specs.Texts.{Text, is_among}
use Rattle.std.specs.Prelude.{Result, Ok, Err, IfOk, IfErr, nat_lt}
use Rattle.st_scan.proofs.Visible.{keep, omit}

both : (s t : Bool) → true ≡ s → true ≡ t → s && t ≡ true
both true true a b = refl
both true false a b = cc
both false t a b = cc

-- a row that is past the place, and whose label was found true
pub shown_so : (past : Bool) (verdicts auths : List Text) (label own : Text) → true ≡ past → true ≡ is_true (is_among verdicts) label → label ≡ own → verdicts ≡ auths
    → past && is_true (is_among auths) own ≡ true
shown_so past verdicts auths label own after held same set =
    both past (is_true (is_among auths) own) after (held ∙ ap (λ l. is_true (is_among verdicts) l) same ∙ ap (λ names. is_true (is_among names) own) set)

pub one_fewer : {X : Type 0} (left rest : List X) (x : X) → left ≡ x ∷ rest → length rest < length left
one_fewer left rest x is = omega (arith, ap length is)

-- the rows of the page so far, and those that may follow, are all that are to be shown
pub record Fills {X : Type 0} (p : X → Bool) (limit : ℕ) (rows left all : List X) : Type 0 where
  pub is : rows ++ filter p left ≡ all
  pub few : length rows ≤ limit

module _ {X : Type 0} (p : X → Bool) (limit : ℕ) where
  pub fill_skip : (rows left all : List X) (x : X) → Fills p limit rows (x ∷ left) all → p x ≡ false → Fills p limit rows left all
  fill_skip rows left all x f out = record { is = ap (λ ys. rows ++ ys) (sym (omit p x left out)) ∙ f.is; few = f.few }

  pub fill_push : (rows left all : List X) (x : X) → Fills p limit rows (x ∷ left) all → p x ≡ true → (length rows ≡ limit → ⊥) → Fills p limit (rows ++ x ∷ []) left all
  fill_push rows left all x f shown room = record {
    is = append_assoc rows (x ∷ []) (filter p left) ∙ ap (λ ys. rows ++ ys) (sym (keep p x left shown)) ∙ f.is;
    few = omega (arith, length-append rows (x ∷ []), f.few, room);
  }

  -- all that are to be shown, where one more is
  whole_more : (rows left all : List X) (x : X) → Fills p limit rows (x ∷ left) all → p x ≡ true → all ≡ rows ++ x ∷ filter p left
  whole_more rows left all x f shown = sym f.is ∙ ap (λ ys. rows ++ ys) (keep p x left shown)

  pub rows_more : (rows left all : List X) (x : X) → Fills p limit rows (x ∷ left) all → p x ≡ true → length rows ≡ limit
      → rows ≡ take limit all
  rows_more rows left all x f shown full =
      let some : limit ≤ length rows = omega (arith, full) in
      sym (ap (take limit) (whole_more rows left all x f shown) ∙ take-append-le limit rows (x ∷ filter p left) some
      ∙ take_all limit rows (omega (arith, full)))

  pub more_more : (rows left all : List X) (x : X) → Fills p limit rows (x ∷ left) all → p x ≡ true → length rows ≡ limit
      → true ≡ nat_lt limit (length all)
  more_more rows left all x f shown full =
      let count = ap length (whole_more rows left all x f shown) ∙ length-append rows (x ∷ filter p left) in
      sym (lt-ltb limit (length all) (omega (arith, count, full)))

  -- and where none is left
  whole_end : (rows all : List X) → Fills p limit rows [] all → all ≡ rows
  whole_end rows all f = sym f.is ∙ append-nil rows

  few_end : (rows all : List X) → Fills p limit rows [] all → length all ≤ limit
  few_end rows all f = omega (arith, ap length (whole_end rows all f), f.few)

  pub rows_end : (rows all : List X) → Fills p limit rows [] all → rows ≡ take limit all
  rows_end rows all f = sym (take_all limit all (few_end rows all f) ∙ whole_end rows all f)

  pub more_end : (rows all : List X) → Fills p limit rows [] all → false ≡ nat_lt limit (length all)
  more_end rows all f = sym (le-ltb limit (length all) (few_end rows all f))

pub if_ok : {T E : Type 0} (P Q : T → Type 0) (r : Result T E) → ((x : T) → P x → Q x) → IfOk r P → IfOk r Q
if_ok P Q (Ok x) h p = h x p
if_ok P Q (Err e) h p = p

pub if_err : {T E : Type 0} (P Q : E → Type 0) (r : Result T E) → ((e : E) → P e → Q e) → IfErr r P → IfErr r Q
if_err P Q (Ok x) h p = p
if_err P Q (Err e) h p = h e p
