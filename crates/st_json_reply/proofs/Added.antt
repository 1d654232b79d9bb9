-- Writes, one after another.
use Rattle.std.proofs.Common.{◌≡◌, ℕ, ◌+◌, ◌<◌, ◌≤◌, List, [], ◌∷◌, ◌++◌, length, map, take, get_or, refl, sym, ap, ◌∙◌, subst, append_assoc, append-nil}
use Rattle.std.proofs.lemmas.List.{take_more, map-append, take_all}
use Rattle.std.proofs.Common.{Result, Ok, Err, OnOk}
use Rattle.json.specs.Token.{Token, key, begin_array, end_array}
use Rattle.json.specs.Tree.{items_tokens}
use Rattle.json.specs.Print.{print}
use Rattle.json.specs.Written.{Written, Writes}
use Rattle.serde_json.specs.Data.{Data}
use Rattle.serde_json.specs.View.{items_of}
use Rattle.serde_json.specs.Written.{compact_text, items_outline}
use Rattle.serde_json.proofs.Texts.{print-outline}
use Rattle.st_json_reply.specs.inner.Adds.{tokens_of, Adds}
use Rattle.st_json_reply.specs.Replies.{list}

pub added : (a b : Written) (ts : List Token) → b.before ≡ a.before → b.tokens ≡ a.tokens ++ ts → Adds a b ts
added a b ts before tokens = record { before = before; tokens = tokens }

pub added_then : (a b c : Written) (ts us : List Token) → Adds a b ts → Adds b c us → Adds a c (ts ++ us)
added_then a b c ts us one two = record { before = two.before ∙ one.before; tokens = two.tokens ∙ ap (λ s. s ++ us) one.tokens ∙ append_assoc a.tokens ts us }

pub last_token : {E : Type 0} (r : Result (Unit {0}) E) (a b c : Written) (ts us : List Token) (t : Token) → Adds a b ts → Writes r b c t → ts ++ t ∷ [] ≡ us → OnOk r (Adds a c us)
last_token (Ok u) a b c ts us t one two is =
    record {
      before = two.room.0 ∙ one.before;
      tokens = two.ok ∙ ap (λ s. s ++ t ∷ []) one.tokens ∙ append_assoc a.tokens ts (t ∷ []) ∙ ap (λ s. a.tokens ++ s) is;
    }
last_token (Err e) a b c ts us t one two is = tt

pub then_adds : {E : Type 0} (r : Result (Unit {0}) E) (a b c : Written) (ts us : List Token) → Adds a b ts → OnOk r (Adds b c us) → OnOk r (Adds a c (ts ++ us))
then_adds (Ok u) a b c ts us one two = added_then a b c ts us one two
then_adds (Err e) a b c ts us one two = tt

-- the whole text of a writer that began with nothing behind some text
pub whole_text : (start new : Written) (d : Data) → start.tokens ≡ [] → Adds start new (tokens_of d) → new.before ++ print new.tokens ≡ start.before ++ compact_text d
whole_text start new d no_token added =
    let tokens : new.tokens ≡ tokens_of d = added.tokens ∙ ap (λ ts. ts ++ tokens_of d) no_token in
    ap (λ s. s ++ print new.tokens) added.before ∙ ap (λ ts. start.before ++ print ts) tokens ∙ ap (λ s. start.before ++ s) (print-outline d)

-- ---- lists

-- the tokens of items, without the closing bracket
abbrev pub item_tokens : List Data → List Token
item_tokens [] = []
item_tokens (d ∷ ds) = tokens_of d ++ item_tokens ds

item_tokens_append : (ds es : List Data) → item_tokens (ds ++ es) ≡ item_tokens ds ++ item_tokens es
item_tokens_append [] es = refl
item_tokens_append (d ∷ ds) es = ap (λ s. tokens_of d ++ s) (item_tokens_append ds es) ∙ sym (append_assoc (tokens_of d) (item_tokens ds) (item_tokens es))

-- with the bracket, they are the list's
list_tokens : (ds : List Data) → item_tokens ds ++ end_array ∷ [] ≡ items_tokens (items_outline (items_of ds))
list_tokens [] = refl
list_tokens (d ∷ ds) = append_assoc (tokens_of d) (item_tokens ds) (end_array ∷ []) ∙ ap (λ s. tokens_of d ++ s) (list_tokens ds)

item_tokens_take : {T : Type 0} (f : T → Data) (xs : List T) (i : ℕ) (x : T) → i < length xs → x ≡ get_or xs i x
    → item_tokens (map f (take (i + 1) xs)) ≡ item_tokens (map f (take i xs)) ++ tokens_of (f x)
item_tokens_take f xs i x inside is =
    let all : map f (take (i + 1) xs) ≡ map f (take i xs) ++ f x ∷ [] =
    ap (map f) (take_more xs i x inside) ∙ map-append f (take i xs) (get_or xs i x ∷ []) ∙ ap (λ y. map f (take i xs) ++ f y ∷ []) (sym is) in
    ap item_tokens all ∙ item_tokens_append (map f (take i xs)) (f x ∷ []) ∙ ap (λ s. item_tokens (map f (take i xs)) ++ s) (append-nil (tokens_of (f x)))

-- a key, the opening bracket, and the first items
abbrev pub ListBegun : {T : Type 0} → List ℕ → (T → Data) → List T → ℕ → Written → Written → Type 0
ListBegun name f xs i a b = Adds a b (key name ∷ begin_array ∷ item_tokens (map f (take i xs)))

-- one more item
pub added_item : {T : Type 0} (name : List ℕ) (f : T → Data) (xs : List T) (i : ℕ) (x : T) (a b c : Written) → i < length xs → x ≡ get_or xs i x
    → ListBegun name f xs i a b → Adds b c (tokens_of (f x))
    → ListBegun name f xs (i + 1) a c
added_item name f xs i x a b c inside is one two =
    subst (λ s. Adds a c (key name ∷ begin_array ∷ s)) (sym (item_tokens_take f xs i x inside is))
    (added_then a b c (key name ∷ begin_array ∷ item_tokens (map f (take i xs))) (tokens_of (f x)) one two)

-- the last item, and the bracket
pub added_list : {T E : Type 0} (name : List ℕ) (f : T → Data) (xs : List T) (i : ℕ) (r : Result (Unit {0}) E) (a b c : Written) → length xs ≤ i → ListBegun name f xs i a b → Writes r b c end_array
    → OnOk r (Adds a c (key name ∷ tokens_of (list (map f xs))))
added_list name f xs i r a b c past one two =
    last_token r a b c (key name ∷ begin_array ∷ item_tokens (map f (take i xs))) _ end_array one two
    (ap (λ s. key name ∷ begin_array ∷ s) (ap (λ ys. item_tokens (map f ys) ++ end_array ∷ []) (take_all i xs past) ∙ list_tokens (map f xs)))

-- a last token, behind what was written
pub then_last : {E : Type 0} (r : Result (Unit {0}) E) (a b c : Written) (us : List Token) (t : Token) → (Adds b c (t ∷ []) → Adds a c us) → Writes r b c t → OnOk r (Adds a c us)
then_last (Ok u) a b c us t all one = all (record { before = one.room.0; tokens = one.ok })
then_last (Err e) a b c us t all one = tt
