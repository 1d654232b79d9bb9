-- The items at the front of a text, and how they stay under more bytes.
use Rattle.std.proofs.Common.{◌≡◌, ◌∙◌, ℕ, ◌+◌, ◌<◌, ◌≤◌, Bool, true, false, List, [], ◌∷◌, ◌++◌, length, refl, sym, ap, subst, arith, length-drop}
use Rattle.std.proofs.lemmas.List.{drop-append-le}
use Rattle.std.proofs.lemmas.List.Folds.{list_any-append}
use Rattle.std.proofs.lemmas.Grind.{common_steps}
use Rattle.st_http.specs.First.{First, IsItem, message, fault, more, IsFirst, size_of}
use Rattle.st_http.specs.Items.{Items, none, last, next, after_item, closes}
use Rattle.st_http.proofs.FirstLemmas.{first_unique, first_kept}
use Rattle.st_http.proofs.ItemLemmas.{message_size}
use Rattle.st_connection.specs.Items.{is_closed, BeginsWith}

-- what follows a text follows what its item leaves
after_grows : (text after : List ℕ) (item : First) → IsFirst text item → IsItem item → closes item ≡ false
    → after_item (text ++ after) item ≡ after_item text item ++ after
after_grows text after (message h body bare) is some stays = drop-append-le (size_of h body) text after (message_size text h body bare is).1
after_grows text after (fault reason bare) is some stays = cc
after_grows text after (more waits) is some stays = absurd some

-- an item after which the connection stays takes a byte at least
after_shorter : (text : List ℕ) (item : First) → IsFirst text item → IsItem item → closes item ≡ false
    → length (after_item text item) < length text
after_shorter text (message h body bare) is some stays =
    let l = message_size text h body bare is in omega (arith, l.0, l.1, length-drop (size_of h body) text)
after_shorter text (fault reason bare) is some stays = cc
after_shorter text (more waits) is some stays = absurd some

first_open : (item : First) (items : List First) → is_closed (item ∷ items) ≡ false → closes item ≡ false
first_open item items h = grind (arith, common_steps, h)

rest_open : (item : First) (items : List First) → is_closed (item ∷ items) ≡ false → is_closed items ≡ false
rest_open item items h = grind (arith, common_steps, h)

pub closed_one : (item : First) → is_closed (item ∷ []) ≡ closes item
closed_one item = grind (arith, common_steps)

pub closed_join : (items others : List First) → is_closed items ≡ false → is_closed (items ++ others) ≡ is_closed others
closed_join items others o = grind (arith, common_steps, list_any-append closes items others, o)

pub begins_none : (text : List ℕ) → BeginsWith text [] text
unfolding BeginsWith
begins_none text = refl

pub begins_one : (text : List ℕ) (item : First) → IsFirst text item → IsItem item → BeginsWith text (item ∷ []) (after_item text item)
unfolding BeginsWith
begins_one text item is some = (is, some, (λ closing. refl), refl)

pub begins_grows : (text : List ℕ) (items : List First) (rest after : List ℕ) → BeginsWith text items rest → is_closed items ≡ false
    → BeginsWith (text ++ after) items (rest ++ after)
unfolding BeginsWith
begins_grows text [] rest after b o = ap (λ (t : List ℕ). t ++ after) b
begins_grows text (item ∷ items) rest after (is, some, ends, later) o =
    let tail = begins_grows (after_item text item) items rest after later (rest_open item items o) in
    let grows = after_grows text after item is some (first_open item items o) in
    (first_kept text after item some is, some, ends, subst (λ (t : List ℕ). BeginsWith t items (rest ++ after)) (sym grows) tail)

pub begins_join : (text : List ℕ) (items : List First) (rest : List ℕ) (others : List First) (end : List ℕ) → BeginsWith text items rest
    → is_closed items ≡ false → BeginsWith rest others end → BeginsWith text (items ++ others) end
unfolding BeginsWith
begins_join text [] rest others end b o c = subst (λ (t : List ℕ). BeginsWith t others end) b c
begins_join text (item ∷ items) rest others end (is, some, ends, later) o c =
    let stays = first_open item items o in
    (is, some, (λ closing. absurd (let e : closes item ≡ false = stays in cc)), begins_join (after_item text item) items rest others end later (rest_open item items o) c)

-- each item after which the connection stays takes a byte at least
pub few_items : (text : List ℕ) (items : List First) (rest : List ℕ) → BeginsWith text items rest → is_closed items ≡ false
    → length items + length rest ≤ length text
unfolding BeginsWith
few_items text [] rest b o = omega (arith, ap length b)
few_items text (item ∷ items) rest (is, some, ends, later) o =
    let tail = few_items (after_item text item) items rest later (rest_open item items o) in
    let shorter = after_shorter text item is some (first_open item items o) in omega (arith, tail, shorter)

item_whole : (text : List ℕ) (item : First) (items : List First) (rest : List ℕ) → IsFirst text item → IsItem item
    → (closes item ≡ true → items ≡ []) → BeginsWith (after_item text item) items rest
    → (closes item ≡ false → Items (after_item text item) items rest) → Items text (item ∷ items) rest
unfolding BeginsWith
item_whole text item items rest is some ends later others = go (closes item) refl
  where
    single : (after : List First) → after ≡ [] → BeginsWith (after_item text item) after rest → closes item ≡ true → Items text (item ∷ after) rest
    single [] e b closing = subst (λ (t : List ℕ). Items text (item ∷ []) t) (sym b) (last is some closing)
    single (other ∷ after) e b closing = cc

    go : (t : Bool) → closes item ≡ t → Items text (item ∷ items) rest
    go true e = single items (ends e) later e
    go false e = next is e (others e)

open_after : (item : First) (items : List First) → closes item ≡ false → is_closed items ≡ false → is_closed (item ∷ items) ≡ false
open_after item items a b = grind (arith, common_steps, a, b)

-- a text that begins with items has these and no more, where one closes or nothing whole follows
pub items_whole : (text : List ℕ) (items : List First) (rest : List ℕ) → BeginsWith text items rest
    → (waits : Bool) → (is_closed items ≡ false → IsFirst rest (more waits)) → Items text items rest
unfolding BeginsWith
items_whole text [] rest b flag waits = subst (λ (t : List ℕ). Items t [] rest) b (none (waits refl))
items_whole text (item ∷ items) rest (is, some, ends, later) flag waits =
    item_whole text item items rest is some ends later
    (λ stays. items_whole (after_item text item) items rest later flag (λ o. waits (open_after item items stays o)))

-- an item that closes is the last
ends_there : (item only : First) (items : List First) → item ≡ only → closes only ≡ true → (closes item ≡ true → items ≡ [])
    → (others : List First) × (only ∷ [] ≡ (item ∷ items) ++ others)
ends_there item only items e closing ends =
    let n : items ≡ [] = ends (ap closes e ∙ closing) in ([], ap (λ (i : First). i ∷ []) (sym e) ∙ ap (λ (l : List First). item ∷ (l ++ [])) (sym n))

front_of : {text : List ℕ} {all : List First} {end : List ℕ} → Items text all end → (items : List First) (rest : List ℕ) → BeginsWith text items rest
    → (others : List First) × (all ≡ items ++ others)
unfolding BeginsWith
front_of {text} {all} {end} q [] rest b = (all, refl)
front_of (none {text} {waits} f) (item ∷ items) rest (is, some, ends, later) = absurd (subst IsItem (first_unique text item (more waits) is f) some)
front_of (last {text} {item = only} f some_too closing) (item ∷ items) rest (is, some, ends, later) =
    ends_there item only items (first_unique text item only is f) closing ends
front_of (next {text} {item = only} {items = tail_items} f stays tail) (item ∷ items) rest (is, some, ends, later) =
    let e : item ≡ only = first_unique text item only is f in
    let tail_begins : BeginsWith (after_item text only) items rest = subst (λ (i : First). BeginsWith (after_item text i) items rest) e later in
    let r = front_of {text = after_item text only} tail items rest tail_begins in
    (r.0, ap (λ (i : First). i ∷ tail_items) (sym e) ∙ ap (λ (l : List First). item ∷ l) r.1)

pub begins_front : (text : List ℕ) (items all : List First) (rest end : List ℕ) → BeginsWith text items rest → Items text all end
    → (others : List First) × (all ≡ items ++ others)
begins_front text items all rest end b q = front_of q items rest b
