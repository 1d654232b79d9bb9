-- One item, answered.
use Rattle.std.proofs.Common.{◌≡◌, ℕ, ◌^◌, ◌<◌, ◌≤◌, ◌⊎◌, Bool, true, false, Option, Ok, Err, List, ◌++◌, length, drop, refl, sym, ap, ◌∙◌, subst, arith, length-append}
use Rattle.httparse.specs.Grammar.{RequestHead}
use Rattle.st_http.specs.declared.message.Take.TheVariants as takes
use Rattle.st_http.specs.declared.message.Message.{Message}
use Rattle.st_http.specs.declared.message.Fault.{Fault}
use Rattle.st_http.specs.declared.message.Take.{Take}
use Rattle.st_http.specs.Message.{RepresentsMessage}
use Rattle.st_http.specs.inner.Takes.{Takes, Represents}
use Rattle.st_http.specs.First.{First, message, fault, more, IsFirst, expects, size_of}
use Rattle.st_http.specs.Items.{after_item}
use Rattle.st_http.proofs.FirstLemmas.{first_unique}
use Rattle.st_http.proofs.ItemLemmas.{message_size}
use Rattle.st_connection.specs.Connection.{WithInterim}
use Rattle.st_connection.specs.Render.{continue_text, interim}
use Rattle.st_connection.specs.inner.Stages.{One, Passed, Stands, AnsweredNext}
use Rattle.st_connection.specs.declared.sending.Stopped.{Stopped}
use Rattle.st_connection.specs.declared.connection.Next.{Next}
use Rattle.st_connection.specs.declared.connection.Next.TheVariants as nexts

-- the message that stands first in a text
pub record FindsMessage (text : List ℕ) (m : Message) (used : ℕ) : Type 0 where
  pub head : RequestHead
  pub body : List ℕ
  pub is : IsFirst text (message head body m.bare)
  pub represents : RepresentsMessage head body m.bare m
  pub used_is : used ≡ size_of head body

finds_message : (text : List ℕ) (m : Message) (used : ℕ) → Takes text (takes.Message m used) → FindsMessage text m used
finds_message text m used (message h body bare, first, represents) = record {
  head = h;
  body = body;
  is = subst (λ (b : Bool). IsFirst text (message h body b)) (sym represents.0.bare_is) first;
  represents = subst (λ (b : Bool). RepresentsMessage h body b m) (sym represents.0.bare_is) represents.0;
  used_is = represents.1;
}
finds_message text m used (fault reason bare, first, represents) = absurd represents
finds_message text m used (more waits, first, represents) = absurd represents

pub finds_fault : (text : List ℕ) (f : Fault) → Takes text (takes.Fault f) → IsFirst text (fault f.reason f.bare)
finds_fault text f (message h body bare, first, represents) = absurd represents
finds_fault text f (fault reason bare, first, represents) =
    let same : fault reason bare ≡ fault f.reason f.bare = cc in subst (λ (i : First). IsFirst text i) same first
finds_fault text f (more waits, first, represents) = absurd represents

pub finds_more : (text : List ℕ) (waits : Bool) → Takes text (takes.More waits) → IsFirst text (more waits)
finds_more text waits (message h body bare, first, represents) = absurd represents
finds_more text waits (fault reason bare, first, represents) = absurd represents
finds_more text waits (more flag, first, represents) = subst (λ (b : Bool). IsFirst text (more b)) (sym represents) first

-- ---- whether its client is told ahead

pub told_so : (text : List ℕ) (taken : Take) (flag told : Bool) → Takes text taken → ((first : First) → Represents first taken → flag ≡ expects first)
    → flag ≡ told → (item : First) → IsFirst text item → expects item ≡ told
told_so text taken flag told (first, is, represents) says e item other = ap expects (first_unique text item first other is) ∙ sym (says first represents) ∙ e

pub stands_due : (text : List ℕ) (taken : Take) (flag : Bool) → Takes text taken → ((first : First) → Represents first taken → flag ≡ expects first)
    → flag ≡ true → Stands false true text
stands_due text taken flag (first, is, represents) says e = (first, is, sym (says first represents) ∙ e)

pub waits_so : (text : List ℕ) (waits told : Bool) → Takes text (takes.More waits) → ((item : First) → IsFirst text item → expects item ≡ told)
    → IsFirst text (more told)
waits_so text waits told t expected =
    let m = finds_more text waits t in subst (λ (b : Bool). IsFirst text (more b)) (expected (more waits) m) m

-- ---- its answer

pub interim_few : (due : Bool) → length (interim due) ≤ 25
interim_few true = let n : length continue_text ≡ 25 = refl in omega (arith, n)
interim_few false = omega arith

module _ {S : Type 0} (step : S → First → List ℕ → S → Type 0) (old new : S) (text answer : List ℕ) (fits : length answer < 2 ^ 64) (told : Bool)
    (expected : (item : First) → IsFirst text item → expects item ≡ told) where
  fits_behind : length (interim told ++ answer) < 2 ^ 65
  fits_behind = let n = interim_few told in omega (arith, fits, n, length-append (interim told) answer)

  stepped_so : (item : First) → IsFirst text item → step old item answer new → WithInterim step old item (interim told ++ answer) new
  stepped_so item is stepped = (answer, ap (λ (b : Bool). interim b ++ answer) (sym (expected item is)), stepped)

  module _ (m : Message) (used : ℕ) (takes : Takes text (takes.Message m used))
      (replied : (h : RequestHead) (body : List ℕ) (bare : Bool) → RepresentsMessage h body bare m → step old (message h body bare) answer new) where
    pub message_one : (rest : List ℕ) × One (WithInterim step) m.close old new text rest (interim told ++ answer)
    message_one =
        let f = finds_message text m used takes in (
          after_item text (message f.head f.body m.bare),
          record {
            item = message f.head f.body m.bare;
            is = f.is;
            some = tt;
            closing = sym f.represents.close;
            rest_is = refl;
            stepped = stepped_so _ f.is (replied f.head f.body m.bare f.represents);
            fits = fits_behind;
          },
        )

    pub message_stays : m.close ≡ false → (0 < used) × (used ≤ length text) × One (WithInterim step) false old new text (drop used text) (interim told ++ answer)
    message_stays stays =
        let f = finds_message text m used takes in
        let size = message_size text f.head f.body m.bare f.is in (
          omega (arith, size.0, f.used_is),
          omega (arith, size.1, f.used_is),
          record {
            item = message f.head f.body m.bare;
            is = f.is;
            some = tt;
            closing = sym f.represents.close ∙ stays;
            rest_is = ap (λ (n : ℕ). drop n text) f.used_is;
            stepped = stepped_so _ f.is (replied f.head f.body m.bare f.represents);
            fits = fits_behind;
          },
        )

  pub fault_one : (f : Fault) → Takes text (takes.Fault f) → step old (fault f.reason f.bare) answer new → One (WithInterim step) true old new text text (interim told ++ answer)
  fault_one f takes stepped = record {
    item = fault f.reason f.bare;
    is = finds_fault text f takes;
    some = tt;
    closing = refl;
    rest_is = refl;
    stepped = stepped_so _ (finds_fault text f takes) stepped;
    fits = fits_behind;
  }

-- ---- what became of its answer, where that changed no state

module _ {S : Type 0} (step : S → First → List ℕ → S → Type 0) (old mid new kept_old kept kept_new : S) (now : new ≡ mid) (text : List ℕ)
    (ho hn : Option (List ℕ)) (wo wn : ℕ) (held back answer rest : List ℕ) (which : (kept ≡ kept_old) ⊎ (kept ≡ mid)) where
  pub next_stops : (closed : Bool) → One step closed old mid text rest answer → (why : Stopped) → Passed mid kept kept_new ho hn wo wn (held ++ answer) back (Err why)
      → AnsweredNext step false old new kept_old kept_new text ho hn wo wn held back (Err why)
  next_stops closed one why passed =
      subst (λ (s : S). AnsweredNext step false old s kept_old kept_new text ho hn wo wn held back (Err why)) (sym now) (answer, kept, rest, closed, one, which, passed)

  next_so : (found next : Next) → found ≡ next → AnsweredNext step false old mid kept_old kept_new text ho hn wo wn held back (Ok next)
      → AnsweredNext step false old new kept_old kept_new text ho hn wo wn held back (Ok found)
  next_so found next is answered =
      subst (λ (s : S). AnsweredNext step false old s kept_old kept_new text ho hn wo wn held back (Ok found)) (sym now)
      (subst (λ (n : Next). AnsweredNext step false old mid kept_old kept_new text ho hn wo wn held back (Ok n)) (sym is) answered)

  pub next_closed : (found : Next) → found ≡ nexts.Closed → One step true old mid text rest answer
      → Passed mid kept kept_new ho hn wo wn (held ++ answer) back (Ok tt) → AnsweredNext step false old new kept_old kept_new text ho hn wo wn held back (Ok found)
  next_closed found is one passed = next_so found nexts.Closed is (answer, kept, rest, one, which, passed)

  pub next_open : (found : Next) (used : ℕ) → found ≡ nexts.Open used → (0 < used) × (used ≤ length text)
      × One step false old mid text (drop used text) answer → Passed mid kept kept_new ho hn wo wn (held ++ answer) back (Ok tt)
      → AnsweredNext step false old new kept_old kept_new text ho hn wo wn held back (Ok found)
  next_open found used is (some, within, one) passed = next_so found (nexts.Open used) is (answer, kept, some, within, one, which, passed)
