-- Clients that are told ahead that a body is awaited.
use Rattle.std.proofs.Common.{◌≡◌, ◌∙◌, ◌⊎◌, inl, inr, ℕ, ◌+◌, ◌-◌, ◌*◌, ◌^◌, ◌≤◌, ◌<◌, if◌then◌else◌, Bool, true, false, Option, Ok, Err, List, []}
use Rattle.std.proofs.Common.{◌∷◌, ◌++◌, length, drop, refl, sym, ap, subst, arith, append_assoc, append-nil, length-append}
use Rattle.std.specs.List.{concat}
use Rattle.std.specs.Io.KnownBytes.{Appends}
use Rattle.std.proofs.KnownBytes.{Appends-nil, Appends-trans}
use Rattle.st_http.specs.First.{First, IsFirst, more, expects}
use Rattle.st_connection.specs.Items.{BeginsWith}
use Rattle.st_connection.specs.Connection.{Amid, Run}
use Rattle.st_connection.specs.Render.{continue_text, interim}
use Rattle.st_connection.specs.inner.Stages.{Whole, Broken, Loses, Spoken, One, Sent, Stands, Answered, AnsweredExpecting, AnsweredOn, AnsweredText, Passed}
use Rattle.st_connection.specs.declared.sending.Stopped.{Stopped}
use Rattle.st_connection.specs.declared.sending.Stopped.TheVariants as stopped
use Rattle.st_connection.specs.declared.connection.Next.{Next}
use Rattle.st_connection.specs.declared.connection.Next.TheVariants as nexts
use Rattle.st_connection.specs.declared.connection.Stop.{Stop}
use Rattle.st_connection.specs.declared.connection.Stop.TheVariants as stops
use Rattle.st_http.proofs.FirstLemmas.{first_unique}
use Rattle.st_connection.proofs.Reading.{begins_one, few_items}
use Rattle.st_connection.proofs.Steps.{interim_few}
use Rattle.st_connection.proofs.Joins.{whole_none, whole_join, spoken_join}
use Rattle.st_connection.proofs.Blocks.{Gathered, gathered_none, gathered_one, gathered_out, gathered_breaks, flushed, amid_all, broken_join, loses_join, all_but_most}
use Rattle.st_connection.proofs.Passes.{piece, piece_is, piece_length, drop_again, whole_stays}

-- ---- the first item, whose client was told ahead

module _ {S : Type 0} (step : S → First → List ℕ → S → Type 0) (hold : ℕ) (old : S) (text : List ℕ) (held ho : Option (List ℕ)) (before wo : ℕ)
    (told : Bool) (wrote : Appends held ho (interim told)) (counted : wo ≡ before + length (interim told)) where
  pub told_none : told ≡ false → (kept : S) → AnsweredExpecting step hold told old old kept text held ho before wo (Ok (nexts.Open 0))
  told_none e kept = (
    omega arith,
    (λ t. absurd (let k : true ≡ false = sym t ∙ e in cc)),
    whole_stays step false old old text text held held before before (whole_none step old text held before) ho wo (interim told) (ap interim e) wrote counted,
  )

  pub told_waits : told ≡ true → IsFirst text (more true) → (kept : S) (due : Bool) → AnsweredExpecting step hold told old old kept text held ho before wo (Ok (nexts.Waits due))
  told_waits e waits kept due = (
    waits,
    record {
      held = held;
      written = before;
      whole = whole_none step old text held before;
      wrote = subst (λ (b : Bool). Appends held ho (interim b)) e wrote;
      counted = subst (λ (b : Bool). wo ≡ before + length (interim b)) e counted;
    },
  )

  module _ (closed : Bool) (new : S) (rest answer : List ℕ) (one : One step closed old new text rest (interim told ++ answer)) (kept_old kept : S)
      (synced : kept_old ≡ old) (which : (kept ≡ kept_old) ⊎ (kept ≡ new)) (hn : Option (List ℕ)) (wn : ℕ) where
    gathered : Gathered step hold closed old new kept text rest held held before before (interim told ++ answer)
    gathered =
        gathered_one step hold old old kept_old text text held held before before []
        (gathered_none step hold old old text text held held before before [] kept_old (whole_none step old text held before) refl synced)
        (omega arith) closed new kept rest (interim told ++ answer) one which

    told_out : Appends ho hn answer → wn ≡ wo + length answer → Whole step closed old new text rest held hn before wn
    told_out out more_counted =
        gathered_out step hold closed old new kept text rest held held before before (interim told ++ answer) gathered hn wn
        (Appends-trans held ho hn (interim told) answer wrote out) (omega (arith, counted, more_counted, length-append (interim told) answer))

    told_breaks : Sent ho hn wo wn answer false → Broken step hold old new text held hn before wn
    told_breaks s =
        gathered_breaks step hold closed old new kept text rest held held before before (interim told ++ answer) gathered hn wn false
        (record {
          sent = interim told ++ s.sent;
          missing = s.missing;
          prefix = ap (λ (l : List ℕ). interim told ++ l) s.prefix ∙ sym (append_assoc (interim told) s.sent s.missing);
          whole_out = λ e. cc;
          wrote = Appends-trans held ho hn (interim told) s.sent wrote s.wrote;
          counted = omega (arith, counted, s.counted, length-append (interim told) s.sent);
        })

    run_one : Run step old (one.item ∷ []) ((interim told ++ answer) ∷ []) new
    run_one = (new, one.stepped, refl)

    amid_one : (last : S) → (last ≡ old) ⊎ (last ≡ new) → Amid step old last new (one.item ∷ []) ((interim told ++ answer) ∷ [])
    amid_one last (inl same) = record {
      first = [];
      later = one.item ∷ [];
      told = [];
      untold = (interim told ++ answer) ∷ [];
      items_are = refl;
      answers_are = refl;
      before = same;
      behind = subst (λ (s : S). Run step s (one.item ∷ []) ((interim told ++ answer) ∷ []) new) (sym same) run_one;
    }
    amid_one last (inr all) = amid_all step old new last (one.item ∷ []) ((interim told ++ answer) ∷ []) run_one all

    either : (last : S) → (last ≡ kept) ⊎ (last ≡ new) → (last ≡ old) ⊎ (last ≡ new)
    either last (inl same) = elim which [
      | inl still ↦ inl (same ∙ still ∙ synced)
      | inr all ↦ inr (same ∙ all)
    ]
    either last (inr all) = inr all

    told_loses : (expects one.item ≡ told) → Appends ho hn [] → (last : S) → (last ≡ kept) ⊎ (last ≡ new) → Loses step old new last text held hn
    told_loses expected out last is = record {
      items = one.item ∷ [];
      rest = rest;
      answers = (interim told ++ answer) ∷ [];
      sent = interim told;
      begins = subst (λ (t : List ℕ). BeginsWith text (one.item ∷ []) t) (sym one.rest_is) (begins_one text one.item one.is one.some);
      run = run_one;
      past = record {
        mid = old;
        front = record {
          done = [];
          others = one.item ∷ [];
          out = [];
          back = (interim told ++ answer) ∷ [];
          items_are = refl;
          answers_are = refl;
          said = interim told;
          hears = inr (ap interim (sym expected));
          sent_is = refl;
          run = refl;
        };
        amid = amid_one last (either last is);
      };
      wrote = subst (λ (l : List ℕ). Appends held hn l) (append-nil (interim told)) (Appends-trans held ho hn (interim told) [] wrote out);
    }

    told_stops_here : (expects one.item ≡ told) → (last : S) (back : List ℕ) (why : Stopped) → Passed new kept last ho hn wo wn answer back (Err why)
        → AnsweredExpecting step hold told old new last text held hn before wn (Err why)
    told_stops_here expected last back stopped.Unwritten s = told_breaks s
    told_stops_here expected last back stopped.Lost s = told_loses expected s.0 last s.1

    -- in the state as the code has it
    module _ (after last : S) (now : after ≡ new) where
      pub told_stops : (expects one.item ≡ told) → (back : List ℕ) (why : Stopped) → Passed new kept last ho hn wo wn answer back (Err why)
          → AnsweredExpecting step hold told old after last text held hn before wn (Err why)
      told_stops expected back why s =
          subst (λ (s : S). AnsweredExpecting step hold told old s last text held hn before wn (Err why)) (sym now) (told_stops_here expected last back why s)

      told_so : (found next : Next) → found ≡ next → AnsweredExpecting step hold told old after last text held hn before wn (Ok next)
          → AnsweredExpecting step hold told old after last text held hn before wn (Ok found)
      told_so found next is = subst (λ (n : Next). AnsweredExpecting step hold told old after last text held hn before wn (Ok n)) (sym is)

      pub told_closes : (found : Next) → found ≡ nexts.Closed → closed ≡ true → Passed new kept last ho hn wo wn answer [] (Ok tt)
          → AnsweredExpecting step hold told old after last text held hn before wn (Ok found)
      told_closes found is e passed =
          let out = flushed new kept last ho hn wo wn answer passed in
          let whole = subst (λ (b : Bool). Whole step b old new text rest held hn before wn) e (told_out out.0 out.1) in
          told_so found nexts.Closed is (rest, subst (λ (s : S). Whole step true old s text rest held hn before wn) (sym now) whole)

      pub told_opens : (found : Next) (used : ℕ) → found ≡ nexts.Open used → closed ≡ false → rest ≡ drop used text → 0 < used → used ≤ length text → Passed new kept last ho hn wo wn answer [] (Ok tt)
          → AnsweredExpecting step hold told old after last text held hn before wn (Ok found)
      told_opens found used is e rest_is some within passed =
          let out = flushed new kept last ho hn wo wn answer passed in
          let whole = subst (λ (b : Bool). Whole step b old new text rest held hn before wn) e (told_out out.0 out.1) in
          let there = subst (λ (t : List ℕ). Whole step false old new text t held hn before wn) rest_is whole in
          told_so found (nexts.Open used) is (within, (λ t. some), subst (λ (s : S). Whole step false old s text (drop used text) held hn before wn) (sym now) there)

-- ---- the word

module _ {S : Type 0} (step : S → First → List ℕ → S → Type 0) (hold : ℕ) (old new kept : S) (text : List ℕ) (ho hn : Option (List ℕ)) (wo wn : ℕ) where
  pub on_nobody : (used : ℕ) → Answered step hold old new kept text ho hn wo wn (Ok (stops.Waits used false)) → AnsweredOn step hold old new kept text ho hn wo wn (Ok (stops.Waits used false))
  on_nobody used (within, stands, whole) = (within, stands, record { held = hn; written = wn; whole = whole; wrote = Appends-nil hn; counted = omega arith })

  pub on_stops : (why : Stopped) → Answered step hold old new kept text ho hn wo wn (Err why) → AnsweredOn step hold old new kept text ho hn wo wn (Err why)
  on_stops stopped.Unwritten a = a
  on_stops stopped.Lost a = a

  module _ (used : ℕ) (a : Answered step hold old new kept text ho hn wo wn (Ok (stops.Waits used true))) (last : S) (hm : Option (List ℕ)) (wm : ℕ)
      (bytes : List ℕ) (bytes_are : bytes ≡ continue_text) where
    pub on_told : Sent hn hm wn wm bytes true → AnsweredOn step hold old new last text ho hm wo wm (Ok (stops.Waits used true))
    on_told s =
        let same : s.sent ≡ continue_text = sym (append-nil s.sent) ∙ ap (λ (l : List ℕ). s.sent ++ l) (sym (s.whole_out refl)) ∙ sym s.prefix ∙ bytes_are in (
          a.0,
          a.1,
          record {
            held = hn;
            written = wn;
            whole = a.2;
            wrote = subst (λ (l : List ℕ). Appends hn hm l) same s.wrote;
            counted = s.counted ∙ ap (λ (l : List ℕ). wn + length l) same;
          },
        )

    pub on_breaks : Sent hn hm wn wm bytes false → AnsweredOn step hold old new last text ho hm wo wm (Err stopped.Unwritten)
    on_breaks s = record {
      items = a.2.items;
      rest = drop used text;
      answers = a.2.answers;
      sent = concat a.2.answers ++ s.sent;
      begins = a.2.begins;
      run = a.2.run;
      said = continue_text;
      may = inr (a.1.0, a.1.1, ap interim (sym a.1.2));
      reaches = (
        s.missing,
        ap (λ (l : List ℕ). concat a.2.answers ++ l) (sym bytes_are ∙ s.prefix) ∙ sym (append_assoc (concat a.2.answers) s.sent s.missing),
        let m = all_but_most a.2.answers in omega (arith, m, length-append (concat a.2.answers) s.sent),
      );
      wrote = Appends-trans ho hn hm (concat a.2.answers) s.sent a.2.wrote s.wrote;
      counted = omega (arith, a.2.counted, s.counted, length-append (concat a.2.answers) s.sent);
    }

-- ---- one after another

module _ {S : Type 0} (step : S → First → List ℕ → S → Type 0) (hold : ℕ) (old mid : S) (text : List ℕ) (used : ℕ) (ho hm : Option (List ℕ))
    (wo wm : ℕ) (whole : Whole step false old mid text (drop used text) ho hm wo wm) (new last : S) (hn : Option (List ℕ)) (wn : ℕ) where
  a : Whole step false old mid text (piece text used) ho hm wo wm
  a = subst (λ (t : List ℕ). Whole step false old mid text t ho hm wo wm) (sym (piece_is text used)) whole

  breaks_behind : Broken step hold mid new (piece text used) hm hn wm wn → Broken step hold old new text ho hn wo wn
  breaks_behind b = broken_join step hold old mid new text (piece text used) ho hm hn wo wm wn a b

  loses_behind : Loses step mid new last (piece text used) hm hn → Loses step old new last text ho hn
  loses_behind b = loses_join step old mid new text (piece text used) ho hm hn wo wm a last b

  closes_behind : (rest : List ℕ) × Whole step true mid new (piece text used) rest hm hn wm wn → (rest : List ℕ) × Whole step true old new text rest ho hn wo wn
  closes_behind (rest, b) = (rest, whole_join step old mid new text (piece text used) ho hm hn wo wm wn a true rest b)

  pub first_stops : (told : Bool) (why : Stopped) → AnsweredExpecting step hold told mid new last (piece text used) hm hn wm wn (Err why)
      → AnsweredText step hold old new last text ho hn wo wn (Err why)
  first_stops told stopped.Unwritten b = breaks_behind b
  first_stops told stopped.Lost b = loses_behind b

  -- what was answered, by what the code found in its result
  first_so : (told : Bool) (next found : Next) → next ≡ found → AnsweredExpecting step hold told mid new last (piece text used) hm hn wm wn (Ok next)
      → AnsweredExpecting step hold told mid new last (piece text used) hm hn wm wn (Ok found)
  first_so told next found is = subst (λ (n : Next). AnsweredExpecting step hold told mid new last (piece text used) hm hn wm wn (Ok n)) is

  then_so : (stop found : Stop) → stop ≡ found → AnsweredOn step hold mid new last (piece text used) hm hn wm wn (Ok stop) → AnsweredOn step hold mid new last (piece text used) hm hn wm wn (Ok found)
  then_so stop found is = subst (λ (s : Stop). AnsweredOn step hold mid new last (piece text used) hm hn wm wn (Ok s)) is

  pub first_closes : (told : Bool) (next : Next) → next ≡ nexts.Closed
      → AnsweredExpecting step hold told mid new last (piece text used) hm hn wm wn (Ok next)
      → AnsweredText step hold old new last text ho hn wo wn (Ok stops.Closed)
  first_closes told next is b = closes_behind (first_so told next nexts.Closed is b)

  pub first_waits : (told due : Bool) (next : Next) → next ≡ nexts.Waits due → used ≤ length text → AnsweredExpecting step hold told mid new last (piece text used) hm hn wm wn (Ok next)
      → AnsweredText step hold old new last text ho hn wo wn (Ok (stops.Waits used true))
  first_waits told due next is within answered =
      let there = first_so told next (nexts.Waits due) is answered in (
        within,
        subst (λ (t : List ℕ). IsFirst t (more true)) (piece_is text used) there.0,
        subst (λ (t : List ℕ). Spoken step old new text t true ho hn wo wn) (piece_is text used)
            (spoken_join step old mid new text (piece text used) ho hm hn wo wm wn a (piece text used) true there.1),
      )

  pub first_open : (told : Bool) (next : Next) (count : ℕ) → next ≡ nexts.Open count
      → AnsweredExpecting step hold told mid new last (piece text used) hm hn wm wn (Ok next)
      → Whole step false old new text (drop (used + count) text) ho hn wo wn
  first_open told next count is answered =
      let there = first_so told next (nexts.Open count) is answered in
      subst (λ (t : List ℕ). Whole step false old new text t ho hn wo wn) (drop_again text used count)
      (whole_join step old mid new text (piece text used) ho hm hn wo wm wn a false (drop count (piece text used)) there.2)

  pub then_stops : (why : Stopped) (room : ℕ) → room ≡ hold → AnsweredOn step room mid new last (piece text used) hm hn wm wn (Err why)
      → AnsweredText step hold old new last text ho hn wo wn (Err why)
  then_stops stopped.Unwritten room same b = breaks_behind (subst (λ (n : ℕ). Broken step n mid new (piece text used) hm hn wm wn) same b)
  then_stops stopped.Lost room same b = loses_behind b

  pub then_closes : (stop : Stop) → stop ≡ stops.Closed → AnsweredOn step hold mid new last (piece text used) hm hn wm wn (Ok stop)
      → AnsweredText step hold old new last text ho hn wo wn (Ok stops.Closed)
  then_closes stop is b = closes_behind (then_so stop stops.Closed is b)

  then_spoken : (count : ℕ) (told : Bool) → Spoken step mid new (piece text used) (drop count (piece text used)) told hm hn wm wn
      → Spoken step old new text (drop (used + count) text) told ho hn wo wn
  then_spoken count told b =
      subst (λ (t : List ℕ). Spoken step old new text t told ho hn wo wn) (drop_again text used count)
      (spoken_join step old mid new text (piece text used) ho hm hn wo wm wn a (drop count (piece text used)) told b)

  pub then_waits : (stop : Stop) (count : ℕ) (due : Bool) → stop ≡ stops.Waits count due → due ≡ false → used ≤ length text → AnsweredOn step hold mid new last (piece text used) hm hn wm wn (Ok stop)
      → AnsweredText step hold old new last text ho hn wo wn (Ok (stops.Waits (used + count) false))
  then_waits stop count due is last_one fits answered =
      let there = then_so stop (stops.Waits count false) (is ∙ ap (stops.Waits count) last_one) answered in (
        let n = piece_length text used in omega (arith, n, there.0, fits),
        subst (λ (t : List ℕ). IsFirst t (more false)) (drop_again text used count) there.1,
        then_spoken count false there.2,
      )

  pub then_told : (stop : Stop) (count : ℕ) (due : Bool) → stop ≡ stops.Waits count due → due ≡ true → AnsweredOn step hold mid new last (piece text used) hm hn wm wn (Ok stop)
      → Stands false true (drop (used + count) text) × Spoken step old new text (drop (used + count) text) true ho hn wo wn
  then_told stop count due is more_due answered =
      let there = then_so stop (stops.Waits count true) (is ∙ ap (stops.Waits count) more_due) answered in
      (subst (λ (t : List ℕ). Stands false true t) (drop_again text used count) there.1, then_spoken count true there.2)

-- how far the code goes on in the text
module _ {S : Type 0} (step : S → First → List ℕ → S → Type 0) (hold : ℕ) (mid new last : S) (text : List ℕ) (used : ℕ) (within : used ≤ length text)
    (hm hn : Option (List ℕ)) (wm wn : ℕ) (count : ℕ) where
  pub open_within : (told : Bool) (next : Next) → next ≡ nexts.Open count → AnsweredExpecting step hold told mid new last (piece text used) hm hn wm wn (Ok next) → used + count ≤ length text
  open_within told next is answered =
      let there = subst (λ (n : Next). AnsweredExpecting step hold told mid new last (piece text used) hm hn wm wn (Ok n)) is answered in omega (arith, within, there.0, piece_length text used)

  pub open_some : (told : Bool) (next : Next) → next ≡ nexts.Open count → AnsweredExpecting step hold told mid new last (piece text used) hm hn wm wn (Ok next) → told ≡ true → 0 < count
  open_some told next is answered =
      let there = subst (λ (n : Next). AnsweredExpecting step hold told mid new last (piece text used) hm hn wm wn (Ok n)) is answered in there.1

  pub then_within : (stop : Stop) (due : Bool) → stop ≡ stops.Waits count due → AnsweredOn step hold mid new last (piece text used) hm hn wm wn (Ok stop) → used + count ≤ length text
  then_within stop due is answered =
      let there = subst (λ (s : Stop). AnsweredOn step hold mid new last (piece text used) hm hn wm wn (Ok s)) is answered in omega (arith, within, there.0, piece_length text used)

-- how far a text is done with at its end
pub waits_within : {S : Type 0} (step : S → First → List ℕ → S → Type 0) (hold : ℕ) (old new last : S) (text : List ℕ) (ho hn : Option (List ℕ)) (wo wn : ℕ) (most : ℕ) → length text ≤ most
    → (stop : Stop) (used : ℕ) (told : Bool) → stop ≡ stops.Waits used told → AnsweredText step hold old new last text ho hn wo wn (Ok stop) → used ≤ most
waits_within step hold old new last text ho hn wo wn most le stop used told is answered =
    let there = subst (λ (s : Stop). AnsweredText step hold old new last text ho hn wo wn (Ok s)) is answered in omega (arith, le, there.0)

-- ---- how much was written, and how much is left

pub whole_bound : {S : Type 0} (step : S → First → List ℕ → S → Type 0) (old new : S) (text rest : List ℕ) (ho hn : Option (List ℕ)) (wo wn : ℕ)
    → Whole step false old new text rest ho hn wo wn → wn + 2 ^ 65 * length rest ≤ wo + 2 ^ 65 * length text
whole_bound step old new text rest ho hn wo wn whole =
    let f = few_items text whole.items rest whole.begins whole.ends in omega (arith, f, whole.counted, whole.few)

pub spoken_bound : {S : Type 0} (step : S → First → List ℕ → S → Type 0) (old new : S) (text rest : List ℕ) (told : Bool) (ho hn : Option (List ℕ)) (wo wn : ℕ)
    → Spoken step old new text rest told ho hn wo wn → wn + 2 ^ 65 * length rest ≤ wo + 2 ^ 65 * length text + 25
spoken_bound step old new text rest told ho hn wo wn s =
    let b = whole_bound step old new text rest ho s.held wo s.written s.whole in let n = interim_few told in omega (arith, b, n, s.counted)

-- there is room for what is left of a text, as there was for all of it
pub room_first : (text rest : List ℕ) (wn written said : ℕ) → wn + 2 ^ 65 * length rest ≤ written - said + 2 ^ 65 * length text + 25
    → written + 2 ^ 65 * (length text + 5) < 2 ^ 128 → wn + 2 ^ 65 < 2 ^ 128
room_first text rest wn written said bound room = omega (arith, bound, room)

pub room_left : (text : List ℕ) (used wn written said : ℕ) → wn + 2 ^ 65 * length (drop used text) ≤ written - said + 2 ^ 65 * length text
    → written + 2 ^ 65 * (length text + 5) < 2 ^ 128 → wn + 2 ^ 65 * (length (piece text used) + 3) < 2 ^ 128
room_left text used wn written said bound room = omega (arith, bound, room, ap length (piece_is text used))

-- what was counted with what was said was counted before it
pub taken_back : (written said : ℕ) → said ≤ written → written ≡ written - said + said
taken_back written said le = omega arith

pub said_within : (wn written said : ℕ) → wn ≡ written + said → said ≤ wn
said_within wn written said e = omega (arith, e)

-- each pass of the loop but the first takes a byte at least
pub smaller : (all used count later : ℕ) (told : Bool) → (told ≡ true → 0 < count) → used + count + later ≤ all
    → all - (used + count + later) + 0 < all - used + (if told then 0 else 1)
smaller all used count later true some le = let n : 0 < count = some refl in omega (arith, n, le)
smaller all used count later false some le = omega (arith, le)

pub told_first : (text : List ℕ) → Stands false true text → (item : First) → IsFirst text item → expects item ≡ true
told_first text (first, is, e) item other = ap expects (first_unique text item first other is) ∙ e
