-- The items of a text, as far as the loop over them has come.
use Rattle.std.proofs.Common.{◌≡◌, ◌∙◌, ◌⊎◌, inl, inr, Bool, Ok, Err, [], ◌++◌, sym, ℕ, ◌+◌, ◌-◌, ◌*◌, ◌^◌, ◌<◌, ◌≤◌, Fits, w64, true, false, Option}
use Rattle.std.proofs.Common.{List, length, take, drop, ap, subst, arith, refl, append_assoc, append-nil, length-append, length-take}
use Rattle.std.proofs.lemmas.Grind.{common_steps}
use Rattle.st_http.specs.First.{First}
use Rattle.std.specs.Io.KnownBytes.{Appends}
use Rattle.std.specs.List.{concat}
use Rattle.std.proofs.KnownBytes.{Appends-trans}
use Rattle.st_connection.specs.inner.Stages.{Whole, Broken, Loses, One, Passed, Stands, Answered, AnsweredNext}
use Rattle.st_connection.specs.declared.sending.Stopped.{Stopped}
use Rattle.st_connection.specs.declared.connection.Next.{Next}
use Rattle.st_connection.specs.declared.connection.Next.TheVariants as nexts
use Rattle.st_connection.specs.declared.connection.Stop.TheVariants as stops
use Rattle.st_connection.specs.declared.sending.Stopped.TheVariants as stopped
use Rattle.st_connection.proofs.Blocks.{Gathered, gathered_none, gathered_one, gathered_out, gathered_breaks, gathered_lost, held_still, flushed, amid_all, all_but_most}
use Rattle.st_connection.proofs.Reading.{few_items}

-- the rest of the text as the code slices it
abbrev pub piece : List ℕ → ℕ → List ℕ
piece text used = take (length text - used) (drop used text)

pub piece_is : (text : List ℕ) (used : ℕ) → piece text used ≡ drop used text
piece_is text used = grind (arith, common_steps)

pub drop_again : (text : List ℕ) (used count : ℕ) → drop count (piece text used) ≡ drop (used + count) text
drop_again text used count = ap (drop count) (piece_is text used) ∙ grind (arith, common_steps)

pub piece_length : (text : List ℕ) (used : ℕ) → length (piece text used) ≡ length text - used
piece_length text used = grind (arith, common_steps)

module _ {S : Type 0} (step : S → First → List ℕ → S → Type 0) (hold : ℕ) (old mid kept : S) (text : List ℕ) (used : ℕ) (ho hm : Option (List ℕ))
    (wo wm : ℕ) (bytes : List ℕ) (a : Gathered step hold false old mid kept text (drop used text) ho hm wo wm bytes) where
  pub written_bound : wm ≤ wo + 2 ^ 65 * length text
  written_bound =
      let f = few_items text a.whole.items a.between a.whole.begins a.whole.ends in
      let n : length a.whole.items ≤ length text = omega (arith, f) in omega (arith, a.whole.counted, a.whole.few, n)

  module _ (le : length bytes ≤ hold) (closed : Bool) (new after : S) (end answer : List ℕ) (one : One step closed mid new (piece text used) end answer) (which : (after ≡ kept) ⊎ (after ≡ new)) where
    one_more : Gathered step hold closed old new after text end ho hm wo wm (bytes ++ answer)
    one_more =
        gathered_one step hold old mid kept text (drop used text) ho hm wo wm bytes a le closed new after end answer
        (subst (λ (t : List ℕ). One step closed mid new t end answer) (piece_is text used) one) which

    module _ (last : S) (hn : Option (List ℕ)) (wn : ℕ) (back : List ℕ) where
      pub breaks : Passed new after last hm hn wm wn (bytes ++ answer) back (Err stopped.Unwritten) → Broken step hold old new text ho hn wo wn
      breaks s = gathered_breaks step hold closed old new after text end ho hm wo wm (bytes ++ answer) one_more hn wn false s

      pub loses : Passed new after last hm hn wm wn (bytes ++ answer) back (Err stopped.Lost) → Loses step old new last text ho hn
      loses s = gathered_lost step hold closed old new after text end ho hm wo wm (bytes ++ answer) one_more hn last s.0 s.1

      passes : Passed new after last hm hn wm wn (bytes ++ answer) back (Ok tt)
          → (Gathered step hold closed old new last text end ho hn wo wn back) ⊎ (Whole step closed old new text end ho hn wo wn × (back ≡ []) × (last ≡ new))
      passes (inl (same, wrote, counted, stays)) =
          inl (held_still step hold closed old new after text end ho hm wo wm (bytes ++ answer) one_more hn wn back last same wrote counted stays)
      passes (inr (none, wrote, counted, all)) =
          inr (gathered_out step hold closed old new after text end ho hm wo wm (bytes ++ answer) one_more hn wn wrote counted, none, all)

pub goes_on : {S : Type 0} (step : S → First → List ℕ → S → Type 0) (hold : ℕ) (old mid kept : S) (text : List ℕ) (used : ℕ) (ho hm : Option (List ℕ)) (wo wm : ℕ) (bytes : List ℕ)
    → Gathered step hold false old mid kept text (drop used text) ho hm wo wm bytes → length bytes ≤ hold
    → (new last : S) (hn : Option (List ℕ)) (wn : ℕ) (back : List ℕ) (next : Next) (count : ℕ) → next ≡ nexts.Open count
    → AnsweredNext step false mid new kept last (piece text used) hm hn wm wn bytes back (Ok next) → Gathered step hold false old new last text (drop (used + count) text) ho hn wo wn back
goes_on step hold old mid kept text used ho hm wo wm bytes a le new last hn wn back next count is answered =
    let there = subst (λ (n : Next). AnsweredNext step false mid new kept last (piece text used) hm hn wm wn bytes back (Ok n)) is answered in
    let one = subst (λ (t : List ℕ). One step false mid new (piece text used) t there.0) (drop_again text used count) there.4 in
    elim (passes step hold old mid kept text used ho hm wo wm bytes a le false new there.1 (drop (used + count) text) there.0 one there.5 last hn wn back there.6) [
      | inl g ↦ g
      | inr (whole, none, all) ↦ gathered_none step hold old new text (drop (used + count) text) ho hn wo wn back last whole none all
    ]

pub same_one : {S : Type 0} (step : S → First → List ℕ → S → Type 0) (hold : ℕ) (old mid kept : S) (text : List ℕ) (used : ℕ) (ho hm : Option (List ℕ)) (wo wm : ℕ) (bytes : List ℕ)
    → Gathered step hold false old mid kept text (drop used text) ho hm wo wm bytes
    → (new last : S) (hn : Option (List ℕ)) (wn : ℕ) (back : List ℕ)
    → (new ≡ mid) × (last ≡ kept) × (back ≡ bytes) × Appends hm hn [] × (wn ≡ wm)
    → Gathered step hold false old new last text (drop used text) ho hn wo wn back
same_one step hold old mid kept text used ho hm wo wm bytes a new last hn wn back (now, keeps, same, wrote, counted) =
    subst (λ (s : _). Gathered step hold false old s last text (drop used text) ho hn wo wn back) (sym now)
    (held_still step hold false old mid kept text (drop used text) ho hm wo wm bytes a hn wn back last same wrote counted keeps)

stands_so : (text : List ℕ) (used : ℕ) (due : Bool) → Stands false due (piece text used) → Stands false due (drop used text)
stands_so text used due stands = subst (λ (t : List ℕ). Stands false due t) (piece_is text used) stands

-- ---- the ends of the loop

whole_stops : {S : Type 0} (step : S → First → List ℕ → S → Type 0) (hold : ℕ) (closed : Bool) (old now : S) (text rest : List ℕ) (ho hn : Option (List ℕ)) (wo wn : ℕ)
    → Whole step closed old now text rest ho hn wo wn → (kept last : S) (hm : Option (List ℕ)) (wm : ℕ) (bytes : List ℕ) → bytes ≡ [] → kept ≡ now → (why : Stopped)
    → Passed now kept last hn hm wn wm bytes [] (Err why) → Answered step hold old now last text ho hm wo wm (Err why)
whole_stops step hold closed old now text rest ho hn wo wn a kept last hm wm bytes none same stopped.Unwritten s = record {
  items = a.items;
  rest = rest;
  answers = a.answers;
  sent = concat a.answers ++ s.sent;
  begins = a.begins;
  run = a.run;
  said = [];
  may = inl refl;
  reaches = (
    s.missing,
    ap (λ (l : List ℕ). concat a.answers ++ l) (sym none ∙ s.prefix) ∙ sym (append_assoc (concat a.answers) s.sent s.missing),
    let m = all_but_most a.answers in omega (arith, m, length-append (concat a.answers) s.sent),
  );
  wrote = Appends-trans ho hn hm (concat a.answers) s.sent a.wrote s.wrote;
  counted = omega (arith, a.counted, s.counted, length-append (concat a.answers) s.sent);
}
whole_stops {S = S} step hold closed old now text rest ho hn wo wn a kept last hm wm bytes none same stopped.Lost s = record {
  items = a.items;
  rest = rest;
  answers = a.answers;
  sent = concat a.answers;
  begins = a.begins;
  run = a.run;
  past = record {
    mid = now;
    front = record {
      done = a.items;
      others = [];
      out = a.answers;
      back = [];
      items_are = sym (append-nil a.items);
      answers_are = sym (append-nil a.answers);
      said = [];
      hears = refl;
      sent_is = sym (append-nil (concat a.answers));
      run = a.run;
    };
    amid = amid_all step now now last [] [] refl (elim s.1 [
      | inl keeps ↦ keeps ∙ same
      | inr all ↦ all
    ]);
  };
  wrote = subst (λ (l : List ℕ). Appends ho hm l) (append-nil (concat a.answers)) (Appends-trans ho hn hm (concat a.answers) [] a.wrote s.0);
}

pub whole_stays : {S : Type 0} (step : S → First → List ℕ → S → Type 0) (closed : Bool) (old now : S) (text rest : List ℕ) (ho hn : Option (List ℕ)) (wo wn : ℕ)
    → Whole step closed old now text rest ho hn wo wn → (hm : Option (List ℕ)) (wm : ℕ) (bytes : List ℕ) → bytes ≡ [] → Appends hn hm bytes → wm ≡ wn + length bytes
    → Whole step closed old now text rest ho hm wo wm
whole_stays step closed old now text rest ho hn wo wn a hm wm bytes none wrote counted = record {
  items = a.items;
  answers = a.answers;
  begins = a.begins;
  ends = a.ends;
  run = a.run;
  wrote = subst (λ (l : List ℕ). Appends ho hm l) (append-nil (concat a.answers)) (Appends-trans ho hn hm (concat a.answers) [] a.wrote (subst (λ (l : List ℕ). Appends hn hm l) none wrote));
  counted = omega (arith, counted, ap length none, a.counted);
  few = a.few;
}

gathered_stops : {S : Type 0} (step : S → First → List ℕ → S → Type 0) (hold : ℕ) (closed : Bool) (old now kept : S) (text rest : List ℕ) (ho hn : Option (List ℕ)) (wo wn : ℕ) (bytes : List ℕ)
    → Gathered step hold closed old now kept text rest ho hn wo wn bytes → (last : S) (hm : Option (List ℕ)) (wm : ℕ) (why : Stopped) (back : List ℕ)
    → Passed now kept last hn hm wn wm bytes back (Err why) → Answered step hold old now last text ho hm wo wm (Err why)
gathered_stops step hold closed old now kept text rest ho hn wo wn bytes a last hm wm stopped.Unwritten back s =
    gathered_breaks step hold closed old now kept text rest ho hn wo wn bytes a hm wm false s
gathered_stops step hold closed old now kept text rest ho hn wo wn bytes a last hm wm stopped.Lost back s =
    gathered_lost step hold closed old now kept text rest ho hn wo wn bytes a hm last s.0 s.1

module _ {S : Type 0} (step : S → First → List ℕ → S → Type 0) (hold : ℕ) (old mid kept : S) (text : List ℕ) (used : ℕ) (ho hm : Option (List ℕ))
    (wo wm : ℕ) (bytes : List ℕ) (a : Gathered step hold false old mid kept text (drop used text) ho hm wo wm bytes) (le : length bytes ≤ hold)
    (new last : S) (hn : Option (List ℕ)) (wn : ℕ) (back : List ℕ) where
  pub next_breaks : (why : Stopped) → AnsweredNext step false mid new kept last (piece text used) hm hn wm wn bytes back (Err why) → Answered step hold old new last text ho hn wo wn (Err why)
  next_breaks why (answer, after, rest, closed, one, which, passed) =
      gathered_stops step hold closed old new after text rest ho hm wo wm (bytes ++ answer)
      (one_more step hold old mid kept text used ho hm wo wm bytes a le closed new after rest answer one which) last hn wn why back passed

  -- what was answered, by what the code found in its result
  next_so : (next found : Next) → next ≡ found → AnsweredNext step false mid new kept last (piece text used) hm hn wm wn bytes back (Ok next)
      → AnsweredNext step false mid new kept last (piece text used) hm hn wm wn bytes back (Ok found)
  next_so next found is = subst (λ (n : Next). AnsweredNext step false mid new kept last (piece text used) hm hn wm wn bytes back (Ok n)) is

  module _ (new2 last2 : S) (now : new2 ≡ new) (hk : Option (List ℕ)) (wk : ℕ) where
    still : (due : Bool) → AnsweredNext step false mid new kept last (piece text used) hm hn wm wn bytes back (Ok (nexts.Waits due))
        → Gathered step hold false old new last text (drop used text) ho hn wo wn back
    still due (stands, now_same, kept_same, back_same, wrote, counted) =
        same_one step hold old mid kept text used ho hm wo wm bytes a new last hn wn back (now_same, kept_same, back_same, wrote, counted)

    pub waits : (next : Next) (due : Bool) → next ≡ nexts.Waits due → used ≤ length text
        → AnsweredNext step false mid new kept last (piece text used) hm hn wm wn bytes back (Ok next)
        → Passed new last last2 hn hk wn wk back [] (Ok tt)
        → Answered step hold old new2 last2 text ho hk wo wk (Ok (stops.Waits used due))
    waits next due is within answered passed =
        let n = next_so next (nexts.Waits due) is answered in
        let f = flushed new last last2 hn hk wn wk back passed in
        let w = gathered_out step hold false old new last text (drop used text) ho hn wo wn back (still due n) hk wk f.0 f.1 in
        (within, stands_so text used due n.0, subst (λ (s : S). Whole step false old s text (drop used text) ho hk wo wk) (sym now) w)

    pub waits_breaks : (next : Next) (due : Bool) → next ≡ nexts.Waits due
        → AnsweredNext step false mid new kept last (piece text used) hm hn wm wn bytes back (Ok next) → (why : Stopped)
        → Passed new last last2 hn hk wn wk back [] (Err why)
        → Answered step hold old new2 last2 text ho hk wo wk (Err why)
    waits_breaks next due is answered why passed =
        let n = next_so next (nexts.Waits due) is answered in
        subst (λ (s : S). Answered step hold old s last2 text ho hk wo wk (Err why)) (sym now)
        (gathered_stops step hold false old new last text (drop used text) ho hn wo wn back (still due n) last2 hk wk why [] passed)

    pub closes : (next : Next) → next ≡ nexts.Closed → AnsweredNext step false mid new kept last (piece text used) hm hn wm wn bytes back (Ok next) → Passed new last last2 hn hk wn wk back [] (Ok tt)
        → Answered step hold old new2 last2 text ho hk wo wk (Ok stops.Closed)
    closes next is answered passed =
        let n = next_so next nexts.Closed is answered in
        let f = flushed new last last2 hn hk wn wk back passed in (
          n.2,
          subst (λ (s : S). Whole step true old s text n.2 ho hk wo wk) (sym now)
              (elim (passes step hold old mid kept text used ho hm wo wm bytes a le true new n.1 n.2 n.0 n.3 n.4 last hn wn back n.5) [
                | inl g ↦ gathered_out step hold true old new last text n.2 ho hn wo wn back g hk wk f.0 f.1
                | inr (w, none, all) ↦ whole_stays step true old new text n.2 ho hn wo wn w hk wk back none f.0 f.1
              ]),
        )

    pub closes_breaks : (next : Next) → next ≡ nexts.Closed
        → AnsweredNext step false mid new kept last (piece text used) hm hn wm wn bytes back (Ok next) → (why : Stopped)
        → Passed new last last2 hn hk wn wk back [] (Err why)
        → Answered step hold old new2 last2 text ho hk wo wk (Err why)
    closes_breaks next is answered why passed =
        let n = next_so next nexts.Closed is answered in
        subst (λ (s : S). Answered step hold old s last2 text ho hk wo wk (Err why)) (sym now)
        (elim (passes step hold old mid kept text used ho hm wo wm bytes a le true new n.1 n.2 n.0 n.3 n.4 last hn wn back n.5) [
          | inl g ↦ gathered_stops step hold true old new last text n.2 ho hn wo wn back g last2 hk wk why [] passed
          | inr (w, none, all) ↦ whole_stops step hold true old new text n.2 ho hn wo wn w last last2 hk wk back none all why passed
        ])

pub block_length : (block : List ℕ) (n hold : ℕ) → n ≤ hold → length (take n block) ≤ hold
block_length block n hold le = omega (arith, le, length-take n block)

pub next_count : {S : Type 0} (step : S → First → List ℕ → S → Type 0) (mid new kept last : S) (text : List ℕ) (hm hn : Option (List ℕ)) (wm wn : ℕ) (bytes back : List ℕ)
    → AnsweredNext step false mid new kept last text hm hn wm wn bytes back (Ok nexts.Closed) → length bytes < 2 ^ 64 → wn < wm + 3 * 2 ^ 64
next_count step mid new kept last text hm hn wm wn bytes back (answer, after, rest, one, which, inl (same, wrote, counted, keeps)) le = omega (arith, counted)
next_count step mid new kept last text hm hn wm wn bytes back (answer, after, rest, one, which, inr (none, wrote, counted, all)) le = omega (arith, counted, one.fits, le, length-append bytes answer)

pub at_most_is : (a b n : ℕ) → a ≤ b → b ≡ n → a ≤ n
at_most_is a b n le e = omega (arith, le, e)

-- how far the code goes on in the text, and how much it has written then
module _ {S : Type 0} (step : S → First → List ℕ → S → Type 0) (mid new kept last : S) (text : List ℕ) (used : ℕ) (hm hn : Option (List ℕ))
    (wm wn : ℕ) (bytes back : List ℕ) (next : Next)
    (answered : AnsweredNext step false mid new kept last (piece text used) hm hn wm wn bytes back (Ok next)) where
  pub next_within : (count : ℕ) → next ≡ nexts.Open count → used ≤ length text → used + count ≤ length text
  next_within count is within =
      let there = subst (λ (n : Next). AnsweredNext step false mid new kept last (piece text used) hm hn wm wn bytes back (Ok n)) is answered in omega (arith, within, there.3, piece_length text used)

  pub next_smaller : (count : ℕ) → next ≡ nexts.Open count → used ≤ length text → length text - (used + count) < length text - used
  next_smaller count is within =
      let there = subst (λ (n : Next). AnsweredNext step false mid new kept last (piece text used) hm hn wm wn bytes back (Ok n)) is answered in
      omega (arith, within, there.2, there.3, piece_length text used)

  module _ (written : ℕ) (bound : wm ≤ written + 2 ^ 65 * length text) (room : written + 2 ^ 65 * (length text + 3) < 2 ^ 128) where
    pub room_waits : (due : Bool) → next ≡ nexts.Waits due → wn + 2 ^ 64 < 2 ^ 128
    room_waits due is = let there = subst (λ (n : Next). AnsweredNext step false mid new kept last (piece text used) hm hn wm wn bytes back (Ok n)) is answered in omega (arith, bound, room, there.5)

    pub room_closes : next ≡ nexts.Closed → length bytes < 2 ^ 64 → wn + 2 ^ 64 < 2 ^ 128
    room_closes is le =
        let there = subst (λ (n : Next). AnsweredNext step false mid new kept last (piece text used) hm hn wm wn bytes back (Ok n)) is answered in
        let few = next_count step mid new kept last (piece text used) hm hn wm wn bytes back there le in omega (arith, bound, room, few)

pub fits_text : (text : List ℕ) (n : ℕ) → n ≤ length text → length text < 2 ^ 64 → Fits w64 n
fits_text text n le fits = omega (arith, le, fits)

-- a front of a block that is long enough has its length
pub front_whole : (block : List ℕ) (n most : ℕ) → n ≤ most → length block ≡ most → n ≡ length (take n block)
front_whole block n most le len = omega (arith, le, len, length-take n block)

-- a front of a block is no longer than it was taken to be
pub front_below : (block : List ℕ) (n room most : ℕ) → n ≤ room → room < most → length (take n block) < most
front_below block n room most le lt = omega (arith, le, lt, length-take n block)
