-- A connection, as far as the loop over its reads has come.
use Rattle.std.proofs.Common.{◌≡◌, ◌≢◌, ◌+◌, ◌-◌, ◌*◌, ◌^◌, ◌≤◌, ◌<◌, min, ℕ, zero, suc, Bool, true, false, Option, Ok, Err, inr, List, [], ◌++◌}
use Rattle.std.proofs.Common.{length, drop, refl, ap, sym, ◌∙◌, subst, arith, append-nil, length-append}
use Rattle.std.specs.List.{concat}
use Rattle.std.specs.Io.KnownBytes.{Appends, Consumes, Keeps}
use Rattle.std.proofs.KnownBytes.{Appends-nil, Appends-trans, Consumes-nil, Consumes-trans, Consumes-kept}
use Rattle.st_http.specs.First.{First, more, IsFirst, expects}
use Rattle.st_http.specs.Items.{Items}
use Rattle.st_http.proofs.FirstLemmas.{first_unique, more_short}
use Rattle.st_http.proofs.ExpectLemmas.{awaited}
use Rattle.st_connection.specs.Connection.{ServedWithin, SaysAll, WithInterim}
use Rattle.st_connection.specs.Streams.{Streams}
use Rattle.st_connection.specs.Render.{interim}
use Rattle.st_connection.specs.inner.Stages.{Whole, Broken, Loses, Spoken, AnsweredText}
use Rattle.st_connection.specs.declared.connection.Stop.{Stop}
use Rattle.st_connection.specs.declared.connection.Stop.TheVariants as stops
use Rattle.st_connection.specs.declared.connection.Ended.TheVariants.{Clean, Closed, Cut, TurnsSpent, Lost}
use Rattle.st_connection.proofs.Empty.{first_empty}
use Rattle.st_connection.proofs.Reading.{few_items, items_whole}
use Rattle.st_connection.proofs.Joins.{whole_none, whole_join, whole_grows, spoken_join}
use Rattle.st_connection.proofs.Steps.{interim_few}
use Rattle.st_connection.proofs.Blocks.{reaches_all, broken_join, loses_join}

abbrev seen : (lo ln ho hn : Option (List ℕ)) (failed : Bool) (ro rn : ℕ) (he wf : Bool) → Streams
seen lo ln ho hn failed ro rn he wf = record {
  left_old = lo;
  left_new = ln;
  reads_old = ro;
  reads_new = rn;
  has_ended = he;
  read_failed = failed;
  held_old = ho;
  held_new = hn;
  write_failed = wf;
}

-- What was given is answered, up to the text, in which nothing whole stands, and whose client was told so much ahead.
pub record Serving {S : Type 0} (step : S → First → List ℕ → S → Type 0) (old now : S) (text : List ℕ) (told : Bool) (lo ln ho hn : Option (List ℕ)) (w turn : ℕ) : Type 0 where
  pub given : List ℕ
  pub gave : Consumes lo ln given
  pub spoken : Spoken step old now given text told ho hn 0 w
  pub waits : IsFirst text (more told)
  pub turns : length given ≤ 65536 * turn

pub serving_start : {S : Type 0} (step : S → First → List ℕ → S → Type 0) (old : S) (l h : Option (List ℕ)) → Serving step old old [] false l l h h 0 0
serving_start step old l h = record {
  given = [];
  gave = Consumes-nil l;
  spoken = record { held = h; written = 0; whole = whole_none step old [] h 0; wrote = Appends-nil h; counted = refl };
  waits = first_empty;
  turns = omega arith;
}

module _ {S : Type 0} (step : S → First → List ℕ → S → Type 0) (old now : S) (text : List ℕ) (told : Bool) (lo ln ho hn : Option (List ℕ))
    (w turn : ℕ) (s : Serving (WithInterim step) old now text told lo ln ho hn w turn) (hold : ℕ) where
  pub text_short : length text < 73728
  text_short = more_short text told s.waits

  pub enough : (n : ℕ) → turn < 1000000 → n ≤ 65536 → w + 2 ^ 65 * (length text + n + 5) < 2 ^ 128
  enough n lt le =
      let f = few_items s.given s.spoken.whole.items text s.spoken.whole.begins s.spoken.whole.ends in
      let i : length s.spoken.whole.items ≤ 65536000000 = omega (arith, f, s.turns) in
      let k : s.spoken.written ≤ 2 ^ 65 * 65536000000 = omega (arith, s.spoken.whole.counted, s.spoken.whole.few, i) in
      let m = interim_few told in omega (arith, k, m, s.spoken.counted, text_short)

  pub told_still : (got longer : List ℕ) → longer ≡ text ++ got → told ≡ true → (item : First) → IsFirst longer item → expects item ≡ true
  told_still got longer is e item first =
      awaited text got item (subst (λ (b : Bool). IsFirst text (more b)) e s.waits) (subst (λ (t : List ℕ). IsFirst t item) is first)

  all_items : Items s.given s.spoken.whole.items text
  all_items = items_whole s.given s.spoken.whole.items text s.spoken.whole.begins told (λ o. s.waits)

  -- all that was said
  abbrev said : List ℕ
  said = concat s.spoken.whole.answers ++ interim told

  says_all : SaysAll text s.spoken.whole.answers said
  says_all = (interim told, (more told, s.waits, refl), refl)

  wrote_all : Appends ho hn said
  wrote_all = Appends-trans ho s.spoken.held hn (concat s.spoken.whole.answers) (interim told) s.spoken.whole.wrote s.spoken.wrote

  counts : w ≡ length said
  counts = omega (arith, s.spoken.counted, s.spoken.whole.counted, length-append (concat s.spoken.whole.answers) (interim told))

  pub read_breaks : {ro rn : ℕ} {he wf : Bool} (kept : S) (lm : Option (List ℕ)) (failed : Bool) → Keeps ln lm
      → ServedWithin step hold old now kept (seen lo lm ho hn failed ro rn he wf) (Err (record { written = w }))
  read_breaks kept lm failed keeps = record {
    given = s.given;
    gave = Consumes-kept lo ln lm s.given s.gave keeps;
    items = s.spoken.whole.items;
    rest = text;
    answers = s.spoken.whole.answers;
    run = s.spoken.whole.run;
    sent = said;
    wrote = wrote_all;
    ending = (
      s.spoken.whole.begins,
      (
        counts,
        (interim told, inr (more told, s.waits, refl), reaches_all hold s.spoken.whole.answers (interim told)),
        (λ e. (all_items, s.spoken.whole.ends, says_all)),
      ),
    );
  }

  pub turns_spent : {ro rn : ℕ} {he wf : Bool} (kept : S) (failed : Bool) → ServedWithin step hold old now kept (seen lo ln ho hn failed ro rn he wf) (Ok TurnsSpent)
  turns_spent kept failed = record {
    given = s.given;
    gave = s.gave;
    items = s.spoken.whole.items;
    rest = text;
    answers = s.spoken.whole.answers;
    run = s.spoken.whole.run;
    sent = said;
    wrote = wrote_all;
    ending = (all_items, s.spoken.whole.ends, says_all);
  }

  module _ (lm : Option (List ℕ)) (got : List ℕ) (takes : Consumes ln lm got) where
    gave_more : Consumes lo lm (s.given ++ got)
    gave_more = Consumes-trans lo ln lm s.given got s.gave takes

    gave_none : got ≡ [] → Consumes lo lm s.given
    gave_none none = subst (λ (t : List ℕ). Consumes lo lm t) (ap (λ t. s.given ++ t) none ∙ append-nil s.given) gave_more

    -- of the empty text nobody is told
    told_nobody : text ≡ [] → said ≡ concat s.spoken.whole.answers
    told_nobody empty =
        let none : more told ≡ more false = first_unique [] (more told) (more false) (subst (λ (t : List ℕ). IsFirst t (more told)) empty s.waits) first_empty in
        ap (λ (first : First). concat s.spoken.whole.answers ++ interim (expects first)) none ∙ append-nil (concat s.spoken.whole.answers)

    pub ends_clean : {ro rn : ℕ} {he wf : Bool} (kept : S) (failed : Bool) → got ≡ [] → text ≡ [] → ServedWithin step hold old now kept (seen lo lm ho hn failed ro rn he wf) (Ok Clean)
    ends_clean kept failed none empty = record {
      given = s.given;
      gave = gave_none none;
      items = s.spoken.whole.items;
      rest = text;
      answers = s.spoken.whole.answers;
      run = s.spoken.whole.run;
      sent = said;
      wrote = wrote_all;
      ending = (all_items, s.spoken.whole.ends, empty, told_nobody empty);
    }

    pub ends_cut : {ro rn : ℕ} {he wf : Bool} (kept : S) (failed : Bool) → got ≡ [] → text ≢ [] → ServedWithin step hold old now kept (seen lo lm ho hn failed ro rn he wf) (Ok Cut)
    ends_cut kept failed none some = record {
      given = s.given;
      gave = gave_none none;
      items = s.spoken.whole.items;
      rest = text;
      answers = s.spoken.whole.answers;
      run = s.spoken.whole.run;
      sent = said;
      wrote = wrote_all;
      ending = (all_items, s.spoken.whole.ends, some, says_all);
    }

    module _ (new : S) (longer : List ℕ) (longer_is : longer ≡ text ++ got) (hm : Option (List ℕ)) (wm : ℕ) where
      grown : Whole (WithInterim step) false old now (s.given ++ got) longer ho s.spoken.held 0 s.spoken.written
      grown =
          subst (λ (t : List ℕ). Whole (WithInterim step) false old now (s.given ++ got) t ho s.spoken.held 0 s.spoken.written) (sym longer_is)
          (whole_grows (WithInterim step) old now s.given text got ho s.spoken.held 0 s.spoken.written s.spoken.whole)

      pub write_breaks : {ro rn : ℕ} {he wf : Bool} (kept : S) (failed : Bool) → failed ≡ false → Broken (WithInterim step) hold now new longer s.spoken.held hm s.spoken.written wm
          → ServedWithin step hold old new kept (seen lo lm ho hm failed ro rn he wf) (Err (record { written = wm }))
      write_breaks kept failed sound a =
          let b = broken_join (WithInterim step) hold old now new (s.given ++ got) longer ho s.spoken.held hm 0 s.spoken.written wm grown a in
          record {
            given = s.given ++ got;
            gave = gave_more;
            items = b.items;
            rest = b.rest;
            answers = b.answers;
            run = b.run;
            sent = b.sent;
            wrote = b.wrote;
            ending = (b.begins, (omega (arith, b.counted), (b.said, b.may, b.reaches), (λ e. absurd (let k : true ≡ false = cc (sound, e) in cc))));
          }

      pub connection_lost : {ro rn : ℕ} {he wf : Bool} (kept : S) (failed : Bool) → Loses (WithInterim step) now new kept longer s.spoken.held hm
          → ServedWithin step hold old new kept (seen lo lm ho hm failed ro rn he wf) (Ok Lost)
      connection_lost kept failed a =
          let b = loses_join (WithInterim step) old now new (s.given ++ got) longer ho s.spoken.held hm 0 s.spoken.written grown kept a in
          record {
            given = s.given ++ got;
            gave = gave_more;
            items = b.items;
            rest = b.rest;
            answers = b.answers;
            run = b.run;
            sent = b.sent;
            wrote = b.wrote;
            ending = (b.begins, b.past);
          }

      pub connection_closes : {ro rn : ℕ} {he wf : Bool} (kept : S) (failed : Bool) → (rest : List ℕ) × Whole (WithInterim step) true now new longer rest s.spoken.held hm s.spoken.written wm
          → ServedWithin step hold old new kept (seen lo lm ho hm failed ro rn he wf) (Ok Closed)
      connection_closes kept failed (rest, a) =
          let b = whole_join (WithInterim step) old now new (s.given ++ got) longer ho s.spoken.held hm 0 s.spoken.written wm grown true rest a in
          record {
            given = s.given ++ got;
            gave = gave_more;
            items = b.items;
            rest = rest;
            answers = b.answers;
            run = b.run;
            sent = concat b.answers;
            wrote = b.wrote;
            ending = (
              items_whole (s.given ++ got) b.items rest b.begins false (λ o. absurd (let k : true ≡ false = cc (b.ends, o) in cc)),
              b.ends,
              refl,
            );
          }

      pub goes_on_serving : (last : S) (stop : Stop) (used : ℕ) (ahead : Bool) → stop ≡ stops.Waits used ahead → (left : List ℕ) → left ≡ drop used longer → length got ≤ 65536
          → AnsweredText (WithInterim step) hold now new last longer s.spoken.held hm s.spoken.written wm (Ok stop)
          → Serving (WithInterim step) old new left ahead lo lm ho hm wm (turn + 1)
      goes_on_serving last stop used ahead found left is le answered =
          let a = subst (λ (o : Stop). AnsweredText (WithInterim step) hold now new last longer s.spoken.held hm s.spoken.written wm (Ok o)) found answered in
          record {
            given = s.given ++ got;
            gave = gave_more;
            spoken = spoken_join (WithInterim step) old now new (s.given ++ got) longer ho s.spoken.held hm 0 s.spoken.written wm grown left ahead
                (subst (λ (t : List ℕ). Spoken (WithInterim step) now new longer t ahead s.spoken.held hm s.spoken.written wm) (sym is) a.2);
            waits = subst (λ (t : List ℕ). IsFirst t (more ahead)) (sym is) a.1;
            turns = omega (arith, s.turns, length-append s.given got);
          }

-- the number of reads after one more
pub counted_on : (first_reads reads next turn : ℕ) → (turn ≡ 0 → reads ≡ first_reads) → (0 < turn → reads ≡ min (first_reads + turn) (2 ^ 64 - 1))
    → next ≡ min (reads + 1) (2 ^ 64 - 1) → next ≡ min (first_reads + (turn + 1)) (2 ^ 64 - 1)
counted_on first_reads reads next zero a b e = let i = a refl in omega (arith, i, e)
counted_on first_reads reads next (suc turn) a b e = let i = b (omega arith) in omega (arith, i, e)

pub some_turn : {P : Type 0} (turn : ℕ) → turn + 1 ≡ 0 → P
some_turn turn none = absurd (omega (arith, none))
