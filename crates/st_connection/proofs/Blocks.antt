-- Answers that are held back, and what comes of them.
use Rattle.std.proofs.Common.{◌≡◌, ◌⊎◌, inl, inr, ◌∙◌, ℕ, suc, take, ◌+◌, ◌-◌, ◌*◌, ◌^◌, ◌≤◌, Bool, true, false, Option, Ok, Err, List, [], ◌∷◌, ◌++◌}
use Rattle.std.proofs.Common.{length, refl, sym, ap, subst, arith, append_assoc, append-nil, length-append}
use Rattle.std.specs.Prelude.{Result}
use Rattle.std.specs.List.{concat}
use Rattle.std.specs.Io.KnownBytes.{Appends}
use Rattle.std.proofs.KnownBytes.{Appends-trans}
use Rattle.std.proofs.lemmas.List.Folds.{concat-append}
use Rattle.st_http.specs.First.{First}
use Rattle.st_connection.specs.Items.{BeginsWith, is_closed}
use Rattle.st_connection.specs.Connection.{Run, ReachesWithin, Amid, MayHear}
use Rattle.st_connection.specs.inner.Stages.{Whole, Broken, Loses, One, Sent, Passed}
use Rattle.st_connection.specs.declared.sending.Stopped.{Stopped}
use Rattle.st_connection.specs.declared.sending.Stopped.TheVariants as stopped
use Rattle.st_connection.proofs.Reading.{begins_one, begins_none, begins_join, closed_one, closed_join}
use Rattle.st_connection.proofs.Joins.{run_join, whole_join}

-- ---- fronts of answers

-- all of them but the last, by recursion
abbrev but_last : List (List ℕ) → List (List ℕ)
but_last [] = []
but_last (answer ∷ []) = []
but_last (answer ∷ next ∷ answers) = answer ∷ but_last (next ∷ answers)

take_but_last : (answers : List (List ℕ)) → take (length answers - 1) answers ≡ but_last answers
take_but_last [] = refl
take_but_last (answer ∷ []) = refl
take_but_last (answer ∷ next ∷ answers) =
    let more : length (answer ∷ next ∷ answers) - 1 ≡ suc (length (next ∷ answers) - 1) = omega arith in
    ap (λ (n : ℕ). take n (answer ∷ next ∷ answers)) more ∙ ap (λ (l : List (List ℕ)). answer ∷ l) (take_but_last (next ∷ answers))

abbrev bytes_in : List (List ℕ) → ℕ
bytes_in answers = length (concat answers)

but_most : (answers : List (List ℕ)) → bytes_in (but_last answers) ≤ bytes_in answers
but_most [] = omega arith
but_most (answer ∷ []) = omega arith
but_most (answer ∷ next ∷ answers) =
    let r = but_most (next ∷ answers) in
    omega (arith, r, length-append answer (concat (but_last (next ∷ answers))), length-append answer (concat (next ∷ answers)))

but_end : (answers : List (List ℕ)) (answer : List ℕ) → but_last (answers ++ answer ∷ []) ≡ answers
but_end [] answer = refl
but_end (a ∷ []) answer = refl
but_end (a ∷ b ∷ answers) answer = ap (λ (l : List (List ℕ)). a ∷ l) (but_end (b ∷ answers) answer)

but_join : (answers replies : List (List ℕ)) → bytes_in (but_last (answers ++ replies)) ≤ bytes_in answers + bytes_in (but_last replies)
but_join [] replies = omega arith
but_join (a ∷ []) [] = omega arith
but_join (a ∷ []) (b ∷ replies) = omega (arith, length-append a (concat (but_last (b ∷ replies))), length-append a [])
but_join (a ∷ b ∷ answers) replies =
    let r = but_join (b ∷ answers) replies in
    omega (arith, r, length-append a (concat (but_last (b ∷ answers ++ replies))), length-append a (concat (b ∷ answers)))

pub all_but_most : (answers : List (List ℕ)) → length (concat (take (length answers - 1) answers)) ≤ length (concat answers)
all_but_most answers = subst (λ (l : List (List ℕ)). bytes_in l ≤ bytes_in answers) (sym (take_but_last answers)) (but_most answers)

all_but_end : (answers : List (List ℕ)) (answer : List ℕ)
    → take (length (answers ++ answer ∷ []) - 1) (answers ++ answer ∷ []) ≡ answers
all_but_end answers answer = take_but_last (answers ++ answer ∷ []) ∙ but_end answers answer

all_but_join : (answers replies : List (List ℕ))
    → length (concat (take (length (answers ++ replies) - 1) (answers ++ replies)))
    ≤ length (concat answers) + length (concat (take (length replies - 1) replies))
all_but_join answers replies =
    subst (λ (l : List (List ℕ)). bytes_in l ≤ bytes_in answers + bytes_in (take (length replies - 1) replies)) (sym (take_but_last (answers ++ replies)))
    (subst (λ (l : List (List ℕ)). bytes_in (but_last (answers ++ replies)) ≤ bytes_in answers + bytes_in l) (sym (take_but_last replies))
    (but_join answers replies))

concat_end : (answers : List (List ℕ)) (answer : List ℕ) → concat (answers ++ answer ∷ []) ≡ concat answers ++ answer
concat_end answers answer = concat-append answers (answer ∷ []) ∙ ap (λ (l : List ℕ). concat answers ++ l) (append-nil answer)

-- they may have been told nothing
pub hears_none : (items : List First) → MayHear items []
hears_none [] = refl
hears_none (item ∷ items) = inl refl

-- ---- a block

module _ {S : Type 0} (step : S → First → List ℕ → S → Type 0) where
  amid_start : (s : S) → Amid step s s s [] []
  amid_start s = record { first = []; later = []; told = []; untold = []; items_are = refl; answers_are = refl; before = refl; behind = refl }

  pub amid_all : (old new kept : S) (items : List First) (answers : List (List ℕ)) → Run step old items answers new → kept ≡ new → Amid step old kept new items answers
  amid_all old new kept items answers run e = record {
    first = items;
    later = [];
    told = answers;
    untold = [];
    items_are = sym (append-nil items);
    answers_are = sym (append-nil answers);
    before = subst (λ (s : S). Run step old items answers s) (sym e) run;
    behind = sym e;
  }

  amid_more : (old kept mid new : S) (items others : List First) (answers replies : List (List ℕ)) → Amid step old kept mid items answers
      → Run step mid others replies new → Amid step old kept new (items ++ others) (answers ++ replies)
  amid_more old kept mid new items others answers replies a run = record {
    first = a.first;
    later = a.later ++ others;
    told = a.told;
    untold = a.untold ++ replies;
    items_are = ap (λ (l : List First). l ++ others) a.items_are ∙ append_assoc a.first a.later others;
    answers_are = ap (λ (l : List (List ℕ)). l ++ replies) a.answers_are ∙ append_assoc a.told a.untold replies;
    before = a.before;
    behind = run_join step kept mid new a.later others a.untold replies a.behind run;
  }

  -- Of the items before a place the answers are out up to some place, and the others are held back.
  pub record Gathered (hold : ℕ) (closed : Bool) (old now kept : S) (text rest : List ℕ) (ho hn : Option (List ℕ)) (wo wn : ℕ) (bytes : List ℕ) : Type 0 where
    pub mid : S
    pub between : List ℕ
    pub whole : Whole step false old mid text between ho hn wo wn
    pub items : List First
    pub answers : List (List ℕ)
    pub begins : BeginsWith between items rest
    pub ends : is_closed items ≡ closed
    pub run : Run step mid items answers now
    pub bytes_are : bytes ≡ concat answers
    pub few : length (concat answers) ≤ 2 ^ 65 * length items
    pub most : length (concat (take (length answers - 1) answers)) ≤ hold
    pub amid : Amid step mid kept now items answers

  pub gathered_none : (hold : ℕ) (old now : S) (text rest : List ℕ) (ho hn : Option (List ℕ)) (wo wn : ℕ) (bytes : List ℕ) (kept : S)
      → Whole step false old now text rest ho hn wo wn → bytes ≡ [] → kept ≡ now → Gathered hold false old now kept text rest ho hn wo wn bytes
  gathered_none hold old now text rest ho hn wo wn bytes kept whole none e = record {
    mid = now;
    between = rest;
    whole = whole;
    items = [];
    answers = [];
    begins = begins_none rest;
    ends = refl;
    run = refl;
    bytes_are = none;
    few = omega arith;
    most = omega arith;
    amid = subst (λ (s : S). Amid step now s now [] []) (sym e) (amid_start now);
  }

  module _ (hold : ℕ) (closed : Bool) (old now kept : S) (text rest : List ℕ) (ho hn : Option (List ℕ)) (wo wn : ℕ) (bytes : List ℕ)
      (a : Gathered hold closed old now kept text rest ho hn wo wn bytes) where
    -- they are written
    pub gathered_out : (hm : Option (List ℕ)) (wm : ℕ) → Appends hn hm bytes → wm ≡ wn + length bytes → Whole step closed old now text rest ho hm wo wm
    gathered_out hm wm wrote counted =
        whole_join step old a.mid now text a.between ho hn hm wo wn wm a.whole closed rest (record {
          items = a.items;
          answers = a.answers;
          begins = a.begins;
          ends = a.ends;
          run = a.run;
          wrote = subst (λ (s : List ℕ). Appends hn hm s) a.bytes_are wrote;
          counted = counted ∙ ap (λ (s : List ℕ). wn + length s) a.bytes_are;
          few = a.few;
        })

    -- a part of them is
    pub gathered_breaks : (hm : Option (List ℕ)) (wm : ℕ) (b : Bool) → Sent hn hm wn wm bytes b → Broken step hold old now text ho hm wo wm
    gathered_breaks hm wm b s = record {
      items = a.whole.items ++ a.items;
      rest = rest;
      answers = a.whole.answers ++ a.answers;
      sent = concat a.whole.answers ++ s.sent;
      begins = begins_join text a.whole.items a.between a.items rest a.whole.begins a.whole.ends a.begins;
      run = run_join step old a.mid now a.whole.items a.items a.whole.answers a.answers a.whole.run a.run;
      said = [];
      may = inl refl;
      reaches = (
        s.missing,
        append-nil (concat (a.whole.answers ++ a.answers)) ∙ concat-append a.whole.answers a.answers
            ∙ ap (λ (l : List ℕ). concat a.whole.answers ++ l) (sym a.bytes_are ∙ s.prefix)
            ∙ sym (append_assoc (concat a.whole.answers) s.sent s.missing),
        let j = all_but_join a.whole.answers a.answers in omega (arith, j, a.most, length-append (concat a.whole.answers) s.sent),
      );
      wrote = Appends-trans ho hn hm (concat a.whole.answers) s.sent a.whole.wrote s.wrote;
      counted = omega (arith, a.whole.counted, s.counted, length-append (concat a.whole.answers) s.sent);
    }

    -- none is
    pub gathered_lost : (hm : Option (List ℕ)) (after : S) → Appends hn hm [] → (after ≡ kept) ⊎ (after ≡ now) → Loses step old now after text ho hm
    gathered_lost hm after wrote which = record {
      items = a.whole.items ++ a.items;
      rest = rest;
      answers = a.whole.answers ++ a.answers;
      sent = concat a.whole.answers;
      begins = begins_join text a.whole.items a.between a.items rest a.whole.begins a.whole.ends a.begins;
      run = run_join step old a.mid now a.whole.items a.items a.whole.answers a.answers a.whole.run a.run;
      past = record {
        mid = a.mid;
        front = record {
          done = a.whole.items;
          others = a.items;
          out = a.whole.answers;
          back = a.answers;
          items_are = refl;
          answers_are = refl;
          said = [];
          hears = hears_none a.items;
          sent_is = sym (append-nil (concat a.whole.answers));
          run = a.whole.run;
        };
        amid = elim which [
          | inl same ↦ subst (λ (s : S). Amid step a.mid s now a.items a.answers) (sym same) a.amid
          | inr all ↦ amid_all a.mid now after a.items a.answers a.run all
        ];
      };
      wrote = subst (λ (l : List ℕ). Appends ho hm l) (append-nil (concat a.whole.answers)) (Appends-trans ho hn hm (concat a.whole.answers) [] a.whole.wrote wrote);
    }

  -- nothing more is out
  pub held_still : (hold : ℕ) (closed : Bool) (old now kept : S) (text rest : List ℕ) (ho hn : Option (List ℕ)) (wo wn : ℕ) (bytes : List ℕ)
      → Gathered hold closed old now kept text rest ho hn wo wn bytes → (hm : Option (List ℕ)) (wm : ℕ) (back : List ℕ) (after : S)
      → back ≡ bytes → Appends hn hm [] → wm ≡ wn → after ≡ kept → Gathered hold closed old now after text rest ho hm wo wm back
  held_still hold closed old now kept text rest ho hn wo wn bytes a hm wm back after same wrote counted keeps = record {
    mid = a.mid;
    between = a.between;
    whole = record {
      items = a.whole.items;
      answers = a.whole.answers;
      begins = a.whole.begins;
      ends = a.whole.ends;
      run = a.whole.run;
      wrote = subst (λ (l : List ℕ). Appends ho hm l) (append-nil (concat a.whole.answers)) (Appends-trans ho hn hm (concat a.whole.answers) [] a.whole.wrote wrote);
      counted = counted ∙ a.whole.counted;
      few = a.whole.few;
    };
    items = a.items;
    answers = a.answers;
    begins = a.begins;
    ends = a.ends;
    run = a.run;
    bytes_are = same ∙ a.bytes_are;
    few = a.few;
    most = a.most;
    amid = subst (λ (s : S). Amid step a.mid s now a.items a.answers) (sym keeps) a.amid;
  }

  -- one more
  pub gathered_one : (hold : ℕ) (old now kept : S) (text rest : List ℕ) (ho hn : Option (List ℕ)) (wo wn : ℕ) (bytes : List ℕ)
      → Gathered hold false old now kept text rest ho hn wo wn bytes → length bytes ≤ hold
      → (closed : Bool) (new after : S) (end answer : List ℕ) → One step closed now new rest end answer → (after ≡ kept) ⊎ (after ≡ new)
      → Gathered hold closed old new after text end ho hn wo wn (bytes ++ answer)
  gathered_one hold old now kept text rest ho hn wo wn bytes a le closed new after end answer one which =
      let run1 : Run step now (one.item ∷ []) (answer ∷ []) new = (new, one.stepped, refl) in
      let begins1 : BeginsWith rest (one.item ∷ []) end = subst (λ (t : List ℕ). BeginsWith rest (one.item ∷ []) t) (sym one.rest_is) (begins_one rest one.item one.is one.some) in
      let run = run_join step a.mid now new a.items (one.item ∷ []) a.answers (answer ∷ []) a.run run1 in
      let whole_bytes : bytes ++ answer ≡ concat (a.answers ++ answer ∷ []) = ap (λ (l : List ℕ). l ++ answer) a.bytes_are ∙ sym (concat_end a.answers answer) in
      record {
        mid = a.mid;
        between = a.between;
        whole = a.whole;
        items = a.items ++ one.item ∷ [];
        answers = a.answers ++ answer ∷ [];
        begins = begins_join a.between a.items rest (one.item ∷ []) end a.begins a.ends begins1;
        ends = closed_join a.items (one.item ∷ []) a.ends ∙ closed_one one.item ∙ one.closing;
        run = run;
        bytes_are = whole_bytes;
        few = omega (arith, a.few, one.fits, ap length (concat_end a.answers answer), length-append (concat a.answers) answer, length-append a.items (one.item ∷ []));
        most = omega (arith, le, ap length a.bytes_are, ap (λ (l : List (List ℕ)). length (concat l)) (all_but_end a.answers answer));
        amid = elim which [
          | inl same ↦ subst (λ (s : S). Amid step a.mid s new (a.items ++ one.item ∷ []) (a.answers ++ answer ∷ [])) (sym same)
              (amid_more a.mid kept now new a.items (one.item ∷ []) a.answers (answer ∷ []) a.amid run1)
          | inr all ↦ amid_all a.mid new after (a.items ++ one.item ∷ []) (a.answers ++ answer ∷ []) run all
        ];
      }

-- ---- one answer behind those of a block

sent_more : (ho hn : Option (List ℕ)) (wo wn : ℕ) (bytes others : List ℕ) (b : Bool) → Sent ho hn wo wn bytes b → Sent ho hn wo wn (bytes ++ others) false
sent_more ho hn wo wn bytes others b s = record {
  sent = s.sent;
  missing = s.missing ++ others;
  prefix = ap (λ (l : List ℕ). l ++ others) s.prefix ∙ append_assoc s.sent s.missing others;
  whole_out = λ e. cc;
  wrote = s.wrote;
  counted = s.counted;
}

passed_err : {S : Type 0} (now kept_old kept_new : S) (ho hn : Option (List ℕ)) (wo wn : ℕ) (bytes others back : List ℕ) (why : Stopped)
    → Passed now kept_old kept_new ho hn wo wn bytes [] (Err why) → Passed now kept_old kept_new ho hn wo wn (bytes ++ others) back (Err why)
passed_err now ko kn ho hn wo wn bytes others back stopped.Unwritten s = sent_more ho hn wo wn bytes others false s
passed_err now ko kn ho hn wo wn bytes others back stopped.Lost s = s

pub passed_on : {S : Type 0} (now kept_old kept_new : S) (ho hn : Option (List ℕ)) (wo wn : ℕ) (bytes others back : List ℕ) (result : Result (Unit {0}) Stopped) (why : Stopped)
    → result ≡ Err why → Passed now kept_old kept_new ho hn wo wn bytes [] (Err why) → Passed now kept_old kept_new ho hn wo wn (bytes ++ others) back result
passed_on now ko kn ho hn wo wn bytes others back result why is s =
    subst (λ (r : Result (Unit {0}) Stopped). Passed now ko kn ho hn wo wn (bytes ++ others) back r) (sym is) (passed_err now ko kn ho hn wo wn bytes others back why s)

pub flushed : {S : Type 0} (now kept_old kept_new : S) (ho hn : Option (List ℕ)) (wo wn : ℕ) (bytes : List ℕ)
    → Passed now kept_old kept_new ho hn wo wn bytes [] (Ok tt) → Appends ho hn bytes × (wn ≡ wo + length bytes)
flushed now ko kn ho hn wo wn bytes (inl (none, wrote, counted, same)) =
    (subst (λ (l : List ℕ). Appends ho hn l) none wrote, let n : length bytes ≡ 0 = ap length (sym none) in omega (arith, counted, n))
flushed now ko kn ho hn wo wn bytes (inr (none, wrote, counted, all)) = (wrote, counted)

pub sent_behind : {S : Type 0} (now kept_old kept_new : S) (ho hm hn : Option (List ℕ)) (wo wm wn : ℕ) (bytes answer : List ℕ) (b : Bool)
    → Passed now kept_old kept_new ho hm wo wm bytes [] (Ok tt) → Sent hm hn wm wn answer b → Sent ho hn wo wn (bytes ++ answer) false
sent_behind now ko kn ho hm hn wo wm wn bytes answer b f s =
    let p = flushed now ko kn ho hm wo wm bytes f in
    record {
      sent = bytes ++ s.sent;
      missing = s.missing;
      prefix = ap (λ (l : List ℕ). bytes ++ l) s.prefix ∙ sym (append_assoc bytes s.sent s.missing);
      whole_out = λ e. cc;
      wrote = Appends-trans ho hm hn bytes s.sent p.0 s.wrote;
      counted = omega (arith, p.1, s.counted, length-append bytes s.sent);
    }

pub all_behind : {S : Type 0} (now kept_old kept_new last : S) (ho hm hn : Option (List ℕ)) (wo wm wn : ℕ) (bytes answer back : List ℕ)
    → Passed now kept_old kept_new ho hm wo wm bytes [] (Ok tt) → Sent hm hn wm wn answer true → back ≡ [] → last ≡ now
    → Passed now kept_old last ho hn wo wn (bytes ++ answer) back (Ok tt)
all_behind now ko kn last ho hm hn wo wm wn bytes answer back f s none all =
    let p = flushed now ko kn ho hm wo wm bytes f in
    let same : s.sent ≡ answer = sym (append-nil s.sent) ∙ ap (λ (l : List ℕ). s.sent ++ l) (sym (s.whole_out refl)) ∙ sym s.prefix in
    inr (
      none,
      Appends-trans ho hm hn bytes answer p.0 (subst (λ (l : List ℕ). Appends hm hn l) same s.wrote),
      omega (arith, p.1, s.counted, ap length same, length-append bytes answer),
      all,
    )

-- ---- behind what is out whole

pub reaches_all : (hold : ℕ) (answers : List (List ℕ)) (said : List ℕ) → ReachesWithin hold answers said (concat answers ++ said)
reaches_all hold answers said =
    ([], sym (append-nil (concat answers ++ said)), let m = all_but_most answers in omega (arith, m, length-append (concat answers) said))

module _ {S : Type 0} (step : S → First → List ℕ → S → Type 0) where
  pub broken_join : (hold : ℕ) (old mid new : S) (text rest : List ℕ) (ho hm hn : Option (List ℕ)) (wo wm wn : ℕ) → Whole step false old mid text rest ho hm wo wm
      → Broken step hold mid new rest hm hn wm wn → Broken step hold old new text ho hn wo wn
  broken_join hold old mid new text rest ho hm hn wo wm wn a b = record {
    items = a.items ++ b.items;
    rest = b.rest;
    answers = a.answers ++ b.answers;
    sent = concat a.answers ++ b.sent;
    begins = begins_join text a.items rest b.items b.rest a.begins a.ends b.begins;
    run = run_join step old mid new a.items b.items a.answers b.answers a.run b.run;
    said = b.said;
    may = b.may;
    reaches = (
      b.reaches.0,
      ap (λ (l : List ℕ). l ++ b.said) (concat-append a.answers b.answers) ∙ append_assoc (concat a.answers) (concat b.answers) b.said
          ∙ ap (λ (l : List ℕ). concat a.answers ++ l) b.reaches.1 ∙ sym (append_assoc (concat a.answers) b.sent b.reaches.0),
      let j = all_but_join a.answers b.answers in omega (arith, j, b.reaches.2, length-append (concat a.answers) b.sent),
    );
    wrote = Appends-trans ho hm hn (concat a.answers) b.sent a.wrote b.wrote;
    counted = omega (arith, a.counted, b.counted, length-append (concat a.answers) b.sent);
  }

  pub loses_join : (old mid new : S) (text rest : List ℕ) (ho hm hn : Option (List ℕ)) (wo wm : ℕ) → Whole step false old mid text rest ho hm wo wm
      → (kept : S) → Loses step mid new kept rest hm hn → Loses step old new kept text ho hn
  loses_join old mid new text rest ho hm hn wo wm a kept b = record {
    items = a.items ++ b.items;
    rest = b.rest;
    answers = a.answers ++ b.answers;
    sent = concat a.answers ++ b.sent;
    begins = begins_join text a.items rest b.items b.rest a.begins a.ends b.begins;
    run = run_join step old mid new a.items b.items a.answers b.answers a.run b.run;
    past = record {
      mid = b.past.mid;
      front = record {
        done = a.items ++ b.past.front.done;
        others = b.past.front.others;
        out = a.answers ++ b.past.front.out;
        back = b.past.front.back;
        items_are = ap (λ (l : List First). a.items ++ l) b.past.front.items_are ∙ sym (append_assoc a.items b.past.front.done b.past.front.others);
        answers_are = ap (λ (l : List (List ℕ)). a.answers ++ l) b.past.front.answers_are
            ∙ sym (append_assoc a.answers b.past.front.out b.past.front.back);
        said = b.past.front.said;
        hears = b.past.front.hears;
        sent_is =
            ap (λ (l : List ℕ). concat a.answers ++ l) b.past.front.sent_is
            ∙ sym (append_assoc (concat a.answers) (concat b.past.front.out) b.past.front.said)
            ∙ ap (λ (l : List ℕ). l ++ b.past.front.said) (sym (concat-append a.answers b.past.front.out));
        run = run_join step old mid b.past.mid a.items b.past.front.done a.answers b.past.front.out a.run b.past.front.run;
      };
      amid = b.past.amid;
    };
    wrote = Appends-trans ho hm hn (concat a.answers) b.sent a.wrote b.wrote;
  }
