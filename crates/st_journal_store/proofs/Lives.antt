-- What went out before a crash, and the state that the next opening finds.
use Rattle.std.proofs.Common.{◌≡◌, ◌≢◌, ◌⊎◌, inl, inr, ℕ, Bool, true, false, List, [], ◌∷◌, ◌++◌, Ok, Err, refl, sym, ap, subst, ◌∙◌, append_assoc, append-nil}
use Rattle.std.specs.Prelude.{Result}
use Rattle.std.specs.List.{concat}
use Rattle.std.proofs.lemmas.List.Folds.{concat-append}
use Rattle.st_http.specs.First.{First, expects}
use Rattle.st_connection.specs.Connection.{Ahead, Answering, EndsWithin, KeptPast, KeptUnlessLost, MayHear, Run, SaysAll, ServedWithin, WithInterim}
use Rattle.st_connection.specs.Streams.{Streams}
use Rattle.st_connection.specs.Render.{continue_text, interim}
use Rattle.st_connection.specs.declared.connection.Ended.{Ended}
use Rattle.st_connection.specs.declared.connection.Ended.TheVariants.{Clean, Closed, Cut, TurnsSpent, Lost}
use Rattle.st_connection.specs.declared.connection.IoFault.{IoFault}
use Rattle.st_connection.proofs.Joins.{run_join}
use Rattle.st_journal_store.specs.Found.{FoundAfter}

-- where both are one state, it is found
at_new : {S : Type 0} {kept new found : S} → kept ≡ new → (found ≡ kept) ⊎ (found ≡ new) → found ≡ new
at_new same (inl is) = is ∙ same
at_new same (inr is) = is

-- what may be said behind the answers
abbrev MaySay : List ℕ → Type 0
MaySay said = (said ≡ []) ⊎ (said ≡ continue_text)

interim_may : (due : Bool) → MaySay (interim due)
interim_may true = inr refl
interim_may false = inl refl

ahead_may : (rest said : List ℕ) → Ahead rest said → MaySay said
ahead_may rest said (first, is, e) = subst MaySay (sym e) (interim_may (expects first))

hears_may : (items : List First) (said : List ℕ) → MayHear items said → MaySay said
hears_may [] said e = inl e
hears_may (item ∷ items) said (inl e) = inl e
hears_may (item ∷ items) said (inr e) = subst MaySay (sym e) (interim_may (expects item))

-- all of the answers, what is said behind them, and what is missing of it
record Front {S : Type 0} (step : Answering S) (old found : S) (sent : List ℕ) : Type 0 where
  items : List First
  answers : List (List ℕ)
  run : Run (WithInterim step) old items answers found
  said : List ℕ
  may : MaySay said
  missing : List ℕ
  all : concat answers ++ said ≡ sent ++ missing

-- answers of which the first begins with what its item was told ahead
record Behind (answers : List (List ℕ)) (ahead : List ℕ) : Type 0 where
  said : List ℕ
  may : MaySay said
  missing : List ℕ
  all : concat answers ++ said ≡ ahead ++ missing

behind_of : {S : Type 0} (step : Answering S) (old new : S) (items others : List First) (answers : List (List ℕ)) (ahead : List ℕ)
    → Run (WithInterim step) old items answers new → MayHear (items ++ others) ahead → Behind answers ahead
behind_of step old new [] others [] ahead run hears =
    record { said = ahead; may = hears_may others ahead hears; missing = []; all = sym (append-nil ahead) }
behind_of step old new [] others (text ∷ texts) ahead run hears = absurd run
behind_of step old new (item ∷ items) others [] ahead run hears = absurd run
behind_of step old new (item ∷ items) others (text ∷ texts) ahead run (inl none) = record {
  said = [];
  may = inl refl;
  missing = concat (text ∷ texts);
  all = append-nil (concat (text ∷ texts)) ∙ ap (λ (l : List ℕ). l ++ concat (text ∷ texts)) (sym none);
}
behind_of step old new (item ∷ items) others (text ∷ texts) ahead (mid, (answer, is, one), rest) (inr told) = record {
  said = [];
  may = inl refl;
  missing = answer ++ concat texts;
  all = append-nil (text ++ concat texts) ∙ ap (λ (l : List ℕ). l ++ concat texts) (is ∙ ap (λ (l : List ℕ). l ++ answer) (sym told))
      ∙ append_assoc ahead answer (concat texts);
}

module _ {S : Type 0} (step : Answering S) (old new kept found : S) (items : List First) (rest : List ℕ) (answers : List (List ℕ))
    (sent : List ℕ) (run : Run (WithInterim step) old items answers new) where
  to_new : (said missing : List ℕ) → MaySay said → concat answers ++ said ≡ sent ++ missing → found ≡ new → Front step old found sent
  to_new said missing may all is = record {
    items = items;
    answers = answers;
    run = subst (λ (s : S). Run (WithInterim step) old items answers s) (sym is) run;
    said = said;
    may = may;
    missing = missing;
    all = all;
  }

  -- all went out
  whole : sent ≡ concat answers → found ≡ new → Front step old found sent
  whole all is = to_new [] [] (inl refl) (append-nil (concat answers) ∙ sym all ∙ sym (append-nil sent)) is

  -- and what the rest is told ahead
  says_all : SaysAll rest answers sent → found ≡ new → Front step old found sent
  says_all (said, ahead, all) is = to_new said [] (ahead_may rest said ahead) (sym all ∙ sym (append-nil sent)) is

  -- behind whole answers
  joins : (out others : List (List ℕ)) (ahead : List ℕ) → sent ≡ concat out ++ ahead → (b : Behind others ahead) → concat (out ++ others) ++ b.said ≡ sent ++ b.missing
  joins out others ahead is b =
      ap (λ (l : List ℕ). l ++ b.said) (concat-append out others) ∙ append_assoc (concat out) (concat others) b.said
      ∙ ap (λ (l : List ℕ). concat out ++ l) b.all ∙ sym (append_assoc (concat out) ahead b.missing)
      ∙ ap (λ (l : List ℕ). l ++ b.missing) (sym is)

  to_kept : KeptPast (WithInterim step) old kept new items answers sent → found ≡ kept → Front step old found sent
  to_kept past is =
      let b = behind_of step past.mid kept past.amid.first past.amid.later past.amid.told past.front.said past.amid.before
      (subst (λ (l : List First). MayHear l past.front.said) past.amid.items_are past.front.hears) in
      record {
        items = past.front.done ++ past.amid.first;
        answers = past.front.out ++ past.amid.told;
        run = subst (λ (s : S). Run (WithInterim step) old (past.front.done ++ past.amid.first) (past.front.out ++ past.amid.told) s) (sym is)
            (run_join (WithInterim step) old past.mid kept past.front.done past.amid.first past.front.out past.amid.told past.front.run past.amid.before);
        said = b.said;
        may = b.may;
        missing = b.missing;
        all = joins past.front.out past.amid.told past.front.said past.front.sent_is b;
      }

  past_new : KeptPast (WithInterim step) old kept new items answers sent → found ≡ new → Front step old found sent
  past_new past is =
      let later = run_join (WithInterim step) past.mid kept new past.amid.first past.amid.later past.amid.told past.amid.untold past.amid.before past.amid.behind in
      let b = behind_of step past.mid new (past.amid.first ++ past.amid.later) [] (past.amid.told ++ past.amid.untold) past.front.said later
      (subst (λ (l : List First). MayHear l past.front.said) (past.amid.items_are ∙ sym (append-nil (past.amid.first ++ past.amid.later))) past.front.hears) in
      to_new b.said b.missing b.may
      (ap (λ (l : List (List ℕ)). concat l ++ b.said) (past.front.answers_are ∙ ap (λ (l : List (List ℕ)). past.front.out ++ l) past.amid.answers_are)
      ∙ joins past.front.out (past.amid.told ++ past.amid.untold) past.front.said past.front.sent_is b) is

  may_front : (said : List ℕ) → (said ≡ []) ⊎ Ahead rest said → MaySay said
  may_front said (inl e) = inl e
  may_front said (inr ahead) = ahead_may rest said ahead

  front : (result : Result Ended IoFault) (failed : Bool) (given : List ℕ) → EndsWithin (WithInterim step) 0 old new kept result failed given items rest answers sent
      → (result ≢ Ok Lost → kept ≡ new) → (found ≡ kept) ⊎ (found ≡ new) → Front step old found sent
  front (Ok Clean) failed given e synced is = whole e.3 (at_new (synced (λ l. cc)) is)
  front (Ok Closed) failed given e synced is = whole e.2 (at_new (synced (λ l. cc)) is)
  front (Ok Cut) failed given (all, stays, some, says) synced is = says_all says (at_new (synced (λ l. cc)) is)
  front (Ok TurnsSpent) failed given (all, stays, says) synced is = says_all says (at_new (synced (λ l. cc)) is)
  front (Ok Lost) failed given (begins, past) synced (inl is) = to_kept past is
  front (Ok Lost) failed given (begins, past) synced (inr is) = past_new past is
  front (Err broken) failed given (begins, (counted, (said, may, (missing, all, few)), read)) synced is =
      to_new said missing (may_front said may) all (at_new (synced (λ l. cc)) is)

pub found_after : {S : Type 0} (step : Answering S) (old new kept found : S) (streams : Streams) (failed : Bool) (result : Result Ended IoFault)
    → ServedWithin step 0 old new kept streams result → KeptUnlessLost kept new failed result
    → (found ≡ kept) ⊎ (found ≡ new) → FoundAfter step old found streams
found_after step old new kept found streams failed result s k is =
    let f = front step old new kept found s.items s.rest s.answers s.sent s.run result streams.read_failed s.given s.ending k.synced is in
    record {
      items = f.items;
      answers = f.answers;
      run = f.run;
      sent = s.sent;
      wrote = s.wrote;
      said = f.said;
      may = f.may;
      missing = f.missing;
      all = f.all;
    }
