-- Answers to a user in two runs of the same items.
use Rattle.std.proofs.Common.{◌≡◌, ℕ, ◌-◌, List, [], ◌∷◌, Bool, true, false, refl, sym, ap, subst, arith}
use Rattle.std.proofs.lemmas.List.Elements.{All-head, All-tail}
use Rattle.st_text.specs.Texts.{Text}
use Rattle.st_http.specs.First.{First}
use Rattle.st_core.specs.Worlds.{NeverSystem, keep}
use Rattle.st_connection.specs.Connection.{Run, WithInterim}
use Rattle.st_service.specs.Answers.{IsBusy, NoneBusy}
use Rattle.st_service.specs.Worlds.{is_of, answers_to}
use Rattle.st_hall.specs.Steps.{Ask, HallState}
use Rattle.st_hall.specs.Views.{Post}
use Rattle.st_hall_station.specs.Seats.{Moves}
use Rattle.st_hall_station.specs.Posts.{StationAnswers}
use Rattle.st_hall_station.specs.Sights.{sights}
use Rattle.st_hall_station.proofs.Agreeing.{never_before}
use Rattle.st_hall_station.proofs.EqualBytes.{equal_told}
use Rattle.st_hall_station.proofs.Growing.{run_grows}

abbrev Sights : Type 0
Sights = List (List Ask × ℕ)

abbrev first_kept : Sights → List Ask
first_kept [] = []
first_kept (sight ∷ rest) = sight.0

abbrev first_made : Sights → ℕ
first_made [] = 0
first_made (sight ∷ rest) = sight.1

abbrev later : Sights → Sights
later [] = []
later (sight ∷ rest) = rest

module _ (start : HallState) (user : Text) where
  moves_by : (s t : Post) (item : First) (text : List ℕ) → WithInterim (StationAnswers start) s item text t → Moves (t.seat.made - s.seat.made) s.seat t.seat
  moves_by s t item text one =
      let grows = run_grows start s t (item ∷ []) (text ∷ []) (t, one, refl) in
      record { seen = grows.0; made = omega (arith, grows.1) }

  one_equal : (item : First) (s t u v : Post) (text other : List ℕ) → is_of user item ≡ true → WithInterim (StationAnswers start) s item text t
      → WithInterim (StationAnswers start) u item other v → (IsBusy text → ⊥) → (IsBusy other → ⊥) → NeverSystem user start t.seat.seen
      → NeverSystem user start v.seat.seen → keep user start t.seat.seen ≡ keep user start v.seat.seen
      → t.seat.made - s.seat.made ≡ v.seat.made - u.seat.made → text ≡ other
  one_equal item s t u v text other own one another some some_too never never_too same counted =
      let here = moves_by s t item text one in
      let there = subst (λ k. Moves k u.seat v.seat) (sym counted) (moves_by u v item other another) in
      equal_told start user item (t.seat.made - s.seat.made) s t u v text other own one another some some_too here there never never_too same

  pub equal_runs : (items : List First) (s t u v : Post) (texts others : List (List ℕ)) (run : Run (WithInterim (StationAnswers start)) s items texts t)
      (other : Run (WithInterim (StationAnswers start)) u items others v) → NoneBusy texts → NoneBusy others
      → NeverSystem user start t.seat.seen → NeverSystem user start v.seat.seen
      → sights user start s t items texts run ≡ sights user start u v items others other → answers_to user items texts ≡ answers_to user items others
  equal_runs [] s t u v [] [] run other some some_too never never_too same = refl
  equal_runs [] s t u v [] (x ∷ others) run other some some_too never never_too same = absurd other
  equal_runs [] s t u v (text ∷ texts) others run other some some_too never never_too same = absurd run
  equal_runs (item ∷ items) s t u v [] others run other some some_too never never_too same = absurd run
  equal_runs (item ∷ items) s t u v (text ∷ texts) [] run other some some_too never never_too same = absurd other
  equal_runs (item ∷ items) s t u v (text ∷ texts) (x ∷ others) (m, one, rest) (n, another, rest_too) some some_too never never_too same =
      at (is_of user item) refl
      (equal_runs items m t n v texts others rest rest_too (All-tail (λ a. IsBusy a → ⊥) text texts some)
      (All-tail (λ a. IsBusy a → ⊥) x others some_too) never never_too (ap later same))
    where
      never_here : NeverSystem user start m.seat.seen
      never_here = never_before user start m.seat.seen t.seat.seen (run_grows start m t items texts rest).0 never

      never_there : NeverSystem user start n.seat.seen
      never_there = never_before user start n.seat.seen v.seat.seen (run_grows start n v items others rest_too).0 never_too

      first : is_of user item ≡ true → text ≡ x
      first own =
          one_equal item s m u n text x own one another (All-head (λ a. IsBusy a → ⊥) text texts some)
          (All-head (λ a. IsBusy a → ⊥) x others some_too) never_here never_there (ap first_kept same) (ap first_made same)

      at : (b : Bool) → is_of user item ≡ b → answers_to user items texts ≡ answers_to user items others
          → answers_to user (item ∷ items) (text ∷ texts) ≡ answers_to user (item ∷ items) (x ∷ others)
      at true own ih = let head = first own in simp own (λ i. head i ∷ ih i)
      at false own ih = simp own ih
