-- What a station has seen it sees still, its receipts are not fewer, and what it learnt it sees.
use Rattle.std.proofs.Common.{◌≡◌, ◌≤◌, ℕ, Bool, true, false, List, [], ◌∷◌, inl, inr, refl, subst, sym, ◌∙◌, arith}
use Rattle.std.specs.Prelude.{Result}
use Rattle.std.proofs.lemmas.List.{append-nil}
use mathlib.Core.List.{IsPrefix}
use Rattle.st_http.specs.First.{First, message, fault, more}
use Rattle.st_connection.specs.Connection.{KeptPast, KeptUnlessLost, Run, Served, ServedWithin, WithInterim}
use Rattle.st_connection.specs.Streams.{Streams}
use Rattle.st_connection.specs.declared.connection.Ended.{Ended}
use Rattle.st_connection.specs.declared.connection.IoFault.{IoFault}
use Rattle.st_service.specs.Answers.{ForItems, Parsed, parsed}
use Rattle.st_hall.specs.Steps.{Ask, HallState}
use Rattle.st_hall.specs.Views.{Seat, Post, Learns}
use Rattle.st_hall_press.proofs.Fronts.{prefix_self, prefix_trans}
use Rattle.st_hall_station.specs.Seats.{Moves, SeatAnswers, read, made, stranger, untold, busy, unrouted}
use Rattle.st_hall.specs.Decisions.{Standing}
use Rattle.st_hall_station.specs.Posts.{StationAnswers}
use Rattle.st_hall_station.specs.Standing.{KeptAnswers, OutKept, ServesKept}

abbrev pub Grows : Seat → Seat → Type 0
Grows s t = IsPrefix s.seen t.seen × (s.made ≤ t.made)

stays : (s : Seat) → Grows s s
stays s = (([], append-nil s.seen), omega arith)

moved : (count : ℕ) (s t : Seat) → Moves count s t → Grows s t
moved count s t m = (m.seen, omega (arith, m.made))

seat_grows : (start : HallState) (s t : Seat) (p : Parsed) (answer : List ℕ) → SeatAnswers start s p answer t → Grows s t
seat_grows start s t p answer (read asks still m is) = moved 0 s t m
seat_grows start s t p answer (made asks (change, ends, m) is) = moved 1 s t m
seat_grows start s t p answer (stranger found none m is) = moved 0 s t m
seat_grows start s t p answer (untold asks (change, ends, m) is) = moved 1 s t m
seat_grows start s t p answer (busy m is) = moved 0 s t m
seat_grows start s t p answer (unrouted none same is) = subst (Grows s) (sym same) (stays s)

pub item_grows : (start : HallState) (s t : Seat) (item : First) (answer : List ℕ) → ForItems (SeatAnswers start) s item answer t → Grows s t
item_grows start s t (message h body bare) answer told = seat_grows start s t (parsed h body bare) answer told
item_grows start s t (fault reason bare) answer (is, same) = subst (Grows s) (sym same) (stays s)
item_grows start s t (more waits) answer told = absurd told

one_grows : (start : HallState) (s t : Post) (item : First) (answer : List ℕ) → StationAnswers start s item answer t → Grows s.seat t.seat
one_grows start s t (message h body bare) answer one = seat_grows start s.seat t.seat (parsed h body bare) answer one.seat
one_grows start s t (fault reason bare) answer (is, same) = subst (λ (u : Post). Grows s.seat u.seat) (sym same) (stays s.seat)
one_grows start s t (more waits) answer one = absurd one

-- each item makes the seat grow, and so do all of them
pub run_grows : (start : HallState) (s t : Post) (items : List First) (answers : List (List ℕ)) → Run (WithInterim (StationAnswers start)) s items answers t
    → Grows s.seat t.seat
run_grows start s t [] [] same = subst (λ (u : Post). Grows s.seat u.seat) (sym same) (stays s.seat)
run_grows start s t [] (a ∷ answers) h = absurd h
run_grows start s t (i ∷ items) [] h = absurd h
run_grows start s t (i ∷ items) (a ∷ answers) (m, (answer, is, told), rest) =
    let first = one_grows start s m i answer told in
    let later = run_grows start m t items answers rest in
    (prefix_trans _ _ _ first.0 later.0, omega (arith, first.1, later.1))

learns_more : (s t : Post) → Learns s t → IsPrefix s.seat.seen t.seat.seen → IsPrefix s.learnt s.seat.seen
    → IsPrefix s.learnt t.learnt × IsPrefix t.learnt t.seat.seen
learns_more s t (inl same) seen begins = (
  subst (λ (l : List Ask). IsPrefix s.learnt l) (sym same) (prefix_self s.learnt),
  subst (λ (l : List Ask). IsPrefix l t.seat.seen) (sym same) (prefix_trans _ _ _ begins seen),
)
learns_more s t (inr learns) seen begins = (prefix_trans _ _ _ begins learns.0, learns.1)

one_remembers : (start : HallState) (s t : Post) (item : First) (answer : List ℕ) → StationAnswers start s item answer t → IsPrefix s.learnt s.seat.seen
    → IsPrefix s.learnt t.learnt × IsPrefix t.learnt t.seat.seen
one_remembers start s t (message h body bare) answer one begins =
    learns_more s t one.learns (seat_grows start s.seat t.seat (parsed h body bare) answer one.seat).0 begins
one_remembers start s t (fault reason bare) answer (is, same) begins =
    subst (λ (u : Post). IsPrefix s.learnt u.learnt × IsPrefix u.learnt u.seat.seen) (sym same) (prefix_self s.learnt, begins)
one_remembers start s t (more waits) answer one begins = absurd one

pub run_remembers : (start : HallState) (s t : Post) (items : List First) (answers : List (List ℕ)) → Run (WithInterim (StationAnswers start)) s items answers t
    → IsPrefix s.learnt s.seat.seen → IsPrefix s.learnt t.learnt × IsPrefix t.learnt t.seat.seen
run_remembers start s t [] [] same begins =
    subst (λ (u : Post). IsPrefix s.learnt u.learnt × IsPrefix u.learnt u.seat.seen) (sym same) (prefix_self s.learnt, begins)
run_remembers start s t [] (a ∷ answers) h begins = absurd h
run_remembers start s t (i ∷ items) [] h begins = absurd h
run_remembers start s t (i ∷ items) (a ∷ answers) (m, (answer, is, one), rest) begins =
    let first = one_remembers start s m i answer one begins in
    let later = run_remembers start m t items answers rest first.1 in
    (prefix_trans _ _ _ first.0 later.0, later.1)

module _ (start : HallState) (kept : List Ask) where
  -- where what is seen in the end begins what is kept, so does what was seen on the way
  pub run_kept : (s t : Post) (items : List First) (answers : List (List ℕ)) → IsPrefix t.seat.seen kept → Run (WithInterim (StationAnswers start)) s items answers t
      → Run (WithInterim (KeptAnswers start kept)) s items answers t
  run_kept s t [] [] has same = same
  run_kept s t [] (a ∷ answers) has h = absurd h
  run_kept s t (i ∷ items) [] has h = absurd h
  run_kept s t (i ∷ items) (a ∷ answers) has (m, (answer, is, one), rest) = (
    m,
    (answer, is, record { told = one; has = prefix_trans m.seat.seen t.seat.seen kept (run_grows start m t items answers rest).0 has }),
    run_kept m t items answers has rest,
  )

  -- what is out of a connection that ended as lost
  pub out_kept : (s synced t : Post) (items : List First) (answers : List (List ℕ)) (sent : List ℕ) → IsPrefix synced.seat.seen kept
      → KeptPast (WithInterim (StationAnswers start)) s synced t items answers sent → OutKept start kept s items answers sent
  out_kept s synced t items answers sent has past = (
    past.mid,
    record {
      done = past.front.done;
      others = past.front.others;
      out = past.front.out;
      back = past.front.back;
      items_are = past.front.items_are;
      answers_are = past.front.answers_are;
      said = past.front.said;
      hears = past.front.hears;
      sent_is = past.front.sent_is;
      run = run_kept s past.mid past.front.done past.front.out
          (prefix_trans past.mid.seat.seen synced.seat.seen kept (run_grows start past.mid synced past.amid.first past.amid.told past.amid.before).0 has) past.front.run;
    },
  )

module _ (start : HallState) (hold : ℕ) where
  pub serves_kept : (size : ℕ) (s t : Standing) (streams : Streams) (result : Result Ended IoFault) → s.has_failed ≡ false → size ≡ hold
      → ServedWithin (StationAnswers start) size s.post t.post t.synced streams result
      → KeptUnlessLost t.synced t.post t.has_failed result
      → ServesKept start hold s t streams result
  serves_kept size s t streams result here is served synced = (
    λ _. record {
      within = subst (λ (n : ℕ). ServedWithin (StationAnswers start) n s.post t.post t.synced streams result) is served;
      unless_lost = synced;
    },
    λ lost. absurd (let f : false ≡ true = sym here ∙ lost in cc),
  )

  -- a station has seen all that it had seen
  pub goes_on : (s t : Standing) (streams : Streams) (result : Result Ended IoFault)
      → ServesKept start hold s t streams result → Grows s.post.seat t.post.seat
  goes_on s t streams result serves = by_case s.has_failed refl
    where
      by_case : (b : Bool) → s.has_failed ≡ b → Grows s.post.seat t.post.seat
      by_case true was = subst (λ (u : Standing). Grows s.post.seat u.post.seat) (sym (serves.1 was).same) (stays s.post.seat)
      by_case false was = let within = (serves.0 was).within in run_grows start s.post t.post within.items within.answers within.run

-- where nothing is held back and nothing is lost, each answer was written at once
pub serves_at_once : (start : HallState) (s t : Standing) (streams : Streams) (result : Result Ended IoFault) → s.has_failed ≡ false → (t.has_failed ≡ true → ⊥)
    → ServesKept start 0 s t streams result
    → Served (StationAnswers start) s.post t.post streams result
serves_at_once start s t streams result here never serves =
    let sound = serves.0 here in
    record { kept = t.synced; within = sound.within; not_lost = λ lost. never (sound.unless_lost.lost lost) }
