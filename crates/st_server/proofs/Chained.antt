-- What was kept of each connection that the workers of a hall served is kept in the end.
use Rattle.std.proofs.Common.{◌≡◌, ◌≢◌, ℕ, Bool, true, false, List, [], ◌∷◌, Option, Some, None, refl, sym, subst, ◌∙◌, arith}
use Rattle.std.specs.Prelude.{Result, Ok, Err, slice_index_or}
use Rattle.std.specs.List.{All}
use mathlib.Core.List.{IsPrefix}
use Rattle.st_connection.specs.Streams.{Streams}
use Rattle.st_connection.specs.declared.connection.Ended.{Ended}
use Rattle.st_connection.specs.declared.connection.Ended.TheVariants.{Clean, Closed, Cut, TurnsSpent, Lost}
use Rattle.st_connection.specs.declared.connection.IoFault.{IoFault}
use Rattle.st_hall_press.proofs.Fronts.{prefix_self, prefix_trans}
use Rattle.st_hall.specs.Steps.{Ask, HallState as State}
use Rattle.st_hall.specs.Views.{Post}
use Rattle.st_hall.specs.Decisions.{Standing}
use Rattle.st_server_peer.specs.Meeting.{Call, MeetsClient, MeetsAll}
use Rattle.st_hall_station.specs.Standing.{ServesKept, ServesSound}
use Rattle.st_hall_station.proofs.Growing.{run_grows}
use Rattle.st_server_workers.specs.Working.{WorkedEach}
use Rattle.st_server_workers.specs.declared.working.Worked.{Worked}
use Rattle.st_server.specs.Attending.{AreNew, HasSynced, ServesWithin}

-- unless a sync failed, all that was seen was kept
abbrev pub IsSynced : Standing → Type 0
IsSynced s = s.has_failed ≡ false → s.synced ≡ s.post

-- it still is, and what was kept before is a beginning of it
abbrev pub Onward : Standing → Standing → Type 0
Onward s t = IsSynced t × IsPrefix s.synced.seat.seen t.synced.seat.seen

unmoved : (s t : Standing) → IsSynced s → t ≡ s → Onward s t
unmoved s t synced is = subst (Onward s) (sym is) (synced, prefix_self s.synced.seat.seen)

module _ (start : State) (hold : ℕ) (s t : Standing) (streams : Streams) where
  not_lost : (result : Result Ended IoFault) → result ≢ Ok Lost → s.synced ≡ s.post
      → ServesSound start hold s t streams result → Onward s t
  not_lost result alive same sound =
      let now = sound.unless_lost.synced alive in
      let grows = (run_grows start s.post t.post sound.within.items sound.within.answers sound.within.run).0 in (
        λ _. now,
        subst (λ (p : Post). IsPrefix p.seat.seen t.synced.seat.seen) (sym same)
            (subst (λ (p : Post). IsPrefix s.post.seat.seen p.seat.seen) (sym now) grows),
      )

  is_lost : s.synced ≡ s.post → ServesSound start hold s t streams (Ok Lost) → Onward s t
  is_lost same sound =
      let past = sound.within.ending.1 in let fails = sound.unless_lost.lost refl in (
        λ here. absurd (let f : false ≡ true = sym here ∙ fails in cc),
        subst (λ (p : Post). IsPrefix p.seat.seen t.synced.seat.seen) (sym same) (prefix_trans s.post.seat.seen past.mid.seat.seen t.synced.seat.seen
            (run_grows start s.post past.mid past.front.done past.front.out past.front.run).0
            (run_grows start past.mid t.synced past.amid.first past.amid.told past.amid.before).0),
      )

  by_end : (result : Result Ended IoFault) → s.synced ≡ s.post
      → ServesSound start hold s t streams result → Onward s t
  by_end (Ok Lost) same sound = is_lost same sound
  by_end (Ok Clean) same sound = not_lost (Ok Clean) (λ e. absurd (cc e)) same sound
  by_end (Ok Closed) same sound = not_lost (Ok Closed) (λ e. absurd (cc e)) same sound
  by_end (Ok Cut) same sound = not_lost (Ok Cut) (λ e. absurd (cc e)) same sound
  by_end (Ok TurnsSpent) same sound = not_lost (Ok TurnsSpent) (λ e. absurd (cc e)) same sound
  by_end (Err broken) same sound = not_lost (Err broken) (λ e. absurd (cc e)) same sound

  served : (result : Result Ended IoFault) → IsSynced s
      → ServesKept start hold s t streams result → Onward s t
  served result synced serves = by_case s.has_failed refl
    where
      by_case : (b : Bool) → s.has_failed ≡ b → Onward s t
      by_case true was = unmoved s t synced (serves.1 was).same
      by_case false was = by_end result (synced was) (serves.0 was)

module _ (start : State) (hold : ℕ) (kept : List Ask) {P : Type 0} (call : P → Call) where
  met : (s t : Standing) (client : Call) (ended : Option (Result Ended IoFault)) → IsSynced s
      → MeetsClient (ServesKept start hold) s client ended t → Onward s t
  met s t client None synced meets = unmoved s t synced meets.1
  met s t client (Some ended) synced meets =
      served start hold s t meets.streams ended synced meets.served

  met_all : (s : Standing) (clients : List P) (t : Standing) → IsSynced s → MeetsAll (ServesKept start hold) call s clients t → IsSynced t
  met_all s [] t synced is = (unmoved s t synced is).0
  met_all s (client ∷ before) t synced (mid, ended, rest, meets) = (met mid t (call client) ended (met_all s before mid synced rest) meets).0

  -- a client that was met is met so, where what was kept then is kept in the end
  met_so : (s t : Standing) (client : Call) (ended : Option (Result Ended IoFault)) → IsPrefix t.synced.seat.seen kept
      → MeetsClient (ServesKept start hold) s client ended t → MeetsClient (ServesWithin start hold kept) s client ended t
  met_so s t client None has meets = meets
  met_so s t client (Some ended) has meets = record {
    streams = meets.streams;
    served = record { served = meets.served; has = has };
    ends = meets.ends;
    begun = meets.begun;
  }

  all_met_so : (s : Standing) (clients : List P) (t : Standing) → IsSynced s → IsPrefix t.synced.seat.seen kept
      → MeetsAll (ServesKept start hold) call s clients t
      → MeetsAll (ServesWithin start hold kept) call s clients t
  all_met_so s [] t synced has is = is
  all_met_so s (client ∷ before) t synced has (mid, ended, rest, meets) =
      let last = met mid t (call client) ended (met_all s before mid synced rest) meets in (
        mid,
        ended,
        all_met_so s before mid synced (prefix_trans mid.synced.seat.seen t.synced.seat.seen kept last.1 has) rest,
        met_so mid t (call client) ended has meets,
      )

  pub each_so : (stations : List Standing) (workers : List (Worked Standing)) → AreNew stations
      → HasSynced (λ station. station) workers kept
      → WorkedEach (ServesKept start hold) call stations workers
      → WorkedEach (ServesWithin start hold kept) call stations workers
  each_so stations workers new has (alike, each) = (
    alike,
    λ i d e below.
        let m = each i d e below in
        let fresh = subst IsSynced (sym (new i d (omega (arith, alike, below)))) (λ _. refl) in
        (m.0, m.1, all_met_so (slice_index_or stations i d) m.0 (slice_index_or workers i e).attendant fresh (has i e below) m.2),
  )
