-- What is written for what was read, and how a connection ends.
use Rattle.std.specs.Prelude.{◌≡◌, ◌≢◌, ◌⊎◌, ◌-◌, ◌+◌, ◌^◌, ◌≤◌, ℕ, Bool, true, false, Result, Ok, Err, OnOk, IsErr, min}
use Rattle.std.specs.Prelude.{List, [], ◌∷◌, ◌++◌, length, take}
use Rattle.std.specs.List.{concat}
use Rattle.std.specs.Io.KnownBytes.{Appends, Consumes, IsAtEnd}
use Rattle.httparse.specs.Grammar.{RequestHead}
use Rattle.st_http.specs.declared.message.Message.{Message}
use Rattle.st_http.specs.First.{First, message, IsFirst, expects}
use Rattle.st_http.specs.Items.{Items}
use Rattle.st_http.specs.Message.{RepresentsMessage}
use Rattle.st_connection.specs.Items.{BeginsWith, is_closed}
use Rattle.st_connection.specs.Streams.{Streams}
use Rattle.st_connection.specs.Render.{interim}
use Rattle.st_connection.specs.declared.connection.Ended.{Ended}
use Rattle.st_connection.specs.declared.connection.Ended.TheVariants.{Clean, Closed, Cut, TurnsSpent, Lost}
use Rattle.st_connection.specs.declared.connection.IoFault.{IoFault}

-- which answers an item may get in a state, and which state it then leaves
abbrev pub Answering : Type 0 → Type 1
Answering S = S → First → List ℕ → S → Type 0

-- the answer to a message, whatever its head and its body are
abbrev pub Replied : {S : Type 0} → Answering S → S → Message → List ℕ → S → Type 0
Replied step old m answer new =
    (h : RequestHead) (body : List ℕ) (bare : Bool) → RepresentsMessage h body bare m → step old (message h body bare) answer new

-- Items may get these answers, one after another, and lead from one state to another.
abbrev pub Run : {S : Type 0} → Answering S → S → List First → List (List ℕ) → S → Type 0
Run step old [] [] new = new ≡ old
Run {S = S} step old (item ∷ items) (answer ∷ answers) new = (mid : S) × step old item answer mid × Run step mid items answers new
Run step old [] (answer ∷ answers) new = ⊥
Run step old (item ∷ items) [] new = ⊥

-- ---- the interim response

-- An item is told its answer, behind the interim response where its client may wait for one, whether or not the body came with the head.
abbrev pub WithInterim : {S : Type 0} → Answering S → Answering S
WithInterim step old item text new = (answer : List ℕ) × (text ≡ interim (expects item) ++ answer) × step old item answer new

-- What the first item of a rest is told ahead: the interim response where it expects one, or nothing.
abbrev pub Ahead : List ℕ → List ℕ → Type 0
Ahead rest said = (first : First) × IsFirst rest first × (said ≡ interim (expects first))

-- All answers are out, and what the rest is told ahead.
abbrev pub SaysAll : List ℕ → List (List ℕ) → List ℕ → Type 0
SaysAll rest answers sent = (said : List ℕ) × Ahead rest said × (sent ≡ concat answers ++ said)

-- What a call leaves of its reader and its writer. It makes at most so many reads.
pub record EndsOn (most : ℕ) (s : Streams) (result : Result Ended IoFault) : Type 0 where
  pub at_end : (result ≡ Ok Clean) ⊎ (result ≡ Ok Cut) → (s.has_ended ≡ true) × IsAtEnd s.left_new
  pub turns : result ≡ Ok TurnsSpent → s.reads_new ≡ min (s.reads_old + most) (2 ^ 64 - 1)
  pub faults : IsErr result → (s.read_failed ≡ true) ⊎ (s.write_failed ≡ true)
  pub sound : OnOk result ((s.read_failed ≡ false) × (s.write_failed ≡ false))

-- ---- answers are held back in a block

-- What is out is a front of the answers and of what is said behind them. Of the answers before the last it lacks at most so many bytes.
abbrev pub ReachesWithin : ℕ → List (List ℕ) → List ℕ → List ℕ → Type 0
ReachesWithin hold answers said sent =
    (missing : List ℕ) × (concat answers ++ said ≡ sent ++ missing)
    × (length (concat (take (length answers - 1) answers)) ≤ length sent + hold)

-- The kept state is that after the first of the items, and the others lead on from it.
pub record Amid {S : Type 0} (step : Answering S) (old kept new : S) (items : List First) (answers : List (List ℕ)) : Type 0 where
  pub first : List First
  pub later : List First
  pub told : List (List ℕ)
  pub untold : List (List ℕ)
  pub items_are : items ≡ first ++ later
  pub answers_are : answers ≡ told ++ untold
  pub before : Run step old first told kept
  pub behind : Run step kept later untold new

-- The first of these items may have been told this ahead.
abbrev pub MayHear : List First → List ℕ → Type 0
MayHear [] said = said ≡ []
MayHear (item ∷ items) said = (said ≡ []) ⊎ (said ≡ interim (expects item))

-- What is out are the answers of the first items, which led to this state, and perhaps the interim response of the next item.
pub record AreOut {S : Type 0} (step : Answering S) (old mid : S) (items : List First) (answers : List (List ℕ)) (sent : List ℕ)
    : Type 0 where
  pub done : List First
  pub others : List First
  pub out : List (List ℕ)
  pub back : List (List ℕ)
  pub items_are : items ≡ done ++ others
  pub answers_are : answers ≡ out ++ back
  pub said : List ℕ
  pub hears : MayHear others said
  pub sent_is : sent ≡ concat out ++ said
  pub run : Run step old done out mid

-- The kept state is that after some of the items, at least those whose answers are out.
pub record KeptPast {S : Type 0} (step : Answering S) (old kept new : S) (items : List First) (answers : List (List ℕ))
    (sent : List ℕ) : Type 0 where
  pub mid : S
  pub front : AreOut step old mid items answers sent
  pub amid : Amid step mid kept new front.others front.back

-- All that was read is answered, and the connection goes on.
abbrev pub AllAnswered : List ℕ → List First → List ℕ → List (List ℕ) → List ℕ → Type 0
AllAnswered given items rest answers sent = Items given items rest × (is_closed items ≡ false) × SaysAll rest answers sent

-- What was sent is a front of the answers, and perhaps an interim response, that lacks at most so many bytes.
abbrev pub LacksAtMost : ℕ → List ℕ → List (List ℕ) → List ℕ → Type 0
LacksAtMost hold rest answers sent = (said : List ℕ) × ((said ≡ []) ⊎ Ahead rest said) × ReachesWithin hold answers said sent

-- A read or a write failed. What was sent is a front of the answers that lacks at most so many bytes, and where it was a read, all of them.
abbrev pub BreaksWithin : ℕ → IoFault → Bool → List ℕ → List First → List ℕ → List (List ℕ) → List ℕ → Type 0
BreaksWithin hold broken failed given items rest answers sent =
    (broken.written ≡ length sent) × LacksAtMost hold rest answers sent
    × (failed ≡ true → AllAnswered given items rest answers sent)

-- How a call ends that holds back at most so many bytes of answers, by what was read, answered and written.
abbrev pub EndsWithin : {S : Type 0} → Answering S → ℕ → S → S → S → Result Ended IoFault → Bool
    → List ℕ → List First → List ℕ → List (List ℕ) → List ℕ → Type 0
EndsWithin step hold old new kept (Ok Clean) read_failed given items rest answers sent =
    Items given items rest × (is_closed items ≡ false) × (rest ≡ []) × (sent ≡ concat answers)
EndsWithin step hold old new kept (Ok Closed) read_failed given items rest answers sent =
    Items given items rest × (is_closed items ≡ true) × (sent ≡ concat answers)
EndsWithin step hold old new kept (Ok Cut) read_failed given items rest answers sent =
    Items given items rest × (is_closed items ≡ false) × (rest ≢ []) × SaysAll rest answers sent
EndsWithin step hold old new kept (Ok TurnsSpent) read_failed given items rest answers sent = AllAnswered given items rest answers sent
EndsWithin step hold old new kept (Ok Lost) read_failed given items rest answers sent =
    BeginsWith given items rest × KeptPast step old kept new items answers sent
EndsWithin step hold old new kept (Err broken) read_failed given items rest answers sent =
    BeginsWith given items rest × BreaksWithin hold broken read_failed given items rest answers sent

-- What the reader gave begins with items. They got answers, each behind its interim response, and led from the old state to the new
-- one. What was sent is these answers, or a front of them that lacks at most so many bytes, as the end says. The answerer keeps the state
-- `kept` in the end.
pub record ServedWithin {S : Type 0} (step : Answering S) (hold : ℕ) (old new kept : S) (s : Streams) (result : Result Ended IoFault)
    : Type 0 where
  pub given : List ℕ
  pub gave : Consumes s.left_old s.left_new given
  pub items : List First
  pub rest : List ℕ
  pub answers : List (List ℕ)
  pub run : Run (WithInterim step) old items answers new
  pub sent : List ℕ
  pub wrote : Appends s.held_old s.held_new sent
  pub ending : EndsWithin (WithInterim step) hold old new kept result s.read_failed given items rest answers sent

-- No answer was held back, so that each but the last is out whole, and nothing was lost.
pub record Served {S : Type 0} (step : Answering S) (old new : S) (s : Streams) (result : Result Ended IoFault) : Type 0 where
  pub kept : S
  pub within : ServedWithin step 0 old new kept s result
  pub not_lost : result ≢ Ok Lost

-- All that was answered is kept, but where the call ended as lost, which says that the answerer has failed.
pub record KeptUnlessLost {S : Type 0} (kept now : S) (has_failed : Bool) (result : Result Ended IoFault) : Type 0 where
  pub synced : result ≢ Ok Lost → kept ≡ now
  pub lost : result ≡ Ok Lost → has_failed ≡ true
  pub sound : result ≢ Ok Lost → has_failed ≡ false
