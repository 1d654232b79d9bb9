-- Stages of the code, which no reader has to believe: what the loops over items and bytes have done.
use Rattle.std.specs.Prelude.{◌≡◌, ◌⊎◌, ◌*◌, ◌+◌, ◌^◌, ◌≤◌, ◌<◌, ℕ, Bool, true, false, Option, Result, Ok, Err}
use Rattle.std.specs.Prelude.{List, [], ◌++◌, length, drop}
use Rattle.std.specs.List.{concat}
use Rattle.std.specs.Io.KnownBytes.{Appends}
use Rattle.st_http.specs.First.{First, IsItem, more, IsFirst, expects}
use Rattle.st_http.specs.Items.{after_item, closes}
use Rattle.st_connection.specs.Items.{BeginsWith, is_closed}
use Rattle.st_connection.specs.Connection.{Answering, Run, Ahead, ReachesWithin, KeptPast}
use Rattle.st_connection.specs.Render.{interim}
use Rattle.st_connection.specs.declared.connection.Stop.{Stop}
use Rattle.st_connection.specs.declared.connection.Stop.TheVariants as stops
use Rattle.st_connection.specs.declared.connection.Next.{Next}
use Rattle.st_connection.specs.declared.connection.Next.TheVariants as nexts
use Rattle.st_connection.specs.declared.sending.Stopped.{Stopped}
use Rattle.st_connection.specs.declared.sending.Stopped.TheVariants as stopped

-- The text begins with items whose answers are out whole, the last of which closes or none does.
pub record Whole {S : Type 0} (step : Answering S) (closed : Bool) (old new : S) (text rest : List ℕ) (held_old held_new : Option (List ℕ))
    (written_old written_new : ℕ) : Type 0 where
  pub items : List First
  pub answers : List (List ℕ)
  pub begins : BeginsWith text items rest
  pub ends : is_closed items ≡ closed
  pub run : Run step old items answers new
  pub wrote : Appends held_old held_new (concat answers)
  pub counted : written_new ≡ written_old + length (concat answers)
  pub few : length (concat answers) ≤ 2 ^ 65 * length items

-- one answer, written as far as the writer took it
pub record Sent (held_old held_new : Option (List ℕ)) (written_old written_new : ℕ) (answer : List ℕ) (is_whole : Bool) : Type 0 where
  pub sent : List ℕ
  pub missing : List ℕ
  pub prefix : answer ≡ sent ++ missing
  pub whole_out : is_whole ≡ true → missing ≡ []
  pub wrote : Appends held_old held_new sent
  pub counted : written_new ≡ written_old + length sent

-- The text begins with items whose answers are out, but for some bytes at the end.
pub record Broken {S : Type 0} (step : Answering S) (hold : ℕ) (old new : S) (text : List ℕ) (held_old held_new : Option (List ℕ))
    (written_old written_new : ℕ) : Type 0 where
  pub items : List First
  pub rest : List ℕ
  pub answers : List (List ℕ)
  pub sent : List ℕ
  pub begins : BeginsWith text items rest
  pub run : Run step old items answers new
  pub said : List ℕ
  pub may : (said ≡ []) ⊎ Ahead rest said
  pub reaches : ReachesWithin hold answers said sent
  pub wrote : Appends held_old held_new sent
  pub counted : written_new ≡ written_old + length sent

-- The text begins with items of which the answers up to a block are out.
pub record Loses {S : Type 0} (step : Answering S) (old new kept : S) (text : List ℕ) (held_old held_new : Option (List ℕ)) : Type 0 where
  pub items : List First
  pub rest : List ℕ
  pub answers : List (List ℕ)
  pub sent : List ℕ
  pub begins : BeginsWith text items rest
  pub run : Run step old items answers new
  pub past : KeptPast step old kept new items answers sent
  pub wrote : Appends held_old held_new sent

-- one item of a text, and what it was answered
pub record One {S : Type 0} (step : Answering S) (closed : Bool) (old new : S) (text rest answer : List ℕ) : Type 0 where
  pub item : First
  pub is : IsFirst text item
  pub some : IsItem item
  pub closing : closes item ≡ closed
  pub rest_is : rest ≡ after_item text item
  pub stepped : step old item answer new
  pub fits : length answer < 2 ^ 65

-- Of the bytes that are due, what became: they are held back, or out and all is kept.
abbrev pub Passed : {S : Type 0} → S → S → S → Option (List ℕ) → Option (List ℕ) → ℕ → ℕ → List ℕ → List ℕ
    → Result (Unit {0}) Stopped → Type 0
Passed now kept_old kept_new ho hn wo wn due back (Ok unit) =
    ((back ≡ due) × Appends ho hn [] × (wn ≡ wo) × (kept_new ≡ kept_old))
    ⊎ ((back ≡ []) × Appends ho hn due × (wn ≡ wo + length due) × (kept_new ≡ now))
Passed now kept_old kept_new ho hn wo wn due back (Err stopped.Unwritten) = Sent ho hn wo wn due false
Passed now kept_old kept_new ho hn wo wn due back (Err stopped.Lost) = Appends ho hn [] × ((kept_new ≡ kept_old) ⊎ (kept_new ≡ now))

-- How answering waits at a text: for the rest of its first item, whose client was told so much ahead, or to tell it first.
abbrev pub Stands : Bool → Bool → List ℕ → Type 0
Stands told false text = IsFirst text (more told)
Stands told true text = (item : First) × IsFirst text item × (expects item ≡ true)

-- the first item of a text, answered, of which this was told ahead
abbrev pub AnsweredNext : {S : Type 0} → Answering S → Bool → S → S → S → S → List ℕ → Option (List ℕ) → Option (List ℕ) → ℕ → ℕ
    → List ℕ → List ℕ → Result Next Stopped → Type 0
AnsweredNext {S = S} step told old new kept_old kept_new text ho hn wo wn held back (Ok (nexts.Waits due)) =
    Stands told due text × (new ≡ old) × (kept_new ≡ kept_old) × (back ≡ held) × Appends ho hn [] × (wn ≡ wo)
AnsweredNext {S = S} step told old new kept_old kept_new text ho hn wo wn held back (Ok (nexts.Open used)) =
    (answer : List ℕ) × (kept : S) × (0 < used) × (used ≤ length text)
    × One step false old new text (drop used text) (interim told ++ answer)
    × ((kept ≡ kept_old) ⊎ (kept ≡ new)) × Passed new kept kept_new ho hn wo wn (held ++ answer) back (Ok tt)
AnsweredNext {S = S} step told old new kept_old kept_new text ho hn wo wn held back (Ok nexts.Closed) =
    (answer : List ℕ) × (kept : S) × (rest : List ℕ) × One step true old new text rest (interim told ++ answer)
    × ((kept ≡ kept_old) ⊎ (kept ≡ new)) × Passed new kept kept_new ho hn wo wn (held ++ answer) back (Ok tt)
AnsweredNext {S = S} step told old new kept_old kept_new text ho hn wo wn held back (Err why) =
    (answer : List ℕ) × (kept : S) × (rest : List ℕ) × (closed : Bool) × One step closed old new text rest (interim told ++ answer)
    × ((kept ≡ kept_old) ⊎ (kept ≡ new)) × Passed new kept kept_new ho hn wo wn (held ++ answer) back (Err why)

-- the items of a text, answered, up to one whose client is to be told ahead
abbrev pub Answered : {S : Type 0} → Answering S → ℕ → S → S → S → List ℕ → Option (List ℕ) → Option (List ℕ) → ℕ → ℕ
    → Result Stop Stopped → Type 0
Answered step hold old new kept text ho hn wo wn (Ok (stops.Waits used due)) =
    (used ≤ length text) × Stands false due (drop used text) × Whole step false old new text (drop used text) ho hn wo wn
Answered step hold old new kept text ho hn wo wn (Ok stops.Closed) = (rest : List ℕ) × Whole step true old new text rest ho hn wo wn
Answered step hold old new kept text ho hn wo wn (Err stopped.Unwritten) = Broken step hold old new text ho hn wo wn
Answered step hold old new kept text ho hn wo wn (Err stopped.Lost) = Loses step old new kept text ho hn

-- The text begins with items whose answers are out whole, and behind them is out what the rest is told ahead.
pub record Spoken {S : Type 0} (step : Answering S) (old new : S) (text rest : List ℕ) (told : Bool) (held_old held_new : Option (List ℕ))
    (written_old written_new : ℕ) : Type 0 where
  pub held : Option (List ℕ)
  pub written : ℕ
  pub whole : Whole step false old new text rest held_old held written_old written
  pub wrote : Appends held held_new (interim told)
  pub counted : written_new ≡ written + length (interim told)

-- the first item of a text, answered where its client was told ahead; otherwise nothing is done
abbrev pub AnsweredExpecting : {S : Type 0} → Answering S → ℕ → Bool → S → S → S → List ℕ → Option (List ℕ) → Option (List ℕ) → ℕ → ℕ
    → Result Next Stopped → Type 0
AnsweredExpecting step hold told old new kept text ho hn wo wn (Ok (nexts.Waits due)) =
    IsFirst text (more true) × Spoken step old new text text true ho hn wo wn
AnsweredExpecting step hold told old new kept text ho hn wo wn (Ok (nexts.Open used)) =
    (used ≤ length text) × (told ≡ true → 0 < used) × Whole step false old new text (drop used text) ho hn wo wn
AnsweredExpecting step hold told old new kept text ho hn wo wn (Ok nexts.Closed) =
    (rest : List ℕ) × Whole step true old new text rest ho hn wo wn
AnsweredExpecting step hold told old new kept text ho hn wo wn (Err stopped.Unwritten) = Broken step hold old new text ho hn wo wn
AnsweredExpecting step hold told old new kept text ho hn wo wn (Err stopped.Lost) = Loses step old new kept text ho hn

-- the items of a text, answered, and the client of the rest told ahead where that is due
abbrev pub AnsweredOn : {S : Type 0} → Answering S → ℕ → S → S → S → List ℕ → Option (List ℕ) → Option (List ℕ) → ℕ → ℕ
    → Result Stop Stopped → Type 0
AnsweredOn step hold old new kept text ho hn wo wn (Ok (stops.Waits used told)) =
    (used ≤ length text) × Stands false told (drop used text) × Spoken step old new text (drop used text) told ho hn wo wn
AnsweredOn step hold old new kept text ho hn wo wn (Ok stops.Closed) = (rest : List ℕ) × Whole step true old new text rest ho hn wo wn
AnsweredOn step hold old new kept text ho hn wo wn (Err stopped.Unwritten) = Broken step hold old new text ho hn wo wn
AnsweredOn step hold old new kept text ho hn wo wn (Err stopped.Lost) = Loses step old new kept text ho hn

-- the same, and then more of the body is waited for
abbrev pub AnsweredText : {S : Type 0} → Answering S → ℕ → S → S → S → List ℕ → Option (List ℕ) → Option (List ℕ) → ℕ → ℕ
    → Result Stop Stopped → Type 0
AnsweredText step hold old new kept text ho hn wo wn (Ok (stops.Waits used told)) =
    (used ≤ length text) × IsFirst (drop used text) (more told) × Spoken step old new text (drop used text) told ho hn wo wn
AnsweredText step hold old new kept text ho hn wo wn (Ok stops.Closed) = (rest : List ℕ) × Whole step true old new text rest ho hn wo wn
AnsweredText step hold old new kept text ho hn wo wn (Err stopped.Unwritten) = Broken step hold old new text ho hn wo wn
AnsweredText step hold old new kept text ho hn wo wn (Err stopped.Lost) = Loses step old new kept text ho hn
