-- Worked examples of what a user may ever see: histories, what is kept of them, and what the user is told.
use Rattle.std.proofs.Common.{◌≡◌, ℕ, List, [], ◌∷◌, Some, refl}
use Rattle.std.specs.Prelude.{codes}
use Prim.Native.String.{String}
use Rattle.st_key.specs.Order.{bits_below}
use Rattle.st_key.specs.declared.period.Period.{Period}
use Rattle.st_label.specs.inner.Machine.{class_of}
use Rattle.st_label.specs.Reading.{reading}
use Rattle.st_grant.specs.declared.table_permission.TablePermission.{TablePermission}
use Rattle.st_policy.specs.declared.request.Request.{Request}
use Rattle.st_core.specs.declared.asked.Asked.{Asked}
use Rattle.st_core.specs.declared.asked.Call.{Call}
use Rattle.st_policy.specs.declared.reply.Reply.{Reply}
use Rattle.st_core.specs.State.{State, first_state}
use Rattle.st_core.specs.Step.{after}
use Rattle.st_core.specs.Worlds.{keep, replies_to}
use Rattle.st_core.proofs.Worked.{texts, here, row, everything}
use Rattle.st_core.proofs.WorkedTokens.{digest}

-- each has the same secret
abbrev asks : String → Request ℕ → Asked ℕ
asks user request = record { token = Some (record { name = codes user; digest = digest }); call = Call.Good request }

abbrev put : String → String → String → String → Asked ℕ
put user table id label = asks user (Request.Put (codes table) (row id here label))

abbrev delete : String → String → Asked ℕ
delete id label = asks "root" (Request.Delete (codes "points") (codes id) (codes label))

abbrev count : String → String → List String → Asked ℕ
count user table auths = asks user (Request.Count (codes table) everything (texts auths))

abbrev make_table : String → Asked ℕ
make_table table = asks "root" (Request.CreateTable (codes table) Period.Week)

abbrev let_read : String → Asked ℕ
let_read table = asks "root" (Request.GrantTable (codes table) (codes "u") TablePermission.Read)

-- u holds A and reads points, and w may do nothing
abbrev ready : State ℕ
ready = after (first_state digest (texts ("A" ∷ "B" ∷ "S" ∷ []))) (
    asks "root" (Request.CreateUser (codes "u") digest (texts ("A" ∷ [])))
    ∷ asks "root" (Request.CreateUser (codes "w") digest [])
    ∷ let_read "points" ∷ [])

abbrev kept : List (Asked ℕ) → List (Asked ℕ)
kept asked = keep (codes "u") ready asked

abbrev told : List (Asked ℕ) → List (Reply ℕ)
told asked = replies_to (codes "u") ready asked

-- ---- what others do and u may not see

-- a put under a label that u lacks, a refused put and another's count are left out
abbrev busy : List (Asked ℕ)
busy = put "root" "points" "p" "S" ∷ put "w" "points" "r" "A" ∷ count "root" "points" [] ∷ put "root" "points" "q" "A" ∷ count "u" "points" ("A" ∷ []) ∷ []

abbrev quiet : List (Asked ℕ)
quiet = put "root" "points" "q" "A" ∷ count "u" "points" ("A" ∷ []) ∷ []

busy_is_quiet : kept busy ≡ quiet
unfolding reading class_of
busy_is_quiet = refl

quiet_stays : kept quiet ≡ quiet
unfolding reading class_of
quiet_stays = refl

told_busy : told busy ≡ Reply.Count 1 ∷ []
unfolding reading class_of
told_busy = refl

-- a delete of a row that u may not see, and a put into a table that u never reads
elsewhere : kept (put "root" "points" "q" "A" ∷ delete "q" "S" ∷ make_table "t" ∷ put "root" "t" "q" "A" ∷ count "u" "points" ("A" ∷ []) ∷ [])
    ≡ put "root" "points" "q" "A" ∷ make_table "t" ∷ count "u" "points" ("A" ∷ []) ∷ []
unfolding reading class_of
elsewhere = refl

-- ---- what u may see later is kept from the beginning

-- an authorization that is given later shows a row that was put before
abbrev given : List (Asked ℕ)
given = put "root" "points" "b" "B" ∷ put "root" "points" "s" "S" ∷ asks "root" (Request.Auths (codes "u") (texts ("A" ∷ "B" ∷ []))) ∷ count "u" "points" ("B" ∷ []) ∷ []

kept_for_later : kept given ≡ put "root" "points" "b" "B" ∷ asks "root" (Request.Auths (codes "u") (texts ("A" ∷ "B" ∷ []))) ∷ count "u" "points" ("B" ∷ []) ∷ []
unfolding reading class_of
kept_for_later = refl

told_later : told given ≡ Reply.Count 1 ∷ []
unfolding reading class_of
told_later = refl

-- READ that is given on a namespace later shows the rows of its tables
abbrev opened : List (Asked ℕ)
opened = make_table "geo.a" ∷ put "root" "geo.a" "p" "A" ∷ put "root" "geo.a" "s" "S"
    ∷ asks "root" (Request.GrantNamespace (codes "geo") (codes "u") TablePermission.Read) ∷ count "u" "geo.a" ("A" ∷ []) ∷ []

kept_for_readers : kept opened
    ≡ make_table "geo.a" ∷ put "root" "geo.a" "p" "A" ∷ asks "root" (Request.GrantNamespace (codes "geo") (codes "u") TablePermission.Read) ∷ count "u" "geo.a" ("A" ∷ []) ∷ []
unfolding reading class_of
kept_for_readers = refl

told_readers : told opened ≡ Reply.Count 1 ∷ []
unfolding reading class_of
told_readers = refl

-- a table that is dropped and made again between two counts
abbrev made_again : List (Asked ℕ)
made_again = put "root" "points" "q" "A" ∷ put "root" "points" "p" "S" ∷ count "u" "points" ("A" ∷ [])
    ∷ asks "root" (Request.DropTable (codes "points")) ∷ make_table "points" ∷ let_read "points" ∷ put "root" "points" "s" "S" ∷ count "u" "points" ("A" ∷ []) ∷ []

kept_made_again : kept made_again
    ≡ put "root" "points" "q" "A" ∷ count "u" "points" ("A" ∷ [])
    ∷ asks "root" (Request.DropTable (codes "points")) ∷ make_table "points" ∷ let_read "points" ∷ count "u" "points" ("A" ∷ []) ∷ []
unfolding reading class_of
kept_made_again = refl

told_made_again : told made_again ≡ Reply.Count 1 ∷ Reply.Count 0 ∷ []
unfolding reading class_of
told_made_again = refl

-- ---- what u may see is noticed

another_row : told (put "root" "points" "r" "A" ∷ quiet) ≡ Reply.Count 2 ∷ []
unfolding reading class_of bits_below
another_row = refl
