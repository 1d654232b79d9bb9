-- The definitions on worked examples, with tokens.
use Rattle.std.proofs.Common.{◌≡◌, ℕ, List, [], ◌∷◌, Option, Some, None, refl, map, replicate}
use Rattle.std.specs.Prelude.{codes}
use Prim.Native.String.{String}
use Rattle.st_key.specs.inner.Coordinates.{point_at}
use Rattle.st_box.specs.inner.Coordinates.{query_of}
use Rattle.st_label.specs.inner.Machine.{class_of}
use Rattle.st_label.specs.Reading.{reading}
use Rattle.st_policy.specs.declared.denial.Denial.{Denial}
use Rattle.st_policy.specs.declared.refusal.Refusal.{Refusal}
use Rattle.st_policy.specs.declared.request.Request.{Request}
use Rattle.st_core.specs.declared.asked.Asked.{Asked}
use Rattle.st_core.specs.declared.asked.Call.{Call}
use Rattle.st_core.specs.declared.asked.Token.{Token}
use Rattle.st_policy.specs.declared.reply.Reply.{Reply}
use Rattle.st_core.specs.State.{State, first_state}
use Rattle.st_core.specs.Step.{replies, after}

-- the digest of root's secret
abbrev pub digest : List ℕ
digest =
    0x66 ∷ 0x68 ∷ 0x7a ∷ 0xad ∷ 0xf8 ∷ 0x62 ∷ 0xbd ∷ 0x77 ∷ 0x6c ∷ 0x8f ∷ 0xc1 ∷ 0x8b ∷ 0x8e ∷ 0x9f ∷ 0x8e ∷ 0x20
    ∷ 0x08 ∷ 0x97 ∷ 0x14 ∷ 0x85 ∷ 0x6e ∷ 0xe2 ∷ 0x33 ∷ 0xb3 ∷ 0x90 ∷ 0x2a ∷ 0x59 ∷ 0x1d ∷ 0x0d ∷ 0x5f ∷ 0x29 ∷ 0x25 ∷ []

abbrev start : State ℕ
start = first_state digest (codes "A" ∷ [])

abbrev by_whom : Option Token → Call ℕ → Asked ℕ
by_whom token call = record { token = token; call = call }

abbrev token : String → List ℕ → Option Token
token user digest = Some (record { name = codes user; digest = digest })

abbrev root : Option Token
root = token "root" digest

abbrev count : List String → Call ℕ
count auths = Call.Good (Request.Count (codes "points") (query_of 0 2097151 0 2097151 0 19818086399 refl refl refl refl refl refl) (map codes auths))

abbrev put : String → Call ℕ
put label = Call.Good (Request.Put (codes "points") (record { id = codes "p"; point = point_at 1 2 3 refl refl refl; label = codes label; note = [] }))

abbrev no_token : Reply ℕ
no_token = Reply.Refused (Refusal.Denied Denial.Token)

counted_put_counted : replies start (by_whom root (count []) ∷ by_whom root (put "A") ∷ by_whom root (count ("A" ∷ [])) ∷ [])
    ≡ Reply.Count 0 ∷ Reply.Accepted ∷ Reply.Count 1 ∷ []
unfolding reading class_of
counted_put_counted = refl

-- no token, an unknown user, a wrong digest
strangers : replies start (by_whom None (count []) ∷ by_whom (token "zoe" digest) (count []) ∷ by_whom (token "root" (replicate 32 1)) (count []) ∷ [])
    ≡ no_token ∷ no_token ∷ no_token ∷ []
unfolding reading class_of
strangers = refl

-- a token that does not hold comes before a body that could not be decoded
body_after_token : replies start (by_whom None (Call.Bad Refusal.Json) ∷ by_whom root (Call.Bad Refusal.Json) ∷ []) ≡ no_token ∷ Reply.Refused Refusal.Json ∷ []
unfolding reading class_of
body_after_token = refl

-- a stranger's change is not made and not listed
stranger_changes_nothing : after start (by_whom None (put "A") ∷ by_whom root (Call.Bad Refusal.BadBox) ∷ []) ≡ start
unfolding reading class_of
stranger_changes_nothing = refl

listed : (after start (by_whom root (put "A") ∷ by_whom root (count []) ∷ [])).audit ≡ record { request = codes "put"; result = 0; target = codes "points"; user = codes "root" } ∷ []
unfolding reading class_of
listed = refl
