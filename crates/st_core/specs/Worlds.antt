-- What a user may ever see of a run, and the run with no more than that. A run is a state and the requests of everybody that are
-- made from it on, in order; a user is a name, and one that is dropped and made again is the same user.
use Rattle.std.specs.Prelude.{List, [], ◌∷◌, Bool, true, false, ◌&&◌, ◌||◌, if◌then◌else◌, Option, Some, None, IsFalse}
use Rattle.std.specs.List.{list_any}
use Rattle.st_text.specs.Texts.{Text, same}
use Rattle.st_label.specs.Reading.{is_true}
use Rattle.st_dir.specs.Directory.{Directory, is_table, has_auth, has_system, has_table}
use Rattle.st_grant.specs.declared.permission.Permission.{Permission}
use Rattle.st_policy.specs.declared.request.Request.{Request}
use Rattle.st_policy.specs.declared.request.Request.TheVariants.{Put, Delete}
use Rattle.st_policy.specs.Requests.{is_change}
use Rattle.st_core.specs.declared.asked.Asked.{Asked}
use Rattle.st_core.specs.declared.asked.Token.{Token}
use Rattle.st_policy.specs.declared.reply.Reply.{Reply}
use Rattle.st_core.specs.State.{State}
use Rattle.st_core.specs.Step.{Judged, Unheard, Heard, judge, step, replies}

-- The directories before the run and after each request of it. They alone say what the user holds, and when.
abbrev pub moments : {A : Type 0} → State A → List (Asked A) → List (Directory A)
moments s [] = s.directory ∷ []
moments s (asked ∷ rest) = s.directory ∷ moments (step s asked).state rest

-- ---- what a user may ever see

-- tables that may be read, and authorizations that are held
pub record Sight : Type 0 where
  pub reads : Text → Bool
  pub holds : Text → Bool

-- The tables that at some moment are there and may be read by the user, and the authorizations that the user holds at some moment.
-- Some moment is enough, since what is given shows what was put before.
abbrev pub ever : {A : Type 0} → Text → State A → List (Asked A) → Sight
ever user s asked = record {
  reads = λ table. list_any (λ d. is_table d table && has_table d user table Permission.Read) (moments s asked);
  holds = λ auth. list_any (λ d. has_auth d user auth) (moments s asked);
}

-- The user holds SYSTEM at no moment: who holds it is shown the audit listing, which names the changes of all.
abbrev pub NeverSystem : {A : Type 0} → Text → State A → List (Asked A) → Type 0
NeverSystem user s asked = IsFalse (list_any (λ d. has_system d user Permission.System) (moments s asked))

-- ---- the requests that a user's replies may rest on

-- A request is the user's where its token names the user, whether or not its digest is right: all who ask in that name are told
-- together.
abbrev pub names : Option Token → Text → Bool
names None user = false
names (Some token) user = same token.name user

-- Of puts and deletes, only those in a table that may be read, under a label that is true for what is held. All other
-- changes are of users, tables and grants, which everybody may list.
abbrev pub may_show : {A : Type 0} → Sight → Request A → Bool
may_show sight (Put table row) = sight.reads table && is_true sight.holds row.label
may_show sight (Delete table id label) = sight.reads table && is_true sight.holds label
may_show sight _ = true

-- Of what others ask, only changes that are made: a read changes nothing, and what is refused changes no row and nothing of the
-- directory.
abbrev pub matters : {A : Type 0} → Sight → Judged A → Bool
matters sight (Unheard refusal) = false
matters sight (Heard asker request (Some refusal)) = false
matters sight (Heard asker request None) = is_change request && may_show sight request

abbrev pub stays : {A : Type 0} → Text → Sight → Directory A → Asked A → Bool
stays user sight d asked = names asked.token user || matters sight (judge d asked)

-- The requests that stay for this sight, in order. Whether one is refused is judged in the whole run, not in what is kept of it.
abbrev pub kept : {A : Type 0} → Text → Sight → State A → List (Asked A) → List (Asked A)
kept user sight s [] = []
kept user sight s (asked ∷ rest) =
    if stays user sight s.directory asked
    then asked ∷ kept user sight (step s asked).state rest
    else kept user sight (step s asked).state rest

-- the requests that stay for what the user may ever see
abbrev pub keep : {A : Type 0} → Text → State A → List (Asked A) → List (Asked A)
keep user s asked = kept user (ever user s asked) s asked

-- ---- the replies to a user

-- of the replies to a list of requests, those to the user's own
abbrev pub of_user : {A : Type 0} → Text → List (Asked A) → List (Reply A) → List (Reply A)
of_user user [] told = []
of_user user (asked ∷ rest) [] = []
of_user user (asked ∷ rest) (reply ∷ told) = if names asked.token user then reply ∷ of_user user rest told else of_user user rest told

abbrev pub replies_to : {A : Type 0} → Text → State A → List (Asked A) → List (Reply A)
replies_to user s asked = of_user user asked (replies s asked)
