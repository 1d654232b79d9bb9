-- What an allowed request finds.
use Rattle.std.specs.Prelude.{is_some, if◌then◌else◌, unwrap_or, find, option_map}
use Rattle.std.specs.Option.{option_map_or}
use Rattle.std.proofs.Common.{◌≡◌, List, [], ◌∷◌, Bool, true, false, not, Option, Some, None, ℕ, refl, subst, ap, ◌∙◌}
use Rattle.st_text.specs.Texts.{Text, same, is_among}
use Rattle.st_text.proofs.Same.{same-eq}
use Rattle.st_dir.specs.Directory.{Directory, is_table, is_user, has_auth, has_digest, user_named}
use Rattle.st_dir.specs.declared.user.User.{User}
use Rattle.st_key.specs.declared.period.Period.{Period}
use Rattle.st_policy.specs.declared.denial.Denial.{Denial}
use Rattle.st_policy.specs.declared.refusal.Refusal.{Refusal}
use Rattle.st_policy.specs.declared.refusal.Refusal.TheVariants.{NoTable, NoUser, TableExists, UserExists}
use Rattle.st_policy.specs.declared.request.Request.{Request}
use Rattle.st_policy.specs.Requests.{need_of, table_of, user_of, named_auths, first_some}
use Rattle.st_core.specs.declared.asked.Token.{Token}
use Rattle.st_core.specs.Step.{asker_of}
use Rattle.st_policy.specs.Policy.{unless, refusal_of, table_exists, user_exists, name_is_free, meets, auths_are_held, label_is_met, is_not_oneself}

none_first : (o : Option Refusal) (others : List (Option Refusal)) → first_some (o ∷ others) ≡ None → (o ≡ None) × (first_some others ≡ None)
none_first None others e = (refl, e)
none_first (Some refusal) others e = cc

pub met : (b : Bool) (refusal : Refusal) → unless b refusal ≡ None → b ≡ true
met true refusal e = refl
met false refusal e = cc

free : (b : Bool) (refusal : Refusal) → unless (not b) refusal ≡ None → b ≡ false
free true refusal e = cc
free false refusal e = refl

module _ {A : Type 0} (d : Directory A) (asker : Text) (request : Request A) where
  abbrev behind_auths : List (Option Refusal)
  behind_auths = label_is_met d asker request ∷ is_not_oneself asker request ∷ []

  abbrev behind_need : List (Option Refusal)
  behind_need = auths_are_held d asker (named_auths request) ∷ behind_auths

  abbrev behind_name : List (Option Refusal)
  behind_name = meets d asker (need_of request) ∷ behind_need

  abbrev behind_user : List (Option Refusal)
  behind_user = name_is_free d request ∷ behind_name

  abbrev behind_table : List (Option Refusal)
  behind_table = user_exists d (user_of request) ∷ behind_user

  past_table : refusal_of d asker request ≡ None → first_some behind_table ≡ None
  past_table allowed = (none_first (table_exists d (table_of request)) behind_table allowed).1

  past_user : refusal_of d asker request ≡ None → first_some behind_user ≡ None
  past_user allowed = (none_first (user_exists d (user_of request)) behind_user (past_table allowed)).1

  -- the table that it is about is there
  pub allowed_table : refusal_of d asker request ≡ None → (table : Text) → table_of request ≡ Some table → is_table d table ≡ true
  allowed_table allowed table is =
      met (is_table d table) (NoTable table) (subst (λ o. table_exists d o ≡ None) is (none_first (table_exists d (table_of request)) behind_table allowed).0)

  -- the user that it is about is there
  pub allowed_user : refusal_of d asker request ≡ None → (user : Text) → user_of request ≡ Some user → is_user d user ≡ true
  allowed_user allowed user is =
      met (is_user d user) (NoUser user) (subst (λ o. user_exists d o ≡ None) is (none_first (user_exists d (user_of request)) behind_user (past_table allowed)).0)

  pub allowed_name : refusal_of d asker request ≡ None → name_is_free d request ≡ None
  allowed_name allowed = (none_first (name_is_free d request) behind_name (past_user allowed)).0

  past_name : refusal_of d asker request ≡ None → first_some behind_name ≡ None
  past_name allowed = (none_first (name_is_free d request) behind_name (past_user allowed)).1

  -- what it needs is met
  pub allowed_need : refusal_of d asker request ≡ None → meets d asker (need_of request) ≡ None
  allowed_need allowed = (none_first (meets d asker (need_of request)) behind_need (past_name allowed)).0

  -- the authorizations that it names are the asker's
  pub allowed_auths : refusal_of d asker request ≡ None → auths_are_held d asker (named_auths request) ≡ None
  allowed_auths allowed =
      let past_need = (none_first (meets d asker (need_of request)) behind_need (past_name allowed)).1 in
      (none_first (auths_are_held d asker (named_auths request)) behind_auths past_need).0

-- the name that is made is free
pub allowed_new_table : {A : Type 0} (d : Directory A) (asker table : Text) (period : Period) → refusal_of d asker (Request.CreateTable table period) ≡ None → is_table d table ≡ false
allowed_new_table d asker table period allowed = free (is_table d table) (TableExists table) (allowed_name d asker (Request.CreateTable table period) allowed)

pub allowed_new_user : {A : Type 0} (d : Directory A) (asker user : Text) (digest : List ℕ) (auths : List Text)
    → refusal_of d asker (Request.CreateUser user digest auths) ≡ None → is_user d user ≡ false
allowed_new_user d asker user digest auths allowed = free (is_user d user) (UserExists user) (allowed_name d asker (Request.CreateUser user digest auths) allowed)

-- whose token holds is a user
digest_of : {A : Type 0} (o : Option (User A)) (digest : List ℕ) → option_map_or (λ user. same user.digest digest) o false ≡ true → is_some o ≡ true
digest_of None digest e = cc
digest_of (Some user) digest e = refl

pub asker_known : {A : Type 0} (d : Directory A) (o : Option Token) (asker : Text) → asker_of d o ≡ Some asker → is_user d asker ≡ true
asker_known d None asker e = cc
asker_known d (Some token) asker e = at (has_digest d token.name token.digest) refl e
  where
    at : (b : Bool) → has_digest d token.name token.digest ≡ b → (if b then Some token.name else None) ≡ Some asker → is_user d asker ≡ true
    at true f e = subst (λ o. is_user d (unwrap_or o asker) ≡ true) e (digest_of (user_named d token.name) token.digest f)
    at false f e = cc

-- ---- authorizations

is_held : (o : Option Text) → option_map (λ name. Refusal.Denied (Denial.Authorization name)) o ≡ None → o ≡ None
is_held None e = refl
is_held (Some name) e = cc

some_none : {X : Type 0} {x : X} → Some x ≡ None → ⊥
some_none h = cc

each_held : (has : Text → Bool) (auths : List Text) → find (λ name. not (has name)) auths ≡ None → (name : Text) → is_among auths name ≡ true → has name ≡ true
each_held has [] e name among = cc
each_held has (x ∷ xs) e name among = at (has x) refl (same name x) refl e among (each_held has xs)
  where
    at : (b : Bool) → has x ≡ b → (c : Bool) → same name x ≡ c → find (λ name. not (has name)) (x ∷ xs) ≡ None → is_among (x ∷ xs) name ≡ true
        → (find (λ name. not (has name)) xs ≡ None → (name : Text) → is_among xs name ≡ true → has name ≡ true) → has name ≡ true
    at true f true g e among ih = ap has (same-eq name x g) ∙ f
    at true f false g e among ih = ih (simp f at e) name (simp g at among)
    at false f c g e among ih = absurd (some_none (simp f at e))

-- each authorization that is named in an allowed request is held
pub auths_held : {A : Type 0} (d : Directory A) (asker : Text) (auths : List Text) → auths_are_held d asker auths ≡ None
    → (name : Text) → is_among auths name ≡ true → has_auth d asker name ≡ true
auths_held d asker auths e = each_held (has_auth d asker) auths (is_held (find (λ name. not (has_auth d asker name)) auths) e)
