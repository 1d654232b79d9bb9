-- Answers to messages, by what is asked of the store and told.
use Rattle.std.proofs.Common.{◌≡◌, ◌≢◌, ◌⊎◌, inl, inr, ℕ, Bool, true, false, eqb, eq-eqb, List, Some, None, Bor, refl, sym, ap, subst, ◌∙◌}
use Rattle.std.specs.Prelude.{codes, Result, Ok, Err, IfOk, OnOk, OnErr}
use Rattle.json.specs.Print.{escape_byte}
use Rattle.st_http.specs.declared.routes.Route.{Route}
use Rattle.st_http.specs.declared.routes.Route.TheVariants as routes
use Rattle.st_http.specs.declared.message.Message.{Message}
use Rattle.st_http.specs.Routes.{found, no_route, bad_method}
use Rattle.st_policy.specs.declared.denial.Denial.{Denial}
use Rattle.st_policy.specs.declared.refusal.Refusal.{Refusal}
use Rattle.st_policy.specs.declared.request.Request.TheVariants.{Whoami, Tables, Users, User, Grants, NamespaceGrants, Label, Audit, Get, Scan, Count}
use Rattle.st_policy.specs.declared.request.Request.TheVariants.{Grid, Plan, Put, Delete, CreateTable, DropTable, Constraint, Period, CreateUser}
use Rattle.st_policy.specs.declared.request.Request.TheVariants.{DropUser, Token, Auths, GrantSystem, RevokeSystem, GrantTable, RevokeTable}
use Rattle.st_policy.specs.declared.request.Request.TheVariants.{GrantNamespace, RevokeNamespace}
use Rattle.st_core.specs.declared.asked.Asked.{Asked}
use Rattle.st_policy.specs.declared.reply.Reply.{Reply}
use Rattle.st_core.specs.State.{State}
use Rattle.st_core.specs.Step.{judge, settle, step}
use Rattle.st_core.specs.declared.judged.Judged.{Judged}
use Rattle.st_core.specs.declared.judged.Judged.TheVariants.{Unheard, Heard}
use Rattle.st_json_reply.specs.Refusals.{refusal_status}
use Rattle.st_json_reply.specs.Replies.{text_of}
use Rattle.st_connection.specs.Render.{render, busy_text, accepted_text}
use Rattle.st_service.specs.Answers.{AsksBy, IsFound, IsUnrouted, reply_status, reply_text, route_in, unrouted_text, RendersOrBusy, RepliesTo, told, busy, untold, unrouted}
use Rattle.st_service.specs.inner.Represented.{asks_in}

apart : (n : ℕ) → eqb n 405 ≡ false → n ≢ 405
apart n t e = absurd (let k : true ≡ false = sym (eq-eqb n 405 e) ∙ t in cc)

denial_not_405 : (denial : Denial) → refusal_status (Refusal.Denied denial) ≢ 405
denial_not_405 Denial.Token e = apart 401 refl e
denial_not_405 (Denial.Permission name table) e = apart 403 refl e
denial_not_405 (Denial.NamespacePermission name namespace) e = apart 403 refl e
denial_not_405 (Denial.Authorization name) e = apart 403 refl e
denial_not_405 (Denial.Constraint label) e = apart 403 refl e
denial_not_405 Denial.OwnSelf e = apart 403 refl e

refusal_not_405 : (refusal : Refusal) → refusal_status refusal ≢ 405
refusal_not_405 Refusal.Json e = apart 400 refl e
refusal_not_405 (Refusal.Field name) e = apart 400 refl e
refusal_not_405 Refusal.BadBox e = apart 400 refl e
refusal_not_405 (Refusal.BadLabel at) e = apart 400 refl e
refusal_not_405 (Refusal.BadName field) e = apart 400 refl e
refusal_not_405 (Refusal.Denied denial) e = denial_not_405 denial e
refusal_not_405 (Refusal.NoTable table) e = apart 404 refl e
refusal_not_405 (Refusal.NoUser user) e = apart 404 refl e
refusal_not_405 (Refusal.TableExists table) e = apart 409 refl e
refusal_not_405 (Refusal.UserExists user) e = apart 409 refl e

pub not_405 : {A : Type 0} (reply : Reply A) → reply_status reply ≢ 405
not_405 Reply.Accepted e = apart 200 refl e
not_405 (Reply.Who account) e = apart 200 refl e
not_405 (Reply.Tables tables) e = apart 200 refl e
not_405 (Reply.Users users) e = apart 200 refl e
not_405 (Reply.Grants grants) e = apart 200 refl e
not_405 (Reply.Normal label) e = apart 200 refl e
not_405 (Reply.Rows rows) e = apart 200 refl e
not_405 (Reply.Page rows more) e = apart 200 refl e
not_405 (Reply.Count n) e = apart 200 refl e
not_405 (Reply.Grid fields) e = apart 200 refl e
not_405 (Reply.Plan parts) e = apart 200 refl e
not_405 (Reply.Audit entries) e = apart 200 refl e
not_405 (Reply.Refused refusal) e = refusal_not_405 refusal e

-- a step makes a change, or leaves the state, or refuses
settled : {A : Type 0} (s : State A) (j : Judged A)
    → ((settle s j).reply ≡ Reply.Accepted) ⊎ (((settle s j).state ≡ s) ⊎ ((refusal : Refusal) × ((settle s j).reply ≡ Reply.Refused refusal)))
settled s (Unheard refusal) = inr (inl refl)
settled s (Heard asker request (Some refusal)) = inr (inr (refusal, refl))
settled s (Heard asker Whoami None) = inr (inl refl)
settled s (Heard asker Tables None) = inr (inl refl)
settled s (Heard asker Users None) = inr (inl refl)
settled s (Heard asker (User user) None) = inr (inl refl)
settled s (Heard asker (Grants table) None) = inr (inl refl)
settled s (Heard asker (NamespaceGrants namespace) None) = inr (inl refl)
settled s (Heard asker (Label label) None) = inr (inl refl)
settled s (Heard asker Audit None) = inr (inl refl)
settled s (Heard asker (Get table id auths) None) = inr (inl refl)
settled s (Heard asker (Scan table query auths limit after) None) = inr (inl refl)
settled s (Heard asker (Count table query auths) None) = inr (inl refl)
settled s (Heard asker (Grid table query auths columns lines) None) = inr (inl refl)
settled s (Heard asker (Plan table query budget) None) = inr (inl refl)
settled s (Heard asker (Put table row) None) = inl refl
settled s (Heard asker (Delete table id label) None) = inl refl
settled s (Heard asker (CreateTable table period) None) = inl refl
settled s (Heard asker (DropTable table) None) = inl refl
settled s (Heard asker (Constraint table on) None) = inl refl
settled s (Heard asker (Period table period) None) = inl refl
settled s (Heard asker (CreateUser user digest auths) None) = inl refl
settled s (Heard asker (DropUser user) None) = inl refl
settled s (Heard asker (Token user digest) None) = inl refl
settled s (Heard asker (Auths user auths) None) = inl refl
settled s (Heard asker (GrantSystem user permission) None) = inl refl
settled s (Heard asker (RevokeSystem user permission) None) = inl refl
settled s (Heard asker (GrantTable table user permission) None) = inl refl
settled s (Heard asker (RevokeTable table user permission) None) = inl refl
settled s (Heard asker (GrantNamespace namespace user permission) None) = inl refl
settled s (Heard asker (RevokeNamespace namespace user permission) None) = inl refl

module _ {A : Type 0} (s t : State A) (m : Message) (bytes : List ℕ) (asked : Asked A) (is_found : IsFound m) (asks : AsksBy m asked)
    (after : t ≡ (step s asked).state) where
  pub replies : (reply : Reply A) → reply ≡ (step s asked).reply → RendersOrBusy reply m.close m.bare bytes → RepliesTo s m bytes t
  replies reply e (inl text) = told (asks_in m asked is_found asks) after (text ∙ ap (λ (r : Reply A). reply_text r m.close m.bare) e)
  replies reply e (inr (text, refused)) = elim (settled s (judge s.directory asked)) [
    | inl accepted ↦ absurd (refused (e ∙ accepted))
    | inr (inl same) ↦ busy (after ∙ same) text
    | inr (inr (refusal, told_so)) ↦ untold {refusal = refusal} (asks_in m asked is_found asks) after told_so text
  ]

-- what is asked is told, or no memory was found for it
pub replies_told : {A E : Type 0} (s t : State A) (m : Message) (bytes : List ℕ) (asked : Asked A) (is_found : IsFound m) (asks : AsksBy m asked)
    (result : Result (Reply A) E) → IfOk result (λ reply. reply ≡ (step s asked).reply) → OnOk result (t ≡ (step s asked).state)
    → OnErr result (t ≡ s) → IfOk result (λ reply. RendersOrBusy reply m.close m.bare bytes) → OnErr result (bytes ≡ busy_text m.close m.bare) → RepliesTo s m bytes t
replies_told s t m bytes asked is_found asks (Ok reply) is after same text wanting = replies s t m bytes asked is_found asks after reply is text
replies_told s t m bytes asked is_found asks (Err fault) is after same text wanting = busy same wanting

module _ {A : Type 0} (s : State A) (m : Message) (bytes : List ℕ) where
  by_route : (route : Route) → m.route ≡ route → IsUnrouted (route_in route) → bytes ≡ unrouted_text (route_in route) m.close m.bare → RepliesTo s m bytes s
  by_route route e none is =
      unrouted (subst (λ (r : Route). IsUnrouted (route_in r)) (sym e) none) refl
      (is ∙ ap (λ (r : Route). unrouted_text (route_in r) m.close m.bare) (sym e))

  pub replies_unrouted : m.route ≡ routes.NoRoute
      → (bytes ≡ render 404 None (codes "{\"error\":\"route\"}") m.close m.bare) ⊎ (bytes ≡ busy_text m.close m.bare) → RepliesTo s m bytes s
  replies_unrouted none (inl is) = by_route routes.NoRoute none tt is
  replies_unrouted none (inr is) = busy refl is

  pub replies_mismatched : (allow : Bor (List ℕ)) → m.route ≡ routes.BadMethod allow
      → (bytes ≡ render 405 (Some allow.now) (codes "{\"error\":\"method\"}") m.close m.bare) ⊎ (bytes ≡ busy_text m.close m.bare)
      → RepliesTo s m bytes s
  replies_mismatched allow e (inl is) = by_route (routes.BadMethod allow) e tt is
  replies_mismatched allow e (inr is) = busy refl is

-- that a change was made is told so
pub accepted_is : (A : Type 0) (close bare : Bool) → accepted_text close bare ≡ reply_text {A = A} Reply.Accepted close bare
unfolding escape_byte text_of
accepted_is A close bare = ap (λ (t : List ℕ). render 200 None t close bare) refl

-- a route that is none, or another method's, is no endpoint
pub not_found : (m : Message) → (m.route ≡ routes.NoRoute) ⊎ ((allow : _) × (m.route ≡ routes.BadMethod allow)) → IsFound m → ⊥
not_found m (inl is) (endpoint, name, represents) = let e : found endpoint name ≡ no_route = rw is at represents in cc
not_found m (inr (allow, is)) (endpoint, name, represents) = let e : found endpoint name ≡ bad_method allow.now = rw is at represents in cc
