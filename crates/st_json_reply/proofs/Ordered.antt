-- The keys of a reply stand in byte order.
use Rattle.std.proofs.Common.{◌≡◌, ℕ, ◌-◌, Bool, true, false, ◌&&◌, List, [], ◌∷◌, length, slice_get, codes, map, Option, Some, None, refl}
use Rattle.std.specs.Option.{option_map_or}
use Rattle.serde_json.specs.Data.{Data, null, string}
use Rattle.serde_json.specs.View.{items_of}
use Rattle.st_index.specs.declared.row.Row.{Row}
use Rattle.st_plan.specs.declared.part_plan.PartPlan.{PartPlan}
use Rattle.st_dir.specs.declared.account.Account.{Account}
use Rattle.st_dir.specs.declared.grantee.Grantee.{Grantee}
use Rattle.st_grant.specs.declared.permission.Permission.{Permission}
use Rattle.st_policy.specs.declared.denial.Denial.{Denial}
use Rattle.st_policy.specs.declared.refusal.Refusal.{Refusal}
use Rattle.st_policy.specs.declared.reply.Reply.{Reply}
use Rattle.st_json_reply.specs.inner.Order.{keys_rise, items_keys_rise}
use Rattle.st_json_reply.specs.Refusals.{nat, denial_data, refusal_data}
use Rattle.st_json_reply.specs.Replies.{list, listing, permission_data, permissions_data, account_data, table_data, grantee_data, entry_data}
use Rattle.st_json_reply.specs.Replies.{row_data, range_data, part_data, place_data, next_data, page_data, reply_data}

denial_in_order : (d : Denial) → keys_rise (denial_data d) ≡ true
denial_in_order Denial.Token = refl
denial_in_order (Denial.Permission name None) = refl
denial_in_order (Denial.Permission name (Some table)) = refl
denial_in_order (Denial.NamespacePermission name namespace) = refl
denial_in_order (Denial.Authorization name) = refl
denial_in_order (Denial.Constraint label) = refl
denial_in_order Denial.OwnSelf = refl

refusal_in_order : (r : Refusal) → keys_rise (refusal_data r) ≡ true
refusal_in_order Refusal.Json = refl
refusal_in_order (Refusal.Field name) = refl
refusal_in_order Refusal.BadBox = refl
refusal_in_order (Refusal.BadLabel at) = refl
refusal_in_order (Refusal.BadName field) = refl
refusal_in_order (Refusal.Denied denial) = denial_in_order denial
refusal_in_order (Refusal.NoTable table) = refl
refusal_in_order (Refusal.NoUser user) = refl
refusal_in_order (Refusal.TableExists table) = refl
refusal_in_order (Refusal.UserExists user) = refl

-- ---- lists

both : (a b : Bool) → a ≡ true → b ≡ true → (a && b) ≡ true
both a b is_a is_b = rw (is_a, is_b) refl

all_in_order : {T : Type 0} (f : T → Data) → ((x : T) → keys_rise (f x) ≡ true) → (xs : List T) → items_keys_rise (items_of (map f xs)) ≡ true
all_in_order f each [] = refl
all_in_order f each (x ∷ xs) = both _ _ (each x) (all_in_order f each xs)

texts_in_order : (texts : List (List ℕ)) → keys_rise (list (map string texts)) ≡ true
texts_in_order texts = all_in_order string (λ s. refl) texts

permissions_in_order : (ps : List Permission) → keys_rise (permissions_data ps) ≡ true
permissions_in_order ps = all_in_order permission_data (λ p. refl) ps

listing_in_order : {T : Type 0} (name : List ℕ) (f : T → Data) → ((x : T) → keys_rise (f x) ≡ true) → (xs : List T) → keys_rise (listing name (map f xs)) ≡ true
listing_in_order name f each xs = both _ _ (all_in_order f each xs) refl

account_in_order : {A : Type 0} (a : Account A) → keys_rise (account_data a) ≡ true
account_in_order a = rw (texts_in_order a.auths, permissions_in_order a.permissions) refl

grantee_in_order : {A : Type 0} (g : Grantee A) → keys_rise (grantee_data g) ≡ true
grantee_in_order g = rw (permissions_in_order g.permissions) refl

part_in_order : {A : Type 0} (p : PartPlan A) → keys_rise (part_data p) ≡ true
part_in_order p = both _ _ (all_in_order range_data (λ r. refl) p.ranges) refl

place_in_order : {A : Type 0} (o : Option (Row A)) → keys_rise (option_map_or place_data o null) ≡ true
place_in_order None = refl
place_in_order (Some r) = refl

next_in_order : {A : Type 0} (rows : List (Row A)) (more : Bool) → keys_rise (next_data rows more) ≡ true
next_in_order rows false = refl
next_in_order rows true = place_in_order (slice_get rows (length rows - 1))

page_in_order : {A : Type 0} (rows : List (Row A)) (more : Bool) → keys_rise (page_data rows more) ≡ true
page_in_order rows more = both _ _ (next_in_order rows more) (both _ _ (all_in_order row_data (λ r. refl) rows) refl)

pub reply_in_order : {A : Type 0} (r : Reply A) → keys_rise (reply_data r) ≡ true
reply_in_order Reply.Accepted = refl
reply_in_order (Reply.Who account) = account_in_order account
reply_in_order (Reply.Tables tables) = listing_in_order (codes "tables") table_data (λ t. refl) tables
reply_in_order (Reply.Users users) = listing_in_order (codes "users") string (λ s. refl) users
reply_in_order (Reply.Grants grants) = listing_in_order (codes "grants") grantee_data grantee_in_order grants
reply_in_order (Reply.Normal label) = refl
reply_in_order (Reply.Rows rows) = listing_in_order (codes "rows") row_data (λ r. refl) rows
reply_in_order (Reply.Page rows more) = page_in_order rows more
reply_in_order (Reply.Count n) = refl
reply_in_order (Reply.Grid counts) = listing_in_order (codes "grid") nat (λ n. refl) counts
reply_in_order (Reply.Plan parts) = listing_in_order (codes "parts") part_data part_in_order parts
reply_in_order (Reply.Audit entries) = listing_in_order (codes "entries") entry_data (λ e. refl) entries
reply_in_order (Reply.Refused r) = refusal_in_order r
