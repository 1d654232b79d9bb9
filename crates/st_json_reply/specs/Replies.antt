-- The body of a reply: compact JSON (RFC 8259), keys in byte order.
use Rattle.std.specs.Prelude.{ℕ, ◌-◌, Bool, true, false, List, [], ◌∷◌, length, slice_get, codes, map}
use Rattle.std.specs.Option.{option_map_or}
use Rattle.serde_json.specs.Data.{Data, null, boolean, string, array}
use Rattle.serde_json.specs.View.{items_of}
use Rattle.serde_json.specs.Written.{compact_text}
use Rattle.st_text.specs.Texts.{Text}
use Rattle.st_key.specs.declared.point.Point.{Point}
use Rattle.st_index.specs.declared.row.Row.{Row}
use Rattle.st_plan.specs.declared.part_plan.PartPlan.{PartPlan}
use Rattle.st_plan.specs.declared.range.Range.{Range}
use Rattle.st_grant.specs.Permissions.{permission_name}
use Rattle.st_dir.specs.declared.account.Account.{Account}
use Rattle.st_dir.specs.declared.grantee.Grantee.{Grantee}
use Rattle.st_grant.specs.declared.permission.Permission.{Permission}
use Rattle.st_dir.specs.declared.table.TableInfo.{TableInfo}
use Rattle.st_policy.specs.Periods.{period_name}
use Rattle.st_policy.specs.declared.entry.Entry.{Entry}
use Rattle.st_policy.specs.declared.reply.Reply.{Reply}
use Rattle.st_policy.specs.declared.reply.Reply.TheVariants as replies
use Rattle.st_json_reply.specs.Refusals.{object_of, nat, refusal_data}

abbrev pub list : List Data → Data
list items = array (items_of items)

-- an object with a list alone
abbrev pub listing : Text → List Data → Data
listing name items = object_of ((name, list items) ∷ [])

-- ---- users, tables, permissions and changes

abbrev pub permission_data : Permission → Data
permission_data p = string (permission_name p)

abbrev pub permissions_data : List Permission → Data
permissions_data permissions = list (map permission_data permissions)

abbrev pub account_data : {A : Type 0} → Account A → Data
account_data a =
    object_of ((codes "auths", list (map string a.auths))
    ∷ (codes "permissions", permissions_data a.permissions) ∷ (codes "user", string a.user) ∷ [])

abbrev pub table_data : TableInfo → Data
table_data t =
    object_of ((codes "constraint", boolean t.constraint)
    ∷ (codes "period", string (period_name t.period)) ∷ (codes "table", string t.table) ∷ [])

abbrev pub grantee_data : {A : Type 0} → Grantee A → Data
grantee_data g = object_of ((codes "permissions", permissions_data g.permissions) ∷ (codes "user", string g.user) ∷ [])

abbrev pub entry_data : Entry → Data
entry_data e =
    object_of ((codes "request", string e.request) ∷ (codes "result", nat e.result)
    ∷ (codes "target", string e.target) ∷ (codes "user", string e.user) ∷ [])

-- ---- rows and ranges

abbrev pub point_data : Point → Data
point_data p = list (nat p.x ∷ nat p.y ∷ nat p.t ∷ [])

abbrev pub row_data : {A : Type 0} → Row A → Data
row_data r =
    object_of ((codes "id", string r.id) ∷ (codes "label", string r.label)
    ∷ (codes "note", string r.note) ∷ (codes "point", point_data r.point) ∷ [])

-- the place of a row
abbrev pub place_data : {A : Type 0} → Row A → Data
place_data r = object_of ((codes "id", string r.id) ∷ (codes "label", string r.label) ∷ (codes "point", point_data r.point) ∷ [])

-- the place after which the next page begins: that of the last row, if more rows follow
abbrev pub next_data : {A : Type 0} → List (Row A) → Bool → Data
next_data rows false = null
next_data rows true = option_map_or place_data (slice_get rows (length rows - 1)) null

abbrev pub page_data : {A : Type 0} → List (Row A) → Bool → Data
page_data rows more = object_of ((codes "next", next_data rows more) ∷ (codes "rows", list (map row_data rows)) ∷ [])

abbrev pub range_data : Range → Data
range_data r = list (nat r.lo ∷ nat r.hi ∷ boolean r.exact ∷ [])

-- the bins of a part of a query's span, and the ranges of addresses in each of them
abbrev pub part_data : {A : Type 0} → PartPlan A → Data
part_data p = object_of ((codes "bins", list (nat p.bin_lo ∷ nat p.bin_hi ∷ [])) ∷ (codes "ranges", list (map range_data p.ranges)) ∷ [])

-- ---- replies

abbrev pub reply_data : {A : Type 0} → Reply A → Data
reply_data replies.Accepted = object_of ((codes "ok", boolean true) ∷ [])
reply_data (replies.Who account) = account_data account
reply_data (replies.Tables tables) = listing (codes "tables") (map table_data tables)
reply_data (replies.Users users) = listing (codes "users") (map string users)
reply_data (replies.Grants grants) = listing (codes "grants") (map grantee_data grants)
reply_data (replies.Normal label) = object_of ((codes "normal", string label) ∷ [])
reply_data (replies.Rows rows) = listing (codes "rows") (map row_data rows)
reply_data (replies.Page rows more) = page_data rows more
reply_data (replies.Count n) = object_of ((codes "count", nat n) ∷ [])
reply_data (replies.Grid counts) = listing (codes "grid") (map nat counts)
reply_data (replies.Plan parts) = listing (codes "parts") (map part_data parts)
reply_data (replies.Audit entries) = listing (codes "entries") (map entry_data entries)
reply_data (replies.Refused refusal) = refusal_data refusal

unfoldable pub text_of : {A : Type 0} → Reply A → List ℕ
text_of reply = compact_text (reply_data reply)
