-- What reads show.
use Rattle.std.specs.Prelude.{ℕ, List, length, filter, take, nat_lt}
use Rattle.std.specs.Option.{option_map_or}
use Rattle.st_text.specs.Texts.{Text, in_order}
use Rattle.st_box.specs.declared.query.Query.{Query}
use Rattle.st_label.specs.Normal.{normal_text}
use Rattle.st_plan.specs.PlanOf.{plan_of}
use Rattle.st_index.specs.Order.{scan_key}
use Rattle.st_index.specs.declared.row.Row.{Row}
use Rattle.st_scan.specs.Grids.{grid_of}
use Rattle.st_scan.specs.Pages.{is_past}
use Rattle.st_scan.specs.Visible.{is_visible, visible_rows}
use Rattle.st_dir.specs.Directory.{Directory, period_of}
use Rattle.st_dir.specs.Listings.{who, users_of, tables_of, grants_on}
use Rattle.st_grant.specs.declared.grant.Scope.TheVariants.{OnTable, OnNamespace}
use Rattle.st_policy.specs.declared.refusal.Refusal.{Refusal}
use Rattle.st_policy.specs.declared.request.Request.{Request}
use Rattle.st_table.specs.Rows.{rows_in_table}
use Rattle.st_table.specs.Table.{rows_by_label}
use Rattle.st_policy.specs.declared.reply.Reply.{Reply}
use Rattle.st_core.specs.State.{State}

-- the visible rows of the table inside the query, in scan order
abbrev pub rows_inside : {A : Type 0} → State A → Text → Query → List Text → List (Row A)
rows_inside s table query auths = in_order (scan_key (period_of s.directory table)) (visible_rows query auths (rows_in_table table s.rows))

-- the first rows, and whether more follow
abbrev pub page_of : {A : Type 0} → ℕ → List (Row A) → Reply A
page_of limit rows = Reply.Page (take limit rows) (nat_lt limit (length rows))

-- the visible rows of the table with the id, by the bytes of their labels
abbrev pub rows_with_id : {A : Type 0} → State A → Text → Text → List Text → List (Row A)
rows_with_id s table id auths = rows_by_label id (is_visible auths) (rows_in_table table s.rows)

-- a user's account, where there is such a user
abbrev pub account : {A : Type 0} → Directory A → Text → Reply A
account d user = option_map_or Reply.Who (who d user) (Reply.Refused (Refusal.NoUser user))

-- what each line replies to whom it is allowed: a change, that it is made
abbrev pub shown : {A : Type 0} → State A → (asker : Text) → Request A → Reply A
shown s asker Request.Whoami = account s.directory asker
shown s asker Request.Tables = Reply.Tables (tables_of s.directory)
shown s asker Request.Users = Reply.Users (users_of s.directory)
shown s asker (Request.User user) = account s.directory user
shown s asker (Request.Grants table) = Reply.Grants (grants_on s.directory (OnTable table))
shown s asker (Request.NamespaceGrants namespace) = Reply.Grants (grants_on s.directory (OnNamespace namespace))
shown s asker (Request.Label label) = Reply.Normal (normal_text label)
shown s asker Request.Audit = Reply.Audit s.audit
shown s asker (Request.Get table id auths) = Reply.Rows (rows_with_id s table id auths)
shown s asker (Request.Scan table query auths limit after) =
    page_of limit (filter (is_past (period_of s.directory table) after) (rows_inside s table query auths))
shown s asker (Request.Count table query auths) = Reply.Count (length (rows_inside s table query auths))
shown s asker (Request.Grid table query auths columns lines) = Reply.Grid (grid_of query columns lines (rows_inside s table query auths))
shown s asker (Request.Plan table query budget) = Reply.Plan (plan_of (period_of s.directory table) query budget)
shown s asker _ = Reply.Accepted
