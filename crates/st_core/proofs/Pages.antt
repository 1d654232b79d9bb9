-- A page of a table's content is the page of the store's rows.
use Rattle.std.proofs.Common.{◌≡◌, ℕ, List, filter, take, length, Bool, Option, sym, ap, ◌∙◌}
use Rattle.std.specs.Prelude.{nat_lt}
use Rattle.st_text.specs.Texts.{Text, in_order}
use Rattle.st_key.specs.declared.period.Period.{Period}
use Rattle.st_key.specs.declared.place.Place.{Place}
use Rattle.st_box.specs.declared.query.Query.{Query}
use Rattle.st_index.specs.Order.{scan_key}
use Rattle.st_index.specs.declared.row.Row.{Row}
use Rattle.st_scan.specs.Pages.{is_past}
use Rattle.st_scan.specs.inner.Pages.{visible_after}
use Rattle.st_scan.specs.Visible.{is_visible_inside}
use Rattle.st_table.specs.Rows.{rows_in_table}
use Rattle.st_dir.specs.Directory.{period_of}
use Rattle.st_policy.specs.declared.reply.Reply.{Reply}
use Rattle.st_core.specs.State.{State}
use Rattle.st_core.specs.Reads.{page_of, rows_inside}

pub paged : {A : Type 0} (s : State A) (table : Text) (query : Query) (auths : List Text) (limit : ℕ) (after : Option (Place A))
    (period : Period) (content rows : List (Row A)) (more : Bool) → period ≡ period_of s.directory table
    → in_order (scan_key period) (filter (is_visible_inside query auths) (rows_in_table table s.rows)) ≡ filter (is_visible_inside query auths) content
    → rows ≡ take limit (visible_after period query auths after content)
    → more ≡ nat_lt limit (length (visible_after period query auths after content))
    → Reply.Page rows more ≡ page_of limit (filter (is_past (period_of s.directory table) after) (rows_inside s table query auths))
paged {A} s table query auths limit after period content rows more own scans first follow =
    let tested : List (Row A) = filter (is_visible_inside query auths) (rows_in_table table s.rows) in
    let all = ap (filter (is_past {A = A} period after)) (sym scans)
    ∙ ap (λ p. filter (is_past {A = A} p after) (in_order (scan_key p) tested)) own in
    let rows_are = first ∙ ap (take limit) all in
    let more_is = follow ∙ ap (λ (xs : List (Row A)). nat_lt limit (length xs)) all in
    λ i. Reply.Page (rows_are i) (more_is i)
