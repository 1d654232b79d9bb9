-- The headings of the directory's tables.
use Rattle.std.proofs.Common.{◌≡◌, List, [], ◌∷◌, filter, find, Bool, true, false, not, Option, Some, None, refl, sym, ap, ◌∙◌}
use Rattle.std.specs.Prelude.{is_some, option_map}
use Rattle.std.specs.Option.{option_map_or}
use Rattle.st_text.specs.Texts.{Text, same, comes_before, put_in_order, in_order}
use Rattle.st_text.proofs.Same.{same-refl}
use Rattle.st_key.specs.declared.period.Period.{Period}
use Rattle.st_dir.specs.Changes.{with_table}
use Rattle.st_dir.specs.Directory.{Directory, is_table, period_of, table_named}
use Rattle.st_dir.specs.Order.{table_key}
use Rattle.st_dir.specs.declared.table.TableInfo.{TableInfo}
use Rattle.st_policy.specs.declared.request.Request.{Request}
use Rattle.st_core.specs.Changes.{directory_after}
use Rattle.st_core.specs.inner.Tables.{Heading, heading_key, heading_named, headings_of, headings_with, headings_without}

abbrev heading : TableInfo → Heading
heading info = record { table = info.table; period = info.period }

named_in : (name : Text) (infos : List TableInfo) → heading_named name (headings_of infos) ≡ option_map heading (find (λ info. same info.table name) infos)
named_in name [] = refl
named_in name (info ∷ infos) = at (same info.table name) refl (named_in name infos)
  where
    at : (b : Bool) → same info.table name ≡ b → heading_named name (headings_of infos) ≡ option_map heading (find (λ (i : TableInfo). same i.table name) infos)
        → heading_named name (headings_of (info ∷ infos)) ≡ option_map heading (find (λ (i : TableInfo). same i.table name) (info ∷ infos))
    at true e ih = simp e
    at false e ih = simp (e, ih)

module _ {A : Type 0} (d : Directory A) (name : Text) where
  some_mapped : (o : Option TableInfo) → is_some (option_map heading o) ≡ is_some o
  some_mapped None = refl
  some_mapped (Some info) = refl

  pub has_heading : is_table d name ≡ true → is_some (heading_named name (headings_of d.tables)) ≡ true
  has_heading e = ap is_some (named_in name d.tables) ∙ some_mapped (table_named d name) ∙ e

  none_of : (o : Option TableInfo) → is_some o ≡ false → option_map heading o ≡ None
  none_of None e = refl
  none_of (Some info) e = cc

  pub has_no_heading : is_table d name ≡ false → heading_named name (headings_of d.tables) ≡ None
  has_no_heading e = named_in name d.tables ∙ none_of (table_named d name) e

  abbrev period_in : Option Heading → Period
  period_in o = option_map_or (λ h. h.period) o Period.Week

  period_mapped : (o : Option TableInfo) → period_in (option_map heading o) ≡ option_map_or (λ (info : TableInfo). info.period) o Period.Week
  period_mapped None = refl
  period_mapped (Some info) = refl

  pub period_is : (period : Period) → heading_named name (headings_of d.tables) ≡ Some (record { table = name; period = period }) → period ≡ period_of d name
  period_is period e = ap period_in (sym e ∙ named_in name d.tables) ∙ period_mapped (table_named d name)

-- ---- changes of the directory's tables

put_heading : (info : TableInfo) (infos : List TableInfo) → headings_of (put_in_order table_key info infos) ≡ put_in_order heading_key (heading info) (headings_of infos)
put_heading info [] = refl
put_heading info (other ∷ infos) = at (comes_before (table_key other) (table_key info)) refl (put_heading info infos)
  where
    at : (b : Bool) → comes_before (table_key other) (table_key info) ≡ b → headings_of (put_in_order table_key info infos) ≡ put_in_order heading_key (heading info) (headings_of infos)
        → headings_of (put_in_order table_key info (other ∷ infos)) ≡ put_in_order heading_key (heading info) (headings_of (other ∷ infos))
    at true e ih = simp (e, ih)
    at false e ih = simp e

sorted_headings : (infos : List TableInfo) → headings_of (in_order table_key infos) ≡ in_order heading_key (headings_of infos)
sorted_headings [] = refl
sorted_headings (info ∷ infos) = put_heading info (in_order table_key infos) ∙ ap (put_in_order heading_key (heading info)) (sorted_headings infos)

pub headings_added : (table : Text) (period : Period) (infos : List TableInfo)
    → headings_of (in_order table_key (record { table = table; constraint = false; period = period } ∷ infos))
    ≡ in_order heading_key (record { table = table; period = period } ∷ headings_of infos)
headings_added table period infos = sorted_headings (record { table = table; constraint = false; period = period } ∷ infos)

pub headings_dropped : (table : Text) (infos : List TableInfo) → headings_of (filter (λ info. not (same info.table table)) infos) ≡ headings_without table (headings_of infos)
headings_dropped table [] = refl
headings_dropped table (info ∷ infos) = at (same info.table table) refl (headings_dropped table infos)
  where
    at : (b : Bool) → same info.table table ≡ b → headings_of (filter (λ (i : TableInfo). not (same i.table table)) infos) ≡ headings_without table (headings_of infos)
        → headings_of (filter (λ (i : TableInfo). not (same i.table table)) (info ∷ infos)) ≡ headings_without table (headings_of (info ∷ infos))
    at true e ih = simp (e, ih)
    at false e ih = simp (e, ih)

pub headings_changed : (table : Text) (period : Period) (infos : List TableInfo)
    → headings_of (with_table table (λ info. record info { period = period }) infos) ≡ headings_with table period (headings_of infos)
headings_changed table period [] = refl
headings_changed table period (info ∷ infos) = at (same info.table table) refl (headings_changed table period infos)
  where
    at : (b : Bool) → same info.table table ≡ b → headings_of (with_table table (λ i. record i { period = period }) infos) ≡ headings_with table period (headings_of infos)
        → headings_of (with_table table (λ i. record i { period = period }) (info ∷ infos)) ≡ headings_with table period (headings_of (info ∷ infos))
    at true e ih = simp (e, ih)
    at false e ih = simp (e, ih)

-- a constraint is not among the headings
pub headings_stay : (table : Text) (on : Bool) (infos : List TableInfo) → headings_of (with_table table (λ info. record info { constraint = on }) infos) ≡ headings_of infos
headings_stay table on [] = refl
headings_stay table on (info ∷ infos) = at (same info.table table) refl (headings_stay table on infos)
  where
    at : (b : Bool) → same info.table table ≡ b → headings_of (with_table table (λ i. record i { constraint = on }) infos) ≡ headings_of infos
        → headings_of (with_table table (λ i. record i { constraint = on }) (info ∷ infos)) ≡ headings_of (info ∷ infos)
    at true e ih = simp (e, ih)
    at false e ih = simp (e, ih)

-- a table that is put among others is found there
pub now_named : (name : Text) (period : Period) (headings : List Heading)
    → is_some (heading_named name (in_order heading_key (record { table = name; period = period } ∷ headings))) ≡ true
now_named name period headings = put_named (in_order heading_key headings)
  where
    made : Heading
    made = record { table = name; period = period }

    put_named : (hs : List Heading) → is_some (heading_named name (put_in_order heading_key made hs)) ≡ true
    put_named [] = let e = same-refl name in simp e
    put_named (h ∷ hs) = at (comes_before (heading_key h) (heading_key made)) refl (same h.table name) refl (put_named hs)
      where
        at : (b : Bool) → comes_before (heading_key h) (heading_key made) ≡ b → (c : Bool) → same h.table name ≡ c
            → is_some (heading_named name (put_in_order heading_key made hs)) ≡ true
            → is_some (heading_named name (put_in_order heading_key made (h ∷ hs))) ≡ true
        at true e true f ih = simp (e, f)
        at true e false f ih = simp (e, f, ih)
        at false e c f ih = let own = same-refl name in simp (e, own)

-- what makes, drops or rebuilds no table leaves the headings
pub directory_stays : {A : Type 0} (asker : Text) (request : Request A) (d : Directory A)
    → ((table : Text) (period : Period) → request ≡ Request.CreateTable table period → ⊥)
    → ((table : Text) → request ≡ Request.DropTable table → ⊥)
    → ((table : Text) (period : Period) → request ≡ Request.Period table period → ⊥)
    → headings_of (directory_after asker request d).tables ≡ headings_of d.tables
directory_stays asker Request.Whoami d made dropped rebuilt = refl
directory_stays asker Request.Tables d made dropped rebuilt = refl
directory_stays asker Request.Users d made dropped rebuilt = refl
directory_stays asker (Request.User user) d made dropped rebuilt = refl
directory_stays asker (Request.Grants table) d made dropped rebuilt = refl
directory_stays asker (Request.NamespaceGrants namespace) d made dropped rebuilt = refl
directory_stays asker (Request.Label label) d made dropped rebuilt = refl
directory_stays asker Request.Audit d made dropped rebuilt = refl
directory_stays asker (Request.Get table id auths) d made dropped rebuilt = refl
directory_stays asker (Request.Scan table query auths limit after) d made dropped rebuilt = refl
directory_stays asker (Request.Count table query auths) d made dropped rebuilt = refl
directory_stays asker (Request.Grid table query auths columns lines) d made dropped rebuilt = refl
directory_stays asker (Request.Plan table query budget) d made dropped rebuilt = refl
directory_stays asker (Request.Put table row) d made dropped rebuilt = refl
directory_stays asker (Request.Delete table id label) d made dropped rebuilt = refl
directory_stays asker (Request.CreateTable table period) d made dropped rebuilt = absurd (made table period refl)
directory_stays asker (Request.DropTable table) d made dropped rebuilt = absurd (dropped table refl)
directory_stays asker (Request.Constraint table on) d made dropped rebuilt = headings_stay table on d.tables
directory_stays asker (Request.Period table period) d made dropped rebuilt = absurd (rebuilt table period refl)
directory_stays asker (Request.CreateUser user digest auths) d made dropped rebuilt = refl
directory_stays asker (Request.DropUser user) d made dropped rebuilt = refl
directory_stays asker (Request.Token user digest) d made dropped rebuilt = refl
directory_stays asker (Request.Auths user auths) d made dropped rebuilt = refl
directory_stays asker (Request.GrantSystem user permission) d made dropped rebuilt = refl
directory_stays asker (Request.RevokeSystem user permission) d made dropped rebuilt = refl
directory_stays asker (Request.GrantTable table user permission) d made dropped rebuilt = refl
directory_stays asker (Request.RevokeTable table user permission) d made dropped rebuilt = refl
directory_stays asker (Request.GrantNamespace namespace user permission) d made dropped rebuilt = refl
directory_stays asker (Request.RevokeNamespace namespace user permission) d made dropped rebuilt = refl
