-- Walks over the rows of a query.
use Rattle.std.specs.Prelude.{ℕ, ◌≤◌, List, IsTrue}
use Rattle.st_key.specs.declared.key.Key.{Key}
use Rattle.st_key.specs.declared.period.Period.{Period}
use Rattle.st_box.specs.declared.query.Query.{Query}
use Rattle.st_box.specs.Query.{HasKey}
use Rattle.st_plan.specs.declared.part_plan.PartPlan.{PartPlan}
use Rattle.st_plan.specs.QueryPlan.{is_exact}
use Rattle.st_index.specs.declared.row.Row.{Row}
use Rattle.st_index.specs.inner.Index.{Region}
use Rattle.st_scan.specs.inner.Regions.{Meets}

-- what a walk is seen as: the rows that it still gives, and how many regions it has opened
pub record WalkValue (A : Type 0) : Type 0 where
  pub period : Period
  pub query : Query
  pub regions : List Region
  pub start : ℕ
  pub left : List (Row A)
  pub opened : ℕ

-- each key of an exact range is the query's
abbrev pub IsExactFor : {A : Type 0} → Period → Query → List (PartPlan A) → Type 0
IsExactFor period q plan = (k : Key) → IsTrue (is_exact plan k) → HasKey q period k

-- the region meets the query and begins at or before a place
abbrev pub MeetsUpTo : Period → Query → ℕ → ℕ → Region → Type 0
MeetsUpTo period q start place r = (r.first ≤ place) × Meets period q start r
