-- A stage of the code, which no reader has to believe: what putting a row in the place of another does to a node.
use Rattle.std.specs.Prelude.{◌≡◌, ℕ, List}
use Rattle.st_key.specs.declared.period.Period.{Period}
use Rattle.st_index.specs.declared.row.Row.{Row}
use Rattle.st_index.specs.inner.Entries.{rank_of}
use Rattle.st_index.specs.inner.Index.{Swaps}
use Rattle.st_tally.specs.inner.Pages.{PageValue, NodeValue, rows_of_pages}
use Rattle.st_ubtree.specs.inner.Kids.{AreWide, Spans, Starts}

-- new pages hold one row in another's place, both of the key, between the same bounds
pub record TradesIn {A : Type 0} (key : ℕ) (out row : Row A) (old new : List (PageValue A)) : Type 0 where
  pub swaps : Swaps out row (rows_of_pages old) (rows_of_pages new)
  pub spans : (period : Period) (lo hi : ℕ) → key ≡ rank_of period row → Spans period lo hi old → Spans period lo hi new
  pub placed : (period : Period) (lo hi : ℕ) → Spans period lo hi old → rank_of period out ≡ key

-- the node keeps its bounds
pub record Keeps {A : Type 0} (old new : NodeValue A) : Type 0 where
  pub first : new.first ≡ old.first
  pub height : new.height ≡ old.height
  pub width : new.width ≡ old.width
  pub starts : Starts old.first old.pages old.chains → Starts new.first new.pages new.chains
  pub filled : AreWide old.pages old.widths → AreWide new.pages new.widths
