-- A stage of the code, which no reader has to believe: what evening pages does to a node, before a row is put in.
use Rattle.std.specs.Prelude.{◌≡◌, ℕ, ◌+◌, ◌<◌, ◌≤◌, List, length}
use Rattle.std.specs.List.{All}
use Rattle.st_tally.specs.inner.Pages.{NodeValue}
use Rattle.st_ubtree.specs.inner.Growing.{AreAround}
use Rattle.st_ubtree.specs.inner.Kids.{HeadAt, IsKid, pages_of}
use Rattle.st_tally.specs.inner.Marks.{HasAt}
use Rattle.st_ubtree.specs.inner.Shrinking.{Reshapes}
use Rattle.st_ubtree.specs.inner.Splits.{chains_of, splits, splits_in}
use Rattle.st_ubtree.specs.inner.Trading.{Keeps}

-- the same entries under the node, which keeps its bounds, and no new row splits more nodes than before
pub record Evens {A : Type 0} (old new : NodeValue A) : Type 0 where
  pub keeps : Keeps old new
  pub by : Reshapes old.pages new.pages
  pub splits : (key : ℕ) → AreAround key old.pages → splits new key ≤ splits old key

-- the same of children: as many as before, over the same entries
pub record KidsEven {A : Type 0} (below : ℕ) (old new : List (NodeValue A)) : Type 0 where
  pub each : All (IsKid below) new
  pub head : (first : ℕ) → HeadAt first old → HeadAt first new
  pub count : length new ≡ length old
  pub by : Reshapes (pages_of old) (pages_of new)
  pub splits : (key : ℕ) → AreAround key (pages_of old) → splits_in (pages_of new) (chains_of new) key ≤ splits_in (pages_of old)
      (chains_of old) key

-- a new row splits nothing there
abbrev pub SplitsNone : {A : Type 0} → NodeValue A → Type 0
SplitsNone v = (key : ℕ) → splits v key ≡ 0

-- the child at this place takes two entries or children more
abbrev pub HasRoomAt : {A : Type 0} → List (NodeValue A) → ℕ → Type 0
HasRoomAt {A} kids at = (at < length kids) × ((v : NodeValue A) → HasAt kids at v → v.width ≤ 30)

-- two children stand from this place on, and not both are nearly full
abbrev pub HasPairAt : {A : Type 0} → List (NodeValue A) → ℕ → Type 0
HasPairAt {A} kids at = (at + 1 < length kids)
    × ((u v : NodeValue A) → HasAt kids at u → HasAt kids (at + 1) v → u.width + v.width ≤ 62)
