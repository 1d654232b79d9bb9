-- An invariant of a representation, which no reader has to believe: which nodes a new row splits, the page of its key
-- where that has 32 other keys, and each node of 32 children over a child that is split.
use Rattle.std.specs.Prelude.{ℕ, ◌+◌, ◌-◌, Bool, false, ◌||◌, if◌then◌else◌, eqb, ltb, List, [], ◌∷◌, ◌++◌, length, map, drop, get_or}
use Rattle.std.specs.Prelude.{Option, Some, None}
use Rattle.st_index.specs.inner.Entries.{EntryValue}
use Rattle.st_tally.specs.inner.Pages.{PageValue, NodeValue}

abbrev pub has_key : {A : Type 0} → ℕ → List (EntryValue A) → Bool
has_key key [] = false
has_key key (e ∷ es) = eqb e.at key || has_key key es

-- so many nodes where a new row of the key splits the page, else none
unfoldable pub splits_page : {A : Type 0} → List (EntryValue A) → ℕ → ℕ → ℕ
splits_page es chain key = if ltb (length es) 32 || has_key key es then 0 else chain

-- how many nodes are split by the page of the key: the last that begins at or before it, or else the first
unfoldable pub splits_in : {A : Type 0} → List (PageValue A) → List ℕ → ℕ → ℕ
splits_in [] chains key = 0
splits_in (p ∷ []) chains key = splits_page p.entries (get_or chains 0 0) key
splits_in (p ∷ q ∷ ps) chains key = if ltb key q.first then splits_page p.entries (get_or chains 0 0) key else splits_in (q ∷ ps)
    (drop 1 chains) key

-- how many nodes of a node a new row of the key splits
abbrev pub splits : {A : Type 0} → NodeValue A → ℕ → ℕ
splits v = splits_in v.pages v.chains

-- with a node of so many children, where so many are split up to a child of this height
abbrev pub splits_with : ℕ → ℕ → ℕ → ℕ
splits_with width height split = if ltb width 32 then split else if eqb split (height + 1) then split + 1 else split

abbrev pub chains_over : {A : Type 0} → ℕ → List (NodeValue A) → List ℕ
chains_over width [] = []
chains_over width (v ∷ vs) = map (splits_with width v.height) v.chains ++ chains_over width vs

abbrev pub chains_of : {A : Type 0} → List (NodeValue A) → List ℕ
chains_of kids = chains_over (length kids) kids

-- the number of split nodes, by that of those above the page where the page is split
abbrev pub split_nodes : Option ℕ → ℕ
split_nodes None = 0
split_nodes (Some inners) = inners + 1

-- how many nodes above the pages are made where so many nodes of a tree of this height are split: one for each but
-- the page, and one over the root if that is split
abbrev pub made_nodes : ℕ → ℕ → ℕ
made_nodes height split = if eqb split (height + 1) then split else split - 1
