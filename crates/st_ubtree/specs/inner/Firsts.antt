-- An invariant of a representation, which no reader has to believe: the first keys of a node's children, side by side.
use Rattle.std.specs.Prelude.{◌≡◌, Bool, List, ltb, map, not}
use Rattle.st_key.specs.declared.key.Key.{Key}
use Rattle.st_key.specs.Key.{rank}
use Rattle.st_ubtree.specs.declared.node.Kids.{Kids}
use Rattle.st_ubtree.specs.declared.node.Kids.TheVariants.{Page, Inner}
use Rattle.st_ubtree.specs.declared.node.firsts.First.{First}
use Rattle.st_ubtree.specs.declared.node.firsts.Firsts.{Firsts}
use Rattle.st_tally.specs.inner.Pages.{NodeValue}

-- they are those of the children, in their order
abbrev pub AreFirsts : {A : Type 0} → Firsts A → List (NodeValue A) → Type 0
AreFirsts {A} f kids = map (λ (k : First). rank k.key) f.keys.items ≡ map (λ (v : NodeValue A). v.first) kids

-- whether a node begins at the key or before it
abbrev pub begins_by : {A : Type 0} → Key → NodeValue A → Bool
begins_by key v = not (ltb (rank key) v.first)

-- those of the children, if there are some
abbrev pub AreFirstsUnder : {A : Type 0} → Kids A → Type 0
AreFirstsUnder (Page entries) = Unit {0}
AreFirstsUnder (Inner kids aside) = AreFirsts aside.value.firsts kids.items
