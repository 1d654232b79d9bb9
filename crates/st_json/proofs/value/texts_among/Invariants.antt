use Rattle.std.proofs.Common.{◌≡◌, ◌++◌, map, drop}
use Rattle.serde_json.specs.View.{items_view}
use Rattle.st_json.proofs.value.texts_among.Given as goal
use Rattle.st_json.specs.inner.Parts.{texts_among}

-- what is left gives the rest of the texts
abbrev pub invariant-loop-item : goal.invariant-loop-item
invariant-loop-item g l = texts_among (items_view l.items) ≡ map (λ s. s.now) l.texts.items ++ texts_among (items_view (drop l.item-index l.items))
