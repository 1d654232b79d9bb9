use Rattle.std.proofs.Common.{rules, ◌∙◌, ◌∷◌, [], ap}
use Rattle.st_text.specs.inner.Packed.{word}
use Rattle.st_text.proofs.Packed.{last-six}
use Rattle.st_text.proofs.short.words.Goals as goal

pub returns-clause-low : goal.returns-clause-low
unfolding word
returns-clause-low c = search rules

pub returns-clause-high : goal.returns-clause-high
unfolding word
returns-clause-high c = c.from_le_bytes-high.ensures ∙ ap word (last-six c.args.bytes.now (0 ∷ 0 ∷ []) (search rules))
