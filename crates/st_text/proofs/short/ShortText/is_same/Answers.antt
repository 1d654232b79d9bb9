use Rattle.std.proofs.Common.{ℕ, List, ◌∙◌, ◌++◌, ◌∷◌, [], sym, ap, drop}
use Rattle.std.proofs.lemmas.Bool.{eqb-true, eq-eqb}
use Rattle.st_text.specs.inner.Packed.{word}
use Rattle.st_text.proofs.Packed.{packed-eq, packed-same}
use Rattle.st_text.proofs.short.ShortText.is_same.Goals as goal

pub returns-then-mine-others : goal.returns-then-mine-others
returns-then-mine-others c =
    let mine = c.words-mine.ensures in
    let others = c.words-others.ensures in
    let low = sym mine.low ∙ c.if-mine-others.true ∙ others.low in (
      (λ t. sym c.self.view_is
          ∙ packed-eq c.self.inside.bytes c.other.inside.bytes c.self.inside.len c.other.inside.len c.self.told c.other.told mine.bytes others.bytes
          c.if-self-other.false low (sym mine.high ∙ eqb-true _ _ t ∙ others.high) ∙ c.other.view_is),
      (λ e. let same = packed-same c.self.inside.bytes c.other.inside.bytes c.self.inside.len c.other.inside.len c.self.told c.other.told
          c.self.invariant.0 c.other.invariant.0 c.self.invariant.2 c.other.invariant.2 (c.self.view_is ∙ e ∙ sym c.other.view_is) in
          eq-eqb _ _ (mine.high ∙ ap (λ (l : List ℕ). word (drop 8 l ++ 0 ∷ 0 ∷ [])) same.1 ∙ sym others.high)),
    )
