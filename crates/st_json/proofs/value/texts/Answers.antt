use Rattle.std.proofs.Common.{sym, ◌∙◌}
use Rattle.st_json.proofs.Listed.{all_texts, not_texts, of_found}
use Rattle.st_json.proofs.value.texts.Goals as goal

pub returns-then-all : goal.returns-then-all
returns-then-all c = of_found _ _ _ _ c.in_ok-list.ensures c.as_slice-items.ensures.value (all_texts _ (sym c.are_texts-all.ensures ∙ c.if-all.true))

pub returns-else-all : goal.returns-else-all
returns-else-all c = of_found _ _ _ _ c.in_ok-list.ensures c.as_slice-items.ensures.value (not_texts _ (sym c.are_texts-all.ensures ∙ c.if-all.false))
