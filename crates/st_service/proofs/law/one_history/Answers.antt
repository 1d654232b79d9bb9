use Rattle.std.proofs.Common.{sym, ◌∙◌}
use Rattle.st_service.proofs.Histories.{each_asks, of_items, same_events}
use Rattle.st_service.proofs.Connections.{heard, defined}
use Rattle.st_service.proofs.law.one_history.Goals as goal

pub returns-clause-there : goal.returns-clause-there
returns-clause-there g c s t items texts run some = let h = heard s t items texts run some in (h.history, h.is_history)

pub returns-clause-alone : goal.returns-clause-alone
returns-clause-alone g c items history other is also =
    same_events history other (each_asks items history is) (each_asks items other also) (sym (of_items items history is) ∙ of_items items other also)

pub returns-clause-answered : goal.returns-clause-answered
returns-clause-answered g c s t items texts history run some is = (defined s t items texts history run some is).texts_are

pub returns-clause-leaves : goal.returns-clause-leaves
returns-clause-leaves g c s t items texts history run some is = (defined s t items texts history run some is).ends
