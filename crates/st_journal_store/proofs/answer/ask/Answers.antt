use Rattle.std.proofs.Common.{rules, sym}
use Rattle.st_core.proofs.Steps.{read_leaves}
use Rattle.st_journal_store.proofs.answer.ask.Goals as goal

pub returns-then-not-is_change-clause-state : goal.returns-then-not-is_change-clause-state
returns-then-not-is_change-clause-state g c = sym (read_leaves c.args.store.now c.args.asked.now (search rules))
