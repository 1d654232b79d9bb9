use Rattle.std.proofs.Common.{rules, sym}
use Rattle.st_core.proofs.Steps.{read_leaves}
use Rattle.st_core.proofs.store.Store.step.Goals as goal

pub returns-else-is_change-clause-state : goal.returns-else-is_change-clause-state
returns-else-is_change-clause-state g c =
    let stays = sym (read_leaves c.args.self.now c.args.asked.now (search rules)) in
    search (rules, stays)
