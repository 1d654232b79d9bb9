use Rattle.st_key.specs.Key.{rank}
use Rattle.st_scan.proofs.Keys.{not_before}
use Rattle.st_scan.proofs.Entries.{skips_none}
use Rattle.st_scan.proofs.step.entries_from.Goals as goal

pub returns-else-is_before : goal.returns-else-is_before
returns-else-is_before g c period hi rises =
    skips_none period (rank c.args.from) (rank c.args.first) hi c.args.entries.now (not_before c.args.first c.args.from _ c.is_before.ensures c.if-is_before.false) rises

pub returns-then-is_before : goal.returns-then-is_before
returns-then-is_before g c period hi rises = c.skip_to.ensures period (rank c.args.first) hi rises
