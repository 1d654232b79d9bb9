use Rattle.std.proofs.Common.{ap, ◌∙◌}
use Rattle.st_command.specs.Kept.{status_after}
use Rattle.st_command.proofs.kept.converse_kept.Goals as goal

pub returns : goal.returns
returns g c =
    let served = c.serve-ended.ensures in
    record {
      ended = c.serve-ended.result;
      after = c.serve-ended.new.self;
      served = served.served;
      ends = served.ends;
      kept = served.kept;
      stands = served.stands;
      leaves = served.leaves;
      disk = served.disk;
      status_is = c.end_after.ensures ∙ ap (status_after c.serve-ended.result) c.loss.ensures;
    }
