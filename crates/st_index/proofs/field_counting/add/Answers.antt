use Rattle.st_index.proofs.Tallying.{put_at}
use Rattle.st_index.proofs.field_counting.add.Goals as goal

pub returns : goal.returns
returns c = put_at c.args.counts.now c.args.field c.args.rows c.requires.below
