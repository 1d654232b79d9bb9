use Rattle.st_hall.proofs.Deciding.{learnt_whole}
use Rattle.st_hall.proofs.worker.learn.Goals as goal

pub returns-clause-seen : goal.returns-clause-seen
returns-clause-seen g c =
    learnt_whole c.args.desk.now.seen c.learn.new.self.seen c.args.front.now c.requires c.learn.ensures.one c.learn.ensures.that
