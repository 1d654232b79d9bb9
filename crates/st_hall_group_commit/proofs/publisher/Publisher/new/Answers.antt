use Rattle.std.proofs.Common.{◌∙◌}
use Rattle.st_hall_group_commit.proofs.Grouping.{publisher_opened}
use Rattle.st_hall_group_commit.proofs.publisher.Publisher.new.Goals as goal

pub invariant_of-result : goal.invariant_of-result
invariant_of-result g c =
    publisher_opened g.J.Journal g.B.Beginning.first g.H.HallName.start g.met.J.Journal.leaves_list
    c.args.press.pushed c.front-tried.result c.token-kept.result c.args.press.published c.args.journal c.token-kept.new.self
    c.requires.empty.0 c.requires.empty.1 c.front-tried.ensures (c.token-kept.ensures.is ∙ c.front.ensures) (c.token-kept.ensures.same ∙ c.requires.empty.2)
    c.requires.ready c.requires.stands
