use Rattle.std.proofs.Common.{[]}
use Rattle.st_hall_group_commit.proofs.Backs.{read_back, was_read}
use Rattle.st_hall_group_commit.proofs.publisher.Publisher.read.Goals as goal

pub invariant_of-self : goal.invariant_of-self
invariant_of-self g c = (
  c.self.invariant.0,
  c.self.invariant.1,
  read_back g.J.Journal g.B.Beginning.first g.H.HallName.start
      c.self.inside.tried c.self.inside.kept c.self.inside.press.published c.self.inside.journal c.read_from-read.new.journal c.says_lost-self-inside.result []
      c.self.inside.is_lost c.if-self.false c.self.invariant.2 c.read_from-read.ensures.misreads
      (λ alive. c.read_from-read.ensures.ready (c.says_lost-self-inside.ensures alive))
      (λ alive clean. c.read_from-read.ensures.same clean (c.says_lost-self-inside.ensures alive))
      c.read_from-read.ensures.crash,
)

pub returns-clause-read : goal.returns-clause-read
returns-clause-read g c =
    rw (← c.self.view_is)
    (was_read g.J.Journal g.B.Beginning.first g.H.HallName.start c.self.inside.kept c.self.inside.journal c.read_from-read.new.journal
    (λ records. records.items) c.read_from-read.result.0 c.args.from c.args.most c.read_from-read.ensures.misreads c.read_from-read.ensures.read c.read_from-read.ensures.same
    (c.self.invariant.2.stands c.if-self.false))
