use Rattle.st_journal_compact.proofs.Taking.{past_more}
use Rattle.st_journal_compact.proofs.short_list.shorten.Goals as goal

pub loop-it-preserved : goal.loop-it-preserved
loop-it-preserved c = record {
  past = past_more c.args.changes.items c.loop-it.changes.items c.pop.new.self.items c.in-Some.it c.loop-it.sieve c.take.new.self
      c.loop-it.invariant.past c.in-Some.ensures.items c.in_ok-take.ensures;
}
