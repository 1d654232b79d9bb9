use Rattle.st_journal_compact.proofs.Taking.{all_ok, took}
use Rattle.st_journal_compact.proofs.sieve.Sieve.take.Goals as goal

pub returns : goal.returns
returns c = all_ok c.count.result c.count.ensures.kept c.count.ensures.behind c.count.ensures.decided
    (took c.args.self.now c.decide.new.self c.count.new.self c.args.it c.in_ok-request.request c.in_ok-left_out.left_out c.in_ok-request.ensures.ok
    c.in_ok-left_out.ensures c.in_ok-decide.ensures.knows c.in_ok-decide.ensures.kept c.in_ok-decide.ensures.behind)
