use Rattle.st_auth.proofs.verdicts.Verdicts.new.Goals as goal

pub invariant_of-result : goal.invariant_of-result
invariant_of-result g c = (c.new-2.ensures.held c.none.result, c.new.ensures c.none.result, c.new-2.ensures.known c.none.result)
