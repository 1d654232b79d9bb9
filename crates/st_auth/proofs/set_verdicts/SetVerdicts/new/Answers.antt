use Rattle.st_auth.proofs.set_verdicts.SetVerdicts.new.Goals as goal

pub invariant_of-result : goal.invariant_of-result
invariant_of-result g c = (c.new-2.ensures.held c.args.auths.now, c.new.ensures c.args.auths.now, c.new-2.ensures.known c.args.auths.now)
