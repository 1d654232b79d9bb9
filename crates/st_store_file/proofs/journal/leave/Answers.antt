use Rattle.st_store_file.proofs.journal.leave.Goals as goal

pub returns : goal.returns
returns g c = λ clean left leaves. g.met.J.Journal.leaves_list c.args.journal.now left clean c.requires.ready leaves
