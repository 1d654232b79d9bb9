use Rattle.std.proofs.Common.{rules, ◌≡◌, None}
use Rattle.st_core.specs.Step.{Heard, judge}
use Rattle.st_core.proofs.Judgements.{heard_by}
use Rattle.st_core.proofs.store.Store.answer.Goals as goal

pub read-requires-clause-read : goal.read-requires-clause-read
read-requires-clause-read g c =
    let at = c.in-Heard-default-default-None in
    let said : judge c.args.self.now.directory c.args.asked.now ≡ Heard at.asker.now at.request.now None = search rules in
    let heard = heard_by c.args.self.now.directory c.args.asked.now at.asker.now at.request.now None said in
    rw heard.1 at c.requires

pub read-requires-clause-allowed : goal.read-requires-clause-allowed
read-requires-clause-allowed g c =
    let at = c.in-Heard-default-default-None in
    let said : judge c.args.self.now.directory c.args.asked.now ≡ Heard at.asker.now at.request.now None = search rules in
    (heard_by c.args.self.now.directory c.args.asked.now at.asker.now at.request.now None said).2
