use Rattle.std.proofs.Common.{rules}
use Rattle.st_server_peer.proofs.conversing.answer_stream.Goals as goal

pub returns-then-not-matches-clause-served : goal.returns-then-not-matches-clause-served
returns-then-not-matches-clause-served g c = search rules

pub returns-else-not-matches-clause-served : goal.returns-else-not-matches-clause-served
returns-else-not-matches-clause-served g c = search rules

pub returns-then-not-matches-clause-told : goal.returns-then-not-matches-clause-told
returns-then-not-matches-clause-told g c = search rules

pub returns-then-not-matches-clause-untold : goal.returns-then-not-matches-clause-untold
returns-then-not-matches-clause-untold g c = search rules

pub returns-else-not-matches-clause-told : goal.returns-else-not-matches-clause-told
returns-else-not-matches-clause-told g c = search rules

pub returns-else-not-matches-clause-untold : goal.returns-else-not-matches-clause-untold
returns-else-not-matches-clause-untold g c = search rules
