use Rattle.st_journal_copy.proofs.Pieces.{stand}
use Rattle.st_journal_copy.proofs.law.begins.Goals as goal

pub returns : goal.returns
returns g c = λ source list records each given. stand (g.S.RecordSource.gives source) 0 given.0 records list each given.1
