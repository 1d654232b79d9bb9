use Rattle.st_table.proofs.Getting.{got_is}
use Rattle.st_table.proofs.law.reads_are_gets.Goals as goal

pub returns : goal.returns
returns g c = λ id test t once. got_is id test t.table t.all t.rows t.own once
