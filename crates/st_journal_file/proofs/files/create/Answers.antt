use Rattle.std.proofs.Common.{◌∙◌, arith}
use Rattle.sqlite_trees.proofs.Doubt.{clean_of}
use Rattle.st_journal_rows.specs.Table.{table_tree}
use Rattle.st_journal_file.proofs.FileLemmas.{rests}
use Rattle.st_journal_file.proofs.files.create.Goals as goal

pub returns-in-Ok-clause-honest : goal.returns-in-Ok-clause-honest
returns-in-Ok-clause-honest g c clean = c.in-Ok.ensures.honest (clean_of _ clean)

pub returns-in-Ok-clause-empty : goal.returns-in-Ok-clause-empty
returns-in-Ok-clause-empty g c clean = c.in-Ok.ensures.empty (clean_of _ clean) table_tree (omega arith)

pub returns-in-Ok-clause-rest : goal.returns-in-Ok-clause-rest
returns-in-Ok-clause-rest g c = rests c.in-Ok.store c.in-Ok.ensures.ready c.in-Ok.ensures.numbered (c.in-Ok.ensures.schema ∙ c.requires.schema)
