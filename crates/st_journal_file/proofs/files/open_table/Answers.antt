use Rattle.std.proofs.Common.{IsTrue, subst, ◌∙◌}
use Rattle.sqlite_trees.proofs.Doubt.{clean_of}
use Rattle.sqlite_pool.specs.Stored.{Recovers}
use Rattle.sqlite_store.specs.FileStore.{state}
use Rattle.sqlite_store.specs.Unopened.{state_of, image}
use Rattle.st_journal_file.proofs.FileLemmas.{rests, holds}
use Rattle.st_journal_file.proofs.files.open_table.Goals as goal

pub returns-in-Ok-clause-honest : goal.returns-in-Ok-clause-honest
returns-in-Ok-clause-honest g c clean = c.in-Ok.ensures.honest (clean_of _ clean)

pub returns-in-Ok-clause-found : goal.returns-in-Ok-clause-found
returns-in-Ok-clause-found g c clean =
    let honest = clean_of _ clean in
    let was : IsTrue (state_of c.args.files).is_clean = c.in-Ok.ensures.honest honest in
    let size = c.requires.size was in
    holds c.in-Ok.store (image c.args.files) c.in-Ok.ensures.ready clean c.in-Ok.ensures.numbered (c.in-Ok.ensures.schema ∙ c.requires.schema)
    ((c.in-Ok.ensures.kept honest).size ∙ size)
    (subst (λ n. Recovers n (image c.args.files) (state c.in-Ok.store).committed) size (c.in-Ok.ensures.found honest))

pub returns-in-Ok-clause-rest : goal.returns-in-Ok-clause-rest
returns-in-Ok-clause-rest g c = rests c.in-Ok.store c.in-Ok.ensures.ready c.in-Ok.ensures.numbered (c.in-Ok.ensures.schema ∙ c.requires.schema)
