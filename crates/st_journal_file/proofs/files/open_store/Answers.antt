use Rattle.std.proofs.Common.{IsTrue, inl, inr, sym, ap, subst, ◌∙◌}
use Rattle.sqlite_wal.specs.Files.{seen_image}
use Rattle.sqlite_wal.specs.Reads.{are_clean}
use Rattle.sqlite_pool.specs.Opening.{IsBlankFile}
use Rattle.sqlite_store.specs.FileStore.{view}
use Rattle.st_journal_file.specs.inner.Finding.{Finds}
use Rattle.st_journal_file.proofs.FileLemmas.{clean_files, seen_same, if_two}
use Rattle.st_journal_file.proofs.files.open_store.Goals as goal

pub returns-then-blank-clause-found : goal.returns-then-blank-clause-found
returns-then-blank-clause-found g c = if_two c.create.result (λ store honest empty clean.
    let disk = g.D.Disk in
    let start = seen_image disk c.args.files.log c.args.files.db in
    let now = c.probe_blank.new.files in
    let still : IsTrue (are_clean disk now.log now.db) =
    sym (clean_files c.in_ok-unopened.unopened.pool ∙ ap (λ f. are_clean disk f.0 f.1) c.in_ok-unopened.ensures.files) ∙ honest clean in
    let blank = (c.in-Ok.ensures.ok still).0 c.if-blank.true in
    inr (inl (subst (λ n. IsBlankFile n start) c.in-Some.ensures.value blank), empty clean)) c.create.ensures.honest c.create.ensures.empty

pub returns-else-blank-clause-found : goal.returns-else-blank-clause-found
returns-else-blank-clause-found g c = if_two c.open_existing.result (λ store honest found clean.
    let disk = g.D.Disk in
    let now = c.probe_blank.new.files in
    let same = ap (λ f. seen_image disk f.0 f.1) c.in_ok-unopened.ensures.files
    ∙ seen_same c.args.files.log now.log c.args.files.db now.db c.in-Ok.ensures.log c.in-Ok.ensures.db in
    subst (λ i. Finds i (view store).committed) same (found clean)) c.open_existing.ensures.honest c.open_existing.ensures.found
