use Rattle.std.proofs.Common.{◌≡◌, [], inl, inr, sym, subst, ◌∙◌}
use Rattle.sqlite_pool.specs.Stored.{Recovers}
use Rattle.sqlite_pool.specs.File.{IsSoundFile, in_use}
use Rattle.sqlite_trees.specs.declared.store.Shape.TheVariants.{Table}
use Rattle.sqlite_store.specs.Db.{rows_at}
use Rattle.sqlite_store.specs.Unopened.{image, state_of}
use Rattle.st_journal_file.proofs.FileLemmas.{holds_before, if_one, if_two, nothing}
use Rattle.st_journal_file.proofs.files.open_existing.Goals as goal

pub open_table-requires-clause-size : goal.open_table-requires-clause-size
open_table-requires-clause-size g c clean = (c.in-Ok.ensures.kept clean).size ∙ c.requires.size

pub returns-in-empty-clause-honest : goal.returns-in-empty-clause-honest
returns-in-empty-clause-honest g c = if_one c.create.result (λ store honest clean. c.in-Ok.ensures.honest (honest clean)) c.create.ensures.honest

pub returns-in-empty-clause-found : goal.returns-in-empty-clause-found
returns-in-empty-clause-found g c = if_two c.create.result (λ store honest empty clean.
    let listed = c.in-Ok.ensures.ok (honest clean) in
    let none : c.in-Ok.listed.items ≡ [] = sym c.as_slice.ensures.value ∙ nothing _ c.in-empty.len_below in
    let now = state_of c.read_catalog.new.self in
    let size = (c.in-Ok.ensures.kept (honest clean)).size ∙ c.requires.size in
    inr (
      inr (
        listed.pages,
        subst (λ n. Recovers n (image c.args.files) listed.pages) c.requires.size listed.found,
        subst (λ n. ∥ IsSoundFile n listed.pages ∥₁) size (subst (λ p. ∥ IsSoundFile now.page_size p ∥₁) listed.shows.committed listed.shows.clean.sound),
        subst (λ n. rows_at n (in_use n listed.pages) Table 1 ≡ []) c.requires.size (sym listed.lists ∙ none),
      ),
      empty clean,
    )) c.create.ensures.honest c.create.ensures.empty

pub returns-in-len1-clause-honest : goal.returns-in-len1-clause-honest
returns-in-len1-clause-honest g c = if_one c.open_table.result (λ store honest clean. c.in-Ok.ensures.honest (honest clean)) c.open_table.ensures.honest

pub returns-in-len1-clause-found : goal.returns-in-len1-clause-found
returns-in-len1-clause-found g c = if_two c.open_table.result (λ store honest found clean.
    let listed = c.in-Ok.ensures.ok (honest clean) in
    inl (holds_before (image c.args.files) (image c.read_catalog.new.self) listed.pages _
    (subst (λ n. Recovers n (image c.args.files) listed.pages) c.requires.size listed.found)
    (subst (λ n. Recovers n (image c.read_catalog.new.self) listed.pages) c.requires.size listed.again)
    (found clean))) c.open_table.ensures.honest c.open_table.ensures.found
