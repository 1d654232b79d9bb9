use Rattle.std.proofs.Common.{rules, ◌∷◌, [], ap}
use Rattle.std.proofs.lemmas.List.Sorted.{IsPartitionPoint-from_clause}
use Rattle.st_text.specs.Texts.{comes_before}
use Rattle.st_text.proofs.Same.{same-eq}
use Rattle.st_dir.proofs.Sorted.{place_from, partitioned, alone}
use Rattle.st_core.specs.inner.Tables.{heading_key, is_of}
use Rattle.st_core.specs.inner.Shelves.{heading_of, headings_in}
use Rattle.st_core.specs.declared.store.tables.Shelf.{Shelf}
use Rattle.st_core.proofs.Shelving.{rises_shelves, place_headings}
use Rattle.st_core.proofs.store.tables.place_of.Goals as goal

pub returns-clause-place : goal.returns-clause-place
returns-clause-place g c =
    let wanted = c.args.name.now ∷ [] in
    let shelves = c.args.shelves.now in
    let key = λ (shelf : Shelf g.row.A.Denot). heading_key (heading_of shelf) in
    let sorted = partitioned key wanted shelves (rises_shelves shelves c.requires) in
    place_headings wanted shelves c.partition_point.result
    (place_from key wanted shelves c.partition_point.result c.partition_point.ensures.bound
    (IsPartitionPoint-from_clause (λ shelf. comes_before (key shelf) wanted) shelves c.partition_point.result c.partition_point.ensures.partitioned sorted (λ a r f' k. search rules)))

pub returns-clause-alone : goal.returns-clause-alone
returns-clause-alone g c =
    alone heading_key (is_of c.args.name.now) (c.args.name.now ∷ []) (λ heading e. ap (λ t. t ∷ []) (same-eq heading.table c.args.name.now e))
    (headings_in c.args.shelves.now) c.partition_point.result c.requires (returns-clause-place g c)
