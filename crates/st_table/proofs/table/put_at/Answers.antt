use Rattle.std.proofs.Common.{◌≡◌, [], sym, ap, ◌∙◌, subst}
use Rattle.std.proofs.lemmas.Map.Lookups.{exact_unsigned}
use Rattle.std.specs.Cmp.{nat_cmp_total, tied_itself}
use Rattle.std.specs.Ordering.{nat_cmp}
use Rattle.st_key.specs.Key.{rank}
use Rattle.st_index.specs.inner.Index.{Holds}
use Rattle.st_index.specs.Order.{InScanOrder}
use Rattle.st_index.specs.declared.row.Row.{Row}
use Rattle.st_index.specs.inner.Entries.{name_of, rank_of}
use Rattle.st_table.specs.inner.Once.{rows_with_name}
use Rattle.st_table.specs.inner.Found.{IsAt, IsFound}
use Rattle.st_table.proofs.Replacing.{elsewhere, holds, none_absent, put_away, put_new, put_same}
use Rattle.st_table.proofs.table.put_at.Goals as goal

pub insert-requires-clause-absent : goal.insert-requires-clause-absent
insert-requires-clause-absent g c =
    let period = g.I.RowIndex.period_of c.args.index.now in
    let rows = g.I.RowIndex.content c.args.index.now in
    let row : Row g.row.I-Alloc.Denot = g.I.Row.AsRow.value c.args.row in
    let none : rows_with_name (name_of row) rows ≡ [] = subst (λ b. IsFound period b (name_of row) rows) c.in_default.is c.requires.found in
    none_absent period (rank_of period row) (name_of row) rows none

pub returns-in_default-clause-rows : goal.returns-in_default-clause-rows
returns-in_default-clause-rows g c =
    let period = g.I.RowIndex.period_of c.args.index.now in
    let rows = g.I.RowIndex.content c.args.index.now in
    let new = g.I.RowIndex.content c.insert.new.self in
    let row : Row g.row.I-Alloc.Denot = g.I.Row.AsRow.value c.args.row in
    let none : rows_with_name (name_of row) rows ≡ [] = subst (λ b. IsFound period b (name_of row) rows) c.in_default.is c.requires.found in
    put_new period row rows new c.insert.ensures.adds (subst (λ p. InScanOrder p new) c.insert.ensures.period c.insert.ensures.lawful.in_order) none

pub replace-requires : goal.replace-requires
replace-requires g c =
    let period = g.I.RowIndex.period_of c.args.index.now in
    let rows = g.I.RowIndex.content c.args.index.now in
    let row : Row g.row.I-Alloc.Denot = g.I.Row.AsRow.value c.args.row in
    let at : IsAt period (rank c.in-Some.old) (name_of row) rows = subst (λ b. IsFound period b (name_of row) rows) c.in-Some.is c.requires.found in
    let equal : rank c.in-Some.old ≡ rank_of period row =
    exact_unsigned (rank c.in-Some.old) (rank c.key-key.result) (sym c.compare.ensures ∙ c.in-Equal.is)
    ∙ (c.key-key.ensures.value ∙ ap (λ p. rank_of p c.as_row.result.now) c.period.ensures.value
    ∙ ap (λ (r : Row g.row.I-Alloc.Denot). rank_of period r) c.as_row.ensures) in
    subst (λ k. Holds period k (name_of row) rows) equal (holds period (rank c.in-Some.old) (name_of row) rows at)

pub insert-requires-in_default-compare : goal.insert-requires-in_default-compare
insert-requires-in_default-compare g c =
    let period = g.I.RowIndex.period_of c.args.index.now in
    let rows = g.I.RowIndex.content c.args.index.now in
    let row : Row g.row.I-Alloc.Denot = g.I.Row.AsRow.value c.args.row in
    let at : IsAt period (rank c.in-Some.old) (name_of row) rows = subst (λ b. IsFound period b (name_of row) rows) c.in-Some.is c.requires.found in
    let key : rank c.key-key.result ≡ rank_of period row =
    (c.key-key.ensures.value ∙ ap (λ p. rank_of p c.as_row.result.now) c.period.ensures.value
    ∙ ap (λ (r : Row g.row.I-Alloc.Denot). rank_of period r) c.as_row.ensures) in
    let apart : rank_of period row ≡ rank c.in-Some.old → ⊥ =
    λ e. c.in_default-compare.not-Equal (c.compare.ensures ∙ ap (λ n. nat_cmp n (rank c.key-key.result)) (sym e ∙ sym key) ∙ tied_itself nat_cmp_total (rank c.key-key.result)) in
    record {
      room = c.requires.room;
      absent = elsewhere period (rank c.in-Some.old) (rank_of period row) (name_of row) rows at apart;
    }

pub returns-in-Equal-clause-rows : goal.returns-in-Equal-clause-rows
returns-in-Equal-clause-rows g c =
    let period = g.I.RowIndex.period_of c.args.index.now in
    let rows = g.I.RowIndex.content c.args.index.now in
    let new = g.I.RowIndex.content c.replace.new.self in
    let row : Row g.row.I-Alloc.Denot = g.I.Row.AsRow.value c.args.row in
    let at : IsAt period (rank c.in-Some.old) (name_of row) rows = subst (λ b. IsFound period b (name_of row) rows) c.in-Some.is c.requires.found in
    put_same period (rank c.in-Some.old) row c.replace.result rows new c.replace.ensures.swaps
    (subst (λ p. InScanOrder p new) c.replace.ensures.period c.replace.ensures.lawful.in_order) at
    c.replace.ensures.named

pub returns-in_default-compare : goal.returns-in_default-compare
returns-in_default-compare g c =
    let period = g.I.RowIndex.period_of c.args.index.now in
    let rows = g.I.RowIndex.content c.args.index.now in
    let mid = g.I.RowIndex.content c.insert-in_default-compare.new.self in
    let new = g.I.RowIndex.content c.remove.new.self in
    let row : Row g.row.I-Alloc.Denot = g.I.Row.AsRow.value c.args.row in
    let at : IsAt period (rank c.in-Some.old) (name_of row) rows = subst (λ b. IsFound period b (name_of row) rows) c.in-Some.is c.requires.found in
    let key : rank c.key-key.result ≡ rank_of period row =
    (c.key-key.ensures.value ∙ ap (λ p. rank_of p c.as_row.result.now) c.period.ensures.value
    ∙ ap (λ (r : Row g.row.I-Alloc.Denot). rank_of period r) c.as_row.ensures) in
    let apart : rank_of period row ≡ rank c.in-Some.old → ⊥ =
    λ e. c.in_default-compare.not-Equal (c.compare.ensures ∙ ap (λ n. nat_cmp n (rank c.key-key.result)) (sym e ∙ sym key) ∙ tied_itself nat_cmp_total (rank c.key-key.result)) in
    let id = c.as_str.ensures.value ∙ c.of-name.ensures.id in
    let label = c.as_str-in_default-compare.ensures.value ∙ c.of-name.ensures.label in
    let own = ap (λ (r : Row g.row.I-Alloc.Denot). name_of r) c.as_row-in_default-compare.ensures in
    let name : record { id = c.as_str.result.now; label = c.as_str-in_default-compare.result.now } ≡ name_of row = (λ i. record { id = id i; label = label i }) ∙ own in
    record {
      rows = put_away period (g.I.RowIndex.period_of c.insert-in_default-compare.new.self) (rank c.in-Some.old)
          (record { id = c.as_str.result.now; label = c.as_str-in_default-compare.result.now }) row rows mid new c.remove.result
          c.insert-in_default-compare.ensures.period name c.insert-in_default-compare.ensures.adds c.insert-in_default-compare.ensures.lawful.in_order at apart
          c.remove.ensures.some c.remove.ensures.placed c.remove.ensures.named c.remove.ensures.absent;
      period = c.remove.ensures.period ∙ c.insert-in_default-compare.ensures.period;
    }
