use Rattle.std.proofs.Common.{◌≡◌, sym, ap, ◌∙◌, subst}
use Rattle.st_index.specs.declared.row.Row.{Row}
use Rattle.st_index.specs.inner.Entries.{Name, name_of, rank_of}
use Rattle.st_table.specs.inner.Found.{IsFound}
use Rattle.st_table.specs.inner.Places.{IsTied, name_hash}
use Rattle.st_table.specs.Table.{with_row}
use Rattle.st_table.specs.inner.Once.{HasEachOnce}
use Rattle.st_table.proofs.Tying.{once_put, tied_put}
use Rattle.st_table.proofs.table.Table.put.Goals as goal

pub invariant_of-self-2 : goal.invariant_of-self-2
invariant_of-self-2 g c =
    let seed = c.self.inside.places.seed in
    let period = g.I.RowIndex.period_of c.self.inside.index in
    let rows = g.I.RowIndex.content c.self.inside.index in
    let more = c.put.new.self.numbers in
    let new = g.I.RowIndex.content c.put_at.new.index in
    let row : Row g.row.I-Alloc.Denot = g.I.Row.AsRow.value c.args.row in
    let own : c.as_row-own.result.now ≡ row = c.as_row-own.ensures in
    let id = c.as_str-id.ensures.value ∙ ap (λ (r : Row g.row.I-Alloc.Denot). r.id) own in
    let label = c.text-label.ensures.value ∙ ap (λ (r : Row g.row.I-Alloc.Denot). r.label) own in
    let name : record { id = c.as_str-id.result.now; label = c.text-label.result.now } ≡ name_of row = λ i. record { id = id i; label = label i } in
    let at = c.key-key.ensures.value ∙ ap (λ p. rank_of p c.as_row-own.result.now) c.period.ensures.value ∙ ap (λ (r : Row g.row.I-Alloc.Denot). rank_of period r) own in
    let hash : c.name_hash-hash.result ≡ name_hash seed row.id row.label =
    c.name_hash-hash.ensures.value ∙ ap (λ s. name_hash s c.as_str-id.result.now c.text-label.result.now) c.seed.ensures ∙ ap (λ (n : Name). name_hash seed n.id n.label) name in
    let is : new ≡ with_row period row rows = c.put_at.ensures.rows in
    let found = subst (λ n. IsFound period c.find-before.result n rows) name c.find-before.ensures.found in
    let tied : IsTied seed period more new =
    tied_put seed period c.name_hash-hash.result c.self.inside.places.numbers more c.find-before.result c.key-key.result row rows new
    c.period.ensures.lawful.in_order hash at is found c.in_ok-put.ensures.ok c.self.invariant.0 in (
      subst (λ s. IsTied s (g.I.RowIndex.period_of c.put_at.new.index) more new) (sym c.put.ensures.seed)
          (subst (λ p. IsTied seed p more new) (sym c.put_at.ensures.period) tied),
      subst (λ xs. HasEachOnce xs) (sym is) (once_put period row rows c.period.ensures.lawful.in_order c.self.invariant.1),
    )
