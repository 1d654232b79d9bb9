use Rattle.std.proofs.Common.{◌≡◌, [], sym, ap, ◌∙◌, subst}
use Rattle.st_index.specs.inner.Entries.{Name}
use Rattle.st_table.specs.inner.Places.{IsTied, name_hash}
use Rattle.st_table.specs.Table.{is_named, without_named}
use Rattle.st_table.specs.inner.Once.{HasEachOnce, rows_with_name}
use Rattle.st_table.proofs.Naming.{none_fails}
use Rattle.st_table.proofs.Tying.{once_without, tied_delete}
use Rattle.st_table.proofs.table.Table.delete.Goals as goal

pub take_out-requires-clause-hash : goal.take_out-requires-clause-hash
take_out-requires-clause-hash g c = c.name_hash-hash.ensures.value ∙ ap (λ s. name_hash s c.args.id.now c.args.label.now) c.seed.ensures

pub invariant_of-self : goal.invariant_of-self
invariant_of-self g c =
    let seed = c.self.inside.places.seed in
    let numbers = c.self.inside.places.numbers in
    let rows = g.I.RowIndex.content c.self.inside.index in
    let new = g.I.RowIndex.content c.take_out.new.index in
    let name : Name = record { id = c.args.id.now; label = c.args.label.now } in
    let none : rows_with_name name rows ≡ [] = c.in_default.ensures.found in
    let same : new ≡ rows = c.in_default.ensures.rows ∙ none_fails (is_named name.id name.label) rows none in (
      subst (λ p. IsTied seed p numbers new) (sym c.in_default.ensures.period) (subst (λ xs. IsTied seed (g.I.RowIndex.period_of c.self.inside.index) numbers xs) (sym same) c.self.invariant.0),
      subst (λ xs. HasEachOnce xs) (sym same) c.self.invariant.1,
    )

pub returns-in_default : goal.returns-in_default
returns-in_default g c =
    let is = c.in_default.ensures.rows in
    let same_period = c.in_default.ensures.period in
    rw (← c.self.view_is) (λ i. record { period = same_period i; rows = is i })

pub invariant_of-self-2 : goal.invariant_of-self-2
invariant_of-self-2 g c =
    let seed = c.self.inside.places.seed in
    let period = g.I.RowIndex.period_of c.self.inside.index in
    let rows = g.I.RowIndex.content c.self.inside.index in
    let fewer = c.delete.new.self.numbers in
    let new = g.I.RowIndex.content c.take_out.new.index in
    let name : Name = record { id = c.args.id.now; label = c.args.label.now } in
    let hash : c.name_hash-hash.result ≡ name_hash seed name.id name.label = c.name_hash-hash.ensures.value ∙ ap (λ s. name_hash s name.id name.label) c.seed.ensures in
    let is : new ≡ without_named name.id name.label rows = c.in-Some.ensures.rows in
    let tied : IsTied seed period fewer new =
    tied_delete seed period c.name_hash-hash.result c.self.inside.places.numbers fewer c.in-Some.stand.key name rows new hash is
    c.in-Some.ensures.found c.delete.ensures.numbers c.self.invariant.0 in (
      subst (λ s. IsTied s (g.I.RowIndex.period_of c.take_out.new.index) fewer new) (sym c.delete.ensures.seed)
          (subst (λ p. IsTied seed p fewer new) (sym c.in-Some.ensures.period) tied),
      subst (λ xs. HasEachOnce xs) (sym is) (once_without period name.id name.label rows c.self.invariant.1),
    )

pub returns : goal.returns
returns g c =
    let is = c.in-Some.ensures.rows in
    let same_period = c.in-Some.ensures.period in
    rw (← c.self.view_is) (λ i. record { period = same_period i; rows = is i })
