use Rattle.std.proofs.Common.{◌<◌, ◌^◌, sym, subst, arith}
use Rattle.st_key.specs.Key.{rank}
use Rattle.st_index.specs.inner.Index.{IsAbsent}
use Rattle.st_index.specs.inner.Entries.{Name, key_end}
use Rattle.st_table.proofs.Standing.{found_at, in_period, is_key, later_next, none_left}
use Rattle.st_table.proofs.lookup.find.Goals as goal

pub key_at-key-requires : goal.key_at-key-requires
key_at-key-requires g c =
    is_key c.args.places.now.seed (g.I.RowIndex.period_of c.args.index.now) c.args.places.now.numbers (g.I.RowIndex.content c.args.index.now) c.requires.tied
    c.args.hash c.in-Some.found c.in-Some.ensures.in_range c.in-Some.ensures.held

pub has_row-requires : goal.has_row-requires
has_row-requires g c =
    subst (λ n. n < key_end (g.I.RowIndex.period_of c.args.index.now)) (sym c.key_at-key.ensures)
    (in_period c.args.places.now.seed (g.I.RowIndex.period_of c.args.index.now) c.args.places.now.numbers (g.I.RowIndex.content c.args.index.now) c.requires.tied
    c.args.hash c.in-Some.found c.in-Some.ensures.in_range c.in-Some.ensures.held)

pub returns-then-has_row-clause-found : goal.returns-then-has_row-clause-found
returns-then-has_row-clause-found g c =
    let name : Name = record { id = c.args.id.now; label = c.args.label.now } in
    found_at c.args.places.now.seed (g.I.RowIndex.period_of c.args.index.now) c.args.places.now.numbers (g.I.RowIndex.content c.args.index.now) c.requires.tied name
    c.requires.once (rank c.key_at-key.result) (c.has_row.ensures.held c.if-has_row.true)

pub keys-preserved : goal.keys-preserved
keys-preserved g c =
    let name : Name = record { id = c.args.id.now; label = c.args.label.now } in
    let period = g.I.RowIndex.period_of c.args.index.now in
    let rows = g.I.RowIndex.content c.args.index.now in
    let below : c.in-Some.found < 2 ^ 81 = c.in-Some.ensures.in_range in
    let absent = subst (λ n. IsAbsent period n name rows) c.key_at-key.ensures (c.has_row.ensures.absent c.if-has_row.false) in (
      omega (arith, below),
      later_next c.args.places.now.seed period c.args.places.now.numbers rows c.requires.tied name
          c.args.hash c.keys.from c.in-Some.found c.requires.hash c.in-Some.ensures.first absent c.keys.invariant.1,
    )

pub returns-clause-found : goal.returns-clause-found
returns-clause-found g c =
    let name : Name = record { id = c.args.id.now; label = c.args.label.now } in
    none_left c.args.places.now.seed (g.I.RowIndex.period_of c.args.index.now) c.args.places.now.numbers (g.I.RowIndex.content c.args.index.now) c.requires.tied name
    c.args.hash c.keys.from c.requires.hash c.in_default.ensures.none c.keys.invariant.1
