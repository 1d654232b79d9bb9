use Rattle.std.proofs.Common.{◌≡◌, ◌<◌, ◌^◌, ◌∙◌, Option, IfSome, IfNone, sym, refl, subst, arith}
use Rattle.st_key.specs.Key.{rank}
use Rattle.st_index.specs.declared.row.Row.{Row}
use Rattle.st_index.specs.inner.Index.{Adds, IsAbsent}
use Rattle.st_index.specs.inner.Entries.{Name, rank_of}
use Rattle.st_table.specs.inner.Places.{number_at, place_of}
use Rattle.st_table.specs.Table.{is_named}
use Rattle.st_table.proofs.Naming.{none_fails}
use Rattle.st_table.proofs.Standing.{found_at, is_key, later_all, later_next, none_left}
use Rattle.st_table.proofs.Tying.{taken, was_none, was_there}
use Rattle.st_table.proofs.table.take_out.Goals as goal

pub keys-init : goal.keys-init
keys-init g c = (
  omega arith,
  refl,
  refl,
  later_all c.args.places.now.seed (g.I.RowIndex.period_of c.args.index.now) c.args.places.now.numbers (g.I.RowIndex.content c.args.index.now) c.requires.tied
      (record { id = c.args.id.now; label = c.args.label.now }),
)

pub key_at-key-requires : goal.key_at-key-requires
key_at-key-requires g c =
    is_key c.args.places.now.seed (g.I.RowIndex.period_of c.args.index.now) c.args.places.now.numbers (g.I.RowIndex.content c.args.index.now) c.requires.tied
    c.args.hash c.in-Some.found c.in-Some.ensures.in_range c.in-Some.ensures.held

pub returns-then-is_some : goal.returns-then-is_some
returns-then-is_some g c =
    let R = Row g.row.I-Alloc.Denot in
    let name : Name = record { id = c.args.id.now; label = c.args.label.now } in
    let period = g.I.RowIndex.period_of c.args.index.now in
    let rows = g.I.RowIndex.content c.args.index.now in
    let new = g.I.RowIndex.content c.remove.new.self in
    let key = rank c.key_at-key.result in
    let out : Option R = c.remove.result in
    let gone : IfSome out (λ (r : R). Adds r new rows) = subst (λ xs. IfSome out (λ (r : R). Adds r new xs)) c.keys.invariant.2 c.remove.ensures.some in
    let placed : IfSome out (λ (r : R). rank_of period r ≡ key) = subst (λ p. IfSome out (λ (r : R). rank_of p r ≡ key)) c.keys.invariant.1 c.remove.ensures.placed in
    let absent : IfNone out (IsAbsent period key name rows) =
    subst (λ xs. IfNone out (IsAbsent period key name xs)) c.keys.invariant.2
    (subst (λ p. IfNone out (IsAbsent p key name (g.I.RowIndex.content c.keys.index))) c.keys.invariant.1 c.remove.ensures.absent) in
    let there = was_there period key name rows new out (sym c.is_some.ensures ∙ c.if-is_some.true) gone placed c.remove.ensures.named in
    let at = found_at c.args.places.now.seed period c.args.places.now.numbers rows c.requires.tied name c.requires.once key there in
    record {
      found = at;
      held = subst (λ n. 0 < number_at c.args.places.now.numbers (place_of c.args.hash n)) (sym c.key_at-key.ensures) c.in-Some.ensures.held;
      number = subst (λ n. c.in-Some.number ≡ number_at c.args.places.now.numbers (place_of c.args.hash n)) (sym c.key_at-key.ensures) c.in-Some.ensures.number;
      rows = taken period key name rows new out at gone c.remove.ensures.named absent;
      period = c.remove.ensures.period ∙ c.keys.invariant.1;
    }

pub keys-preserved : goal.keys-preserved
keys-preserved g c =
    let name : Name = record { id = c.args.id.now; label = c.args.label.now } in
    let period = g.I.RowIndex.period_of c.args.index.now in
    let rows = g.I.RowIndex.content c.args.index.now in
    let below : c.in-Some.found < 2 ^ 81 = c.in-Some.ensures.in_range in
    let none = sym c.is_some.ensures ∙ c.if-is_some.false in
    let gone = was_none (g.I.RowIndex.period_of c.args.index.now) c.remove.result none c.remove.ensures.absent in
    let same = was_none (g.I.RowIndex.period_of c.args.index.now) c.remove.result none c.remove.ensures.none in
    let absent = subst (λ n. IsAbsent period n name rows) c.key_at-key.ensures
    (subst (λ xs. IsAbsent period (rank c.key_at-key.result) name xs) c.keys.invariant.2
    (subst (λ p. IsAbsent p (rank c.key_at-key.result) name (g.I.RowIndex.content c.keys.index)) c.keys.invariant.1 gone)) in (
      omega (arith, below),
      c.remove.ensures.period ∙ c.keys.invariant.1,
      same ∙ c.keys.invariant.2,
      later_next c.args.places.now.seed period c.args.places.now.numbers rows c.requires.tied name
          c.args.hash c.keys.from c.in-Some.found c.requires.hash c.in-Some.ensures.first absent c.keys.invariant.3,
    )

pub returns : goal.returns
returns g c =
    let name : Name = record { id = c.args.id.now; label = c.args.label.now } in
    let rows = g.I.RowIndex.content c.args.index.now in
    let none = none_left c.args.places.now.seed (g.I.RowIndex.period_of c.args.index.now) c.args.places.now.numbers rows c.requires.tied name
    c.args.hash c.keys.from c.requires.hash c.in_default.ensures.none c.keys.invariant.3 in
    record {
      found = none;
      held = tt;
      number = tt;
      rows = c.keys.invariant.2 ∙ sym (none_fails (is_named name.id name.label) rows none);
      period = c.keys.invariant.1;
    }
