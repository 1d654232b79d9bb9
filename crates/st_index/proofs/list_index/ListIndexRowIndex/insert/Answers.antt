use Rattle.std.proofs.Common.{◌≡◌, ◌+◌, ◌<◌, ◌^◌, length, refl, subst, sym, ap, ◌∙◌, vec_len, arith, rules}
use Rattle.st_index.specs.inner.Entries.{name_of, key_end, rank_of, rows_of}
use Rattle.st_index.specs.inner.Index.{Adds, IsAbsent}
use Rattle.st_index.proofs.Listing.{adds_length, lawful}
use Rattle.st_index.proofs.Sorting.{rank_below}
use Rattle.st_index.proofs.list_index.ListIndexRowIndex.insert.Goals as goal

pub put-requires-clause-rows_room : goal.put-requires-clause-rows_room
put-requires-clause-rows_room g c =
    let is = c.take_over.ensures.items in
    rw is (rw (← c.self.view_is) at c.requires.room.rows_room)

pub invariant_of-self : goal.invariant_of-self
invariant_of-self g c =
    let p = c.self.inside.period in
    let is = c.take_over.ensures.items in
    let absent : IsAbsent p (rank_of p c.args.row) (name_of c.args.row) (rows_of c.take_over.new.list.items) =
    rw is (rw (← c.self.view_is) at c.requires.absent) in
    let rising = c.put.ensures.rising p 0 (key_end p) refl (rw is c.self.invariant.0) (omega arith) (rank_below p c.args.row) absent in
    let longer = adds_length c.args.row _ _ c.put.ensures.added in
    let n : c.self.inside.len + 1 < 2 ^ 64 = omega (arith, c.self.invariant.1, (rw (← c.self.view_is) at c.requires.room.count)) in
    (rising, ap (λ n. n + 1) (c.self.invariant.1 ∙ ap (λ es. length (rows_of es)) (sym is)) ∙ sym longer, n)

pub returns-clause-lawful : goal.returns-clause-lawful
returns-clause-lawful g c =
    let i = invariant_of-self g c in
    let n = i.2 in
    lawful c.self.inside.period c.put.new.entries.items i.0 (subst (λ k. k < 2 ^ 64) i.1 n)

pub put-requires-clause-empty : goal.put-requires-clause-empty
put-requires-clause-empty g c = c.requires.room.no_rows

pub returns-clause-adds : goal.returns-clause-adds
returns-clause-adds g c =
    let is = c.take_over.ensures.items ∙ ap (λ s. s.entries) c.self.view_is in
    subst (λ es. Adds c.args.row (rows_of es) (rows_of c.put.new.entries.items)) is c.put.ensures.added

pub returns-clause-period : goal.returns-clause-period
returns-clause-period g c = ap (λ s. s.period) c.self.view_is

pub take_over-requires-clause-empty : goal.take_over-requires-clause-empty
take_over-requires-clause-empty g c = c.requires.room.no_entries

pub take_over-requires-clause-room : goal.take_over-requires-clause-room
take_over-requires-clause-room g c = rw (← c.self.view_is) at c.requires.room.room

pub put-requires-clause-room : goal.put-requires-clause-room
put-requires-clause-room g c =
    let held : length c.take_over.new.list.items ≡ vec_len c.take_over.new.list = search rules in
    let is = ap length c.take_over.ensures.items in
    omega (arith, held, is, c.take_over.ensures.room)

pub overflow_add-self : goal.overflow_add-self
overflow_add-self g c = omega (arith, c.self.invariant.1, (rw (← c.self.view_is) at c.requires.room.count))
