use Rattle.std.proofs.Common.{◌≡◌, ◌+◌, ◌<◌, ◌≤◌, length, arith, rules, vec_len, vec_capacity}
use Rattle.std.specs.List.{All}
use Rattle.st_key.specs.Key.{rank}
use Rattle.st_index.specs.inner.Entries.{EntryValue, key_end, rows_of}
use Rattle.st_index.proofs.list_index.ListIndexRowIndex.prepare.Goals as goal

pub returns : goal.returns
returns g c =
    let p = c.self.inside.period in
    let es = c.self.inside.entries.items in
    let len : c.self.inside.len ≡ length (rows_of es) = c.self.invariant.1 in
    let full = c.if-self.false in
    let held : All (λ (e : EntryValue g.row.A.Denot). e.at ≡ rank c.key.result → length e.rows ≡ c.count_at-held.result) es =
    rw c.deref.ensures.value at (c.count_at-held.ensures.value p 0 (key_end p) (rw c.deref.ensures.value c.self.invariant.0)) in
    let enough : All (λ (e : EntryValue g.row.A.Denot). e.at ≡ rank c.key.result → 0 < length e.rows → length e.rows < vec_capacity c.in_ok-rows.rows) es =
    λ k d l at some. let n = held k d l at in let room = c.in_ok-rows.ensures.room (omega (arith, n, some)) in omega (arith, n, room) in
    let none : All (λ (e : EntryValue g.row.A.Denot). e.at ≡ rank c.key.result → ⊥) es → vec_capacity c.in_ok-rows.rows ≡ 0 =
    λ no. c.in_ok-rows.ensures.no_room (c.count_at-held.ensures.none (rw (← c.deref.ensures.value) at no)) in
    let count : length es ≡ vec_len c.self.inside.entries = search rules in
    let wide : c.len.result + 1 ≤ vec_capacity c.in_ok-entries.entries = c.in_ok-entries.ensures.capacity in
    rw (← c.self.view_is) (record {
      no_entries = c.in_ok-entries.ensures.items;
      room = omega (arith, count, wide, c.len.ensures);
      no_rows = c.in_ok-rows.ensures.empty;
      rows_room = rw (← c.key.ensures.value) enough;
      no_row_room = rw (← c.key.ensures.value) none;
      count = let bound = c.self.invariant.2 in omega (arith, len, bound, full);
    })
