use Rattle.std.proofs.Common.{◌≡◌, ◌<◌, length, subst, sym, ap, ◌∙◌}
use Rattle.st_index.specs.inner.Entries.{name_of, EntryValue, rows_of, rank_of}
use Rattle.std.specs.Prelude.{vec_capacity}
use Rattle.st_index.specs.inner.Index.{IsAbsent}
use Rattle.st_index.proofs.Names.{nat_equal}
use Rattle.st_index.proofs.Putting.{held_added, held_rising, missing_added, missing_rising}
use Rattle.st_index.proofs.Taking.{missing_key}
use Rattle.st_index.proofs.entries.put.Goals as goal

pub put-requires-clause-room : goal.put-requires-clause-room
put-requires-clause-room g c =
    let bound = rw c.deref.ensures.value at c.in-Ok.ensures.bound in
    let same = rw c.deref.ensures.value at (c.in-Ok.ensures.place c.index_mut-entry.result.now) in
    let at : c.index_mut-entry.result.now.at ≡ rank_of c.args.period c.args.row =
    ap (λ (e : EntryValue g.row.A.Denot). e.at) c.index_mut-entry.ensures.value ∙ nat_equal _ _ same ∙ c.key-key.ensures.value in
    let enough = c.requires.rows_room c.in-Ok.i c.index_mut-entry.result.now bound in
    subst (λ (e : EntryValue g.row.A.Denot). e.at ≡ rank_of c.args.period c.args.row → 0 < length e.rows → length e.rows < vec_capacity c.args.rows) (sym c.index_mut-entry.ensures.value) enough at

pub returns-in-Ok-clause-added : goal.returns-in-Ok-clause-added
returns-in-Ok-clause-added g c =
    held_added c.args.row c.args.entries.now.items c.in-Ok.i c.index_mut-entry.result.now c.put.new.self
    (rw c.deref.ensures.value at c.in-Ok.ensures.bound) c.index_mut-entry.ensures.value c.put.ensures.added

pub returns-in-Ok-clause-rising : goal.returns-in-Ok-clause-rising
returns-in-Ok-clause-rising g c = λ p lo hi key h a b absent.
    let same = rw c.deref.ensures.value at (c.in-Ok.ensures.place c.index_mut-entry.result.now) in
    let at : c.index_mut-entry.result.now.at ≡ rank_of p c.args.row = ap (λ (e : EntryValue g.row.A.Denot). e.at) c.index_mut-entry.ensures.value
    ∙ nat_equal _ _ same ∙ c.key-key.ensures.value ∙ key in
    held_rising p c.args.row c.args.entries.now.items c.in-Ok.i c.index_mut-entry.result.now c.put.new.self
    (rw c.deref.ensures.value at c.in-Ok.ensures.bound) c.index_mut-entry.ensures.value c.put.ensures.added
    c.put.ensures.at at (c.put.ensures.named p) lo hi h (subst (λ n. IsAbsent p n (name_of c.args.row) (rows_of c.args.entries.now.items)) key absent)

pub returns-in-Err-clause-added : goal.returns-in-Err-clause-added
returns-in-Err-clause-added g c =
    rw (c.put-in-Err.ensures.items, c.new.ensures) (missing_added c.args.row c.args.entries.now.items c.in-Err.i _)

pub put-requires-clause-key : goal.put-requires-clause-key
put-requires-clause-key g c =
    let same = rw c.deref.ensures.value at (c.in-Ok.ensures.place c.index_mut-entry.result.now) in
    ap (λ (e : EntryValue g.row.A.Denot). e.at) c.index_mut-entry.ensures.value ∙ nat_equal _ _ same ∙ c.key-key.ensures.value

pub returns-in-Err-clause-rising : goal.returns-in-Err-clause-rising
returns-in-Err-clause-rising g c = λ p lo hi key h a b absent.
    let found = rw (c.deref.ensures.value, c.key-key.ensures.value, key) at c.in-Err.ensures.place in
    rw (c.put-in-Err.ensures.items, c.new.ensures, key) (missing_rising p c.args.row c.args.entries.now.items c.in-Err.i lo hi found h (rw key at a) (rw key at b))

pub returns-in-Err-clause-new_key : goal.returns-in-Err-clause-new_key
returns-in-Err-clause-new_key g c =
    λ p lo hi h longer. missing_key p (rank_of c.args.period c.args.row) c.args.entries.now.items c.in-Err.i lo hi h
    (rw (c.deref.ensures.value, c.key-key.ensures.value) at c.in-Err.ensures.place)
