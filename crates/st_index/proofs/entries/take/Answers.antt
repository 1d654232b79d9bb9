use Rattle.std.proofs.Common.{◌≡◌, [], length, set, arith, refl, subst, sym, ap, ◌∙◌}
use Rattle.std.proofs.lemmas.List.{nil_from_length, set-get_or}
use Rattle.std.proofs.lemmas.Bool.{eqb-true, eqb-false}
use Rattle.std.specs.List.{remove}
use Rattle.st_key.specs.Key.{rank}
use Rattle.st_index.specs.inner.Entries.{EntryValue, EntriesRise, rows_of}
use Rattle.st_index.specs.inner.Index.{IsAbsent}
use Rattle.st_index.proofs.Names.{nat_equal}
use Rattle.st_index.proofs.Taking.{missing_absent, absent_around, taken_adds, emptied, emptied_rows, emptied_rising, changed_rising, taken_entry, taken_placed, around}
use Rattle.st_index.proofs.entries.take.Goals as goal
use Rattle.st_index.proofs.entries.take.Goals.{then-is_empty, else-is_empty}

pub returns-in_default-clause-absent : goal.returns-in_default-clause-absent
returns-in_default-clause-absent g c = λ period lo hi h.
    missing_absent period _ _ c.args.entries.now.items c.in_default.field-0 lo hi h (rw c.deref.ensures.value at c.in_default.ensures.place)

pub returns-in_err-row-clause-absent : goal.returns-in_err-row-clause-absent
returns-in_err-row-clause-absent g c =
    rw c.from_residual.ensures (λ period lo hi h.
    let bound = rw c.deref.ensures.value at c.in-Ok.ensures.bound in
    let same = rw c.deref.ensures.value at (c.in-Ok.ensures.place c.index_mut-entry.result.now) in
    let e = c.index_mut-entry.result.now in
    let at : e.at ≡ rank c.args.key = ap (λ (f : EntryValue g.row.A.Denot). f.at) c.index_mut-entry.ensures.value ∙ nat_equal _ _ same in
    let a = around period c.args.entries.now.items c.in-Ok.i e e bound c.index_mut-entry.ensures.value lo hi h in
    subst (λ n. IsAbsent period n (record { id = c.args.id.now; label = c.args.label.now }) (rows_of c.args.entries.now.items)) at
    (absent_around period c.args.entries.now.items c.in-Ok.i e e bound c.index_mut-entry.ensures.value lo hi _ h (c.in_err-row.ensures.absent a.entry.named)))

pub returns-clause-some : goal.returns-clause-some
returns-clause-some g c =
    let bound = rw c.deref.ensures.value at c.in-Ok.ensures.bound in
    let es = c.args.entries.now.items in
    let e = c.index_mut-entry.result.now in
    let f = c.take.new.self in
    let adds = taken_adds es c.in-Ok.i e f bound c.index_mut-entry.ensures.value c.in_ok-row.row c.in_ok-row.ensures.some.0 in
    let named = c.in_ok-row.ensures.some.1 in
    elim c.if-is_empty.branch [
      | then-is_empty w ↦
          let none : f.rows ≡ [] = nil_from_length f.rows (eqb-true _ _ (sym c.is_empty.ensures ∙ w.if-is_empty.true)) in
          let is : c.if-is_empty.entries.items ≡ remove es c.in-Ok.i = ap (λ v. v.items) w.entries-is ∙ w.remove.ensures.items ∙ emptied es c.in-Ok.i e f bound c.index_mut-entry.ensures.value in
          rw (is, emptied_rows es c.in-Ok.i e f bound c.index_mut-entry.ensures.value none) (adds, named)
      | else-is_empty w ↦ rw w.entries-is (adds, named)
    ]

pub returns-clause-placed : goal.returns-clause-placed
returns-clause-placed g c = λ period lo hi h.
    let bound = rw c.deref.ensures.value at c.in-Ok.ensures.bound in
    let same = rw c.deref.ensures.value at (c.in-Ok.ensures.place c.index_mut-entry.result.now) in
    let e = c.index_mut-entry.result.now in
    let at : e.at ≡ rank c.args.key = ap (λ (f : EntryValue g.row.A.Denot). f.at) c.index_mut-entry.ensures.value ∙ nat_equal _ _ same in
    let a = around period c.args.entries.now.items c.in-Ok.i e e bound c.index_mut-entry.ensures.value lo hi h in
    taken_placed period e c.take.new.self.rows c.in_ok-row.row c.in_ok-row.ensures.some.0 a.entry ∙ at

pub returns-clause-rising : goal.returns-clause-rising
returns-clause-rising g c = λ period lo hi h.
    let bound = rw c.deref.ensures.value at c.in-Ok.ensures.bound in
    let es = c.args.entries.now.items in
    let e = c.index_mut-entry.result.now in
    let f = c.take.new.self in
    elim c.if-is_empty.branch [
      | then-is_empty w ↦
          let is : c.if-is_empty.entries.items ≡ remove es c.in-Ok.i = ap (λ v. v.items) w.entries-is ∙ w.remove.ensures.items ∙ emptied es c.in-Ok.i e f bound c.index_mut-entry.ensures.value in
          rw is (emptied_rising period es c.in-Ok.i e f bound c.index_mut-entry.ensures.value lo hi h)
      | else-is_empty w ↦
          let some : f.rows ≡ [] → ⊥ = λ none. let n = eqb-false _ _ (sym c.is_empty.ensures ∙ w.if-is_empty.false) in n (ap length none) in
          rw w.entries-is
          (changed_rising period es c.in-Ok.i e f bound c.index_mut-entry.ensures.value lo hi c.in_ok-row.ensures.at
          (taken_entry period e f c.in_ok-row.row c.in_ok-row.ensures.some.0 c.in_ok-row.ensures.at some c.in_ok-row.ensures.named) h)
    ]

pub returns-in_default-clause-rising : goal.returns-in_default-clause-rising
returns-in_default-clause-rising g c = λ period lo hi h. h

pub returns-in_default-clause-shorter : goal.returns-in_default-clause-shorter
returns-in_default-clause-shorter g c = omega arith

pub returns-in_default-clause-at_most_one : goal.returns-in_default-clause-at_most_one
returns-in_default-clause-at_most_one g c = omega arith

pub returns-in_err-row-clause-some : goal.returns-in_err-row-clause-some
returns-in_err-row-clause-some g c = rw c.from_residual.ensures tt

pub returns-in_err-row-clause-placed : goal.returns-in_err-row-clause-placed
returns-in_err-row-clause-placed g c = rw c.from_residual.ensures tt

same : (g : _) (c : goal.After-from_residual g) → set c.args.entries.now.items c.in-Ok.i c.take.new.self ≡ c.args.entries.now.items
same g c =
    let es = c.args.entries.now.items in
    ap (λ e. set es c.in-Ok.i e) (c.in_err-row.ensures.none ∙ c.index_mut-entry.ensures.value) ∙ set-get_or es c.in-Ok.i c.index_mut-entry.result.now

pub returns-in_err-row-clause-none : goal.returns-in_err-row-clause-none
returns-in_err-row-clause-none g c = rw c.from_residual.ensures (same g c)

pub returns-in_err-row-clause-rising : goal.returns-in_err-row-clause-rising
returns-in_err-row-clause-rising g c = λ period lo hi h. subst (λ es. EntriesRise period lo hi es) (sym (same g c)) h

pub returns-in_err-row-clause-shorter : goal.returns-in_err-row-clause-shorter
returns-in_err-row-clause-shorter g c = omega arith

pub returns-in_err-row-clause-at_most_one : goal.returns-in_err-row-clause-at_most_one
returns-in_err-row-clause-at_most_one g c = omega arith

pub returns-in_err-row-clause-capacity : goal.returns-in_err-row-clause-capacity
returns-in_err-row-clause-capacity g c = refl

pub returns-clause-shorter : goal.returns-clause-shorter
returns-clause-shorter g c = elim c.if-is_empty.branch [
  | then-is_empty w ↦ rw w.entries-is (omega (arith, w.remove.ensures.len))
  | else-is_empty w ↦ rw w.entries-is (omega arith)
]

pub returns-clause-at_most_one : goal.returns-clause-at_most_one
returns-clause-at_most_one g c = elim c.if-is_empty.branch [
  | then-is_empty w ↦ rw w.entries-is (omega (arith, w.remove.ensures.len))
  | else-is_empty w ↦ rw w.entries-is (omega arith)
]

pub returns-clause-capacity : goal.returns-clause-capacity
returns-clause-capacity g c = elim c.if-is_empty.branch [
  | then-is_empty w ↦ rw w.entries-is w.remove.ensures.capacity
  | else-is_empty w ↦ rw w.entries-is refl
]

pub returns-clause-none : goal.returns-clause-none
returns-clause-none g c = tt

pub returns-clause-absent : goal.returns-clause-absent
returns-clause-absent g c = tt

pub returns-clause-change : goal.returns-clause-change
returns-clause-change g c =
    let bound = rw c.deref.ensures.value at c.in-Ok.ensures.bound in
    let es = c.args.entries.now.items in
    let e = c.index_mut-entry.result.now in
    let f = c.take.new.self in
    elim c.if-is_empty.branch [
      | then-is_empty w ↦
          let is : c.if-is_empty.entries.items ≡ remove es c.in-Ok.i = ap (λ v. v.items) w.entries-is ∙ w.remove.ensures.items ∙ emptied es c.in-Ok.i e f bound c.index_mut-entry.ensures.value in
          rw w.change-is (bound, is)
      | else-is_empty w ↦ rw (w.change-is, w.entries-is) (bound, f, refl)
    ]
