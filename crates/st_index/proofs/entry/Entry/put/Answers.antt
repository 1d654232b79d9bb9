use Rattle.std.proofs.Common.{arith, ◌≡◌, [], sym, refl, ap, ◌∙◌}
use Rattle.std.proofs.lemmas.Bool.{eqb-true, eqb-false}
use Rattle.std.proofs.lemmas.List.{nil_from_length}
use Rattle.std.specs.List.{insert}
use Rattle.st_index.specs.inner.Entries.{EntryValue}
use Rattle.st_index.proofs.Putting.{adds_insert, names_put, names_held}
use Rattle.st_index.proofs.entry.Entry.put.Goals as goal
use Rattle.st_index.specs.declared.row.Row.{Row}
use Rattle.st_index.proofs.entry.Entry.put.Goals.{in-Ok, in-Err}

pub returns-clause-added : goal.returns-clause-added
returns-clause-added g c =
    rw c.insert.ensures.rows (adds_insert c.args.self.now.rows c.args.row c.match-find.place)

pub returns-clause-named : goal.returns-clause-named
returns-clause-named g c = λ p named absent placed.
    let is : c.insert.new.self.rows ≡ insert c.args.self.now.rows c.match-find.place c.args.row = c.insert.ensures.rows in
    let id : c.as_str.result.now ≡ c.args.row.id = c.as_str.ensures.value in
    let label : c.text.result.now ≡ c.args.row.label = c.text.ensures.value in
    elim c.match-find.branch [
      | in-Ok w ↦
          let same = λ (d : Row g.row.A.Denot). rw (id, label) at (w.in-Ok.ensures.place d) in
          absurd (names_held p c.args.self.now.rows c.args.row w.in-Ok.place w.in-Ok.ensures.bound same absent placed)
      | in-Err w ↦
          let found = rw (id, label) at w.in-Err.ensures.place in
          rw (is, w.place-is) (names_put c.args.self.now.rows c.args.row w.in-Err.place found named)
    ]

pub insert-requires-clause-index : goal.insert-requires-clause-index
insert-requires-clause-index g c =
    elim c.match-find.branch [
      | in-Ok w ↦
          let bound = w.in-Ok.ensures.bound in
          omega (arith, w.place-is, bound)
      | in-Err w ↦
          let bound = w.in-Err.ensures.bound in
          omega (arith, w.place-is, bound)
    ]

pub insert-requires-clause-some : goal.insert-requires-clause-some
insert-requires-clause-some g c =
    let some = eqb-false _ _ (sym c.is_empty.ensures ∙ c.if-is_empty.false) in
    omega (arith, some)

pub insert-requires-clause-room : goal.insert-requires-clause-room
insert-requires-clause-room g c = c.requires.room (insert-requires-clause-some g c)

pub insert-requires-clause-empty : goal.insert-requires-clause-empty
insert-requires-clause-empty g c = c.requires.empty

pub returns-then-is_empty-clause-added : goal.returns-then-is_empty-clause-added
returns-then-is_empty-clause-added g c =
    let none : c.args.self.now.rows ≡ [] = nil_from_length c.args.self.now.rows (eqb-true _ _ (sym c.is_empty.ensures ∙ c.if-is_empty.true)) in
    rw (none, c.overwrite.ensures, c.new.ensures) (record { front = []; back = []; old_is = refl; new_is = refl })

pub returns-then-is_empty-clause-at : goal.returns-then-is_empty-clause-at
returns-then-is_empty-clause-at g c = ap (λ (v : EntryValue g.row.A.Denot). v.at) (c.overwrite.ensures ∙ c.new.ensures) ∙ sym c.requires.key
