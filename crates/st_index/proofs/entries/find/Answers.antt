use Rattle.std.proofs.Common.{◌≡◌, ℕ, ◌<◌, ◌≤◌, sym, ap, true, false, ltb, ◌∙◌, arith}
use Rattle.st_key.specs.Key.{rank}
use Rattle.st_index.specs.inner.Entries.{EntryValue}
use Rattle.st_index.proofs.Searching.{all_less, inside, less_before, equal_there, greater_from}
use Rattle.st_index.proofs.entries.find.Goals as goal

at_most : (m n : ℕ) → m < n → m ≤ n
at_most m n lt = omega (arith, lt)

pub returns-in_default-clause-place : goal.returns-in_default-clause-place
returns-in_default-clause-place g c rises = (
  λ k d _ lt. all_less (λ (e : EntryValue g.row.A.Denot). e.at) (rank c.args.key) c.args.entries.now (sym c.first_from.ensures ∙ c.in_default.is) k
      d lt,
  λ k d le lt. absurd (omega (arith, le, lt)),
)

pub bounds-entries-place : goal.bounds-entries-place
bounds-entries-place g c = inside (λ (e : EntryValue g.row.A.Denot). e.at) (rank c.args.key) c.args.entries.now c.in-Some.place (sym c.first_from.ensures ∙ c.in-Some.is)

pub returns-then-is_before-clause-place : goal.returns-then-is_before-clause-place
returns-then-is_before-clause-place g c rises =
    let at = λ (e : EntryValue g.row.A.Denot). e.at in
    let found = sym c.first_from.ensures ∙ c.in-Some.is in
    let after : true ≡ ltb (rank c.args.key) (at c.index-entries-place.result) = c.if-is_before.ensures ∙ ap (λ n. ltb (rank c.args.key) n) c.key.ensures in (
      λ k d _ lt. less_before at (rank c.args.key) c.args.entries.now c.in-Some.place found k d lt,
      λ k d le lt. greater_from at (rank c.args.key) c.args.entries.now c.in-Some.place found c.index-entries-place.result c.index-entries-place.is after rises k d le lt,
    )

pub returns-else-is_before-clause-bound : goal.returns-else-is_before-clause-bound
returns-else-is_before-clause-bound g c = inside (λ (e : EntryValue g.row.A.Denot). e.at) (rank c.args.key) c.args.entries.now c.in-Some.place (sym c.first_from.ensures ∙ c.in-Some.is)

pub returns-else-is_before-clause-place : goal.returns-else-is_before-clause-place
returns-else-is_before-clause-place g c d =
    let at = λ (e : EntryValue g.row.A.Denot). e.at in
    let found = sym c.first_from.ensures ∙ c.in-Some.is in
    let not_after : false ≡ ltb (rank c.args.key) (at c.index-entries-place.result) = c.if-is_before.ensures ∙ ap (λ n. ltb (rank c.args.key) n) c.key.ensures in
    equal_there at (rank c.args.key) c.args.entries.now c.in-Some.place found c.index-entries-place.result c.index-entries-place.is d not_after

pub returns-then-is_before-clause-bound : goal.returns-then-is_before-clause-bound
returns-then-is_before-clause-bound g c = at_most _ _ (inside (λ (e : EntryValue g.row.A.Denot). e.at) (rank c.args.key) c.args.entries.now c.in-Some.place (sym c.first_from.ensures ∙ c.in-Some.is))

pub offset_bounds-entries-place : goal.offset_bounds-entries-place
offset_bounds-entries-place g c = at_most _ _ (inside (λ (e : EntryValue g.row.A.Denot). e.at) (rank c.args.key) c.args.entries.now c.in-Some.place (sym c.first_from.ensures ∙ c.in-Some.is))
