-- Positions of a walk, and the steps from one to another.
use Rattle.std.proofs.Common.{◌≡◌, ◌++◌, ◌+◌, ◌∷◌, ◌<◌, ◌^◌, ℕ, List, [], length, filter, Some, sym, ap, subst, ◌∙◌}
use Rattle.st_key.specs.declared.key.Key.{Key}
use Rattle.st_key.specs.declared.period.Period.{Period}
use Rattle.st_key.specs.Key.{rank}
use Rattle.st_box.specs.declared.query.Query.{Query}
use Rattle.st_box.specs.Query.{HasKey}
use Rattle.st_index.specs.declared.row.Row.{Row}
use Rattle.st_index.specs.inner.Index.{Follow, Region}
use Rattle.st_index.specs.inner.Views.{viewed}
use Rattle.st_index.specs.inner.Entries.{EntryValue, key_end, rank_of, rows_of}
use Rattle.st_scan.specs.declared.position.Position.{Position}
use Rattle.st_scan.specs.inner.Regions.{Count}
use Rattle.st_scan.specs.inner.Rows.{has_row, has_row_from}
use Rattle.st_scan.specs.inner.Walks.{MeetsUpTo}
use Rattle.st_scan.specs.inner.Steps.{IsAt, IsNextEntry, IsOver, IsPosition, Opens, left_at, left_of, rank_or_end}
use Rattle.st_scan.proofs.Steps.{enter, enter_left, give, give_opened, over_left, over_count, opened_left, opened_at, opened_fits, opened_on}

module _ {A : Type 0} (w : Period) (q : Query) (content : List (Row A)) (regions : List Region) (p : Position A) where
  pub spent_left : viewed p.rows ≡ [] → left_of w q content p ≡ left_at w q content [] p.entries.now (rank_or_end w p.next)
  spent_left rows = ap (λ xs. left_at w q content xs p.entries.now (rank_or_end w p.next)) rows

  pub spent_at : viewed p.rows ≡ [] → IsPosition w q regions p → IsAt w q regions (rank p.start) [] p.entries.now (rank_or_end w p.next) p.opened
  spent_at rows at = subst (λ xs. IsAt w q regions (rank p.start) xs p.entries.now (rank_or_end w p.next) p.opened) rows at

  pub over : IsPosition w q regions p → viewed p.rows ≡ [] → filter (has_row q) (rows_of p.entries.now) ≡ [] → ((k : Key) → HasKey q w k → rank k < rank_or_end w p.next) → IsOver w q content regions p
  over at rows entries none =
      let next = rank_or_end w p.next in
      let more = filter (has_row_from w q next) content in
      record {
        left = spent_left rows ∙ ap (λ xs. xs ++ more) entries ∙ over_left w q content next none;
        opened = over_count w q regions (rank p.start) (viewed p.rows) p.entries.now next p.opened at none;
      }

  module _ (from : Key) (entries : List (EntryValue A)) (next : ℕ) (is : p.next ≡ Some from) (o : Opens w q content regions (rank from) entries next) (follow : Follow 0 (key_end w) regions)
      (at : IsPosition w q regions p) (rows : viewed p.rows ≡ []) where
    at_from : IsAt w q regions (rank p.start) [] p.entries.now (rank from) p.opened
    at_from = subst (λ n. IsAt w q regions (rank p.start) [] p.entries.now (rank_or_end w n) p.opened) is (spent_at rows at)

    pub step_at : IsAt {A = A} w q regions (rank p.start) [] entries next (p.opened + 1)
    step_at = opened_at w q content regions (rank p.start) (rank from) next p.opened p.entries.now entries o follow at_from

    pub step_fits : length regions < 2 ^ 64 → p.opened + 1 < 2 ^ 64
    step_fits = opened_fits w q content regions (rank p.start) (rank from) next p.opened p.entries.now entries o follow at_from

    pub step_on : rank_or_end w p.next < next
    step_on = subst (λ n. rank_or_end w n < next) (sym is) (opened_on w q content regions (rank p.start) (rank from) next p.opened p.entries.now entries o follow at_from)

    pub step_left : filter (has_row q) (rows_of p.entries.now) ≡ [] → left_at w q content [] entries next ≡ left_of w q content p
    step_left spent = sym (
        spent_left rows
        ∙ ap (λ xs. xs ++ filter (has_row_from w q (rank_or_end w p.next)) content) spent
        ∙ ap (λ n. filter (has_row_from w q (rank_or_end w n)) content) is
        ∙ opened_left w q content regions (rank from) next entries o
        )

  module _ (rows : List (Row A)) (rest : List (EntryValue A)) (n : IsNextEntry q p.entries.now rows rest) (at : IsPosition w q regions p) (spent : viewed p.rows ≡ []) where
    pub entered_at : IsAt w q regions (rank p.start) rows rest (rank_or_end w p.next) p.opened
    entered_at = enter w q regions (rank p.start) p.entries.now (rank_or_end w p.next) p.opened rows rest (spent_at spent at) n

    pub entered_left : left_at w q content rows rest (rank_or_end w p.next) ≡ left_of w q content p
    entered_left = enter_left w q content p.entries.now (rank_or_end w p.next) rows rest n ∙ sym (spent_left spent)

  module _ (row : Row A) (rest : List (Row A)) (at : IsPosition w q regions p) (is : viewed p.rows ≡ row ∷ rest) where
    begun : IsAt w q regions (rank p.start) (row ∷ rest) p.entries.now (rank_or_end w p.next) p.opened
    begun = subst (λ xs. IsAt w q regions (rank p.start) xs p.entries.now (rank_or_end w p.next) p.opened) is at

    pub given_at : IsAt w q regions (rank p.start) rest p.entries.now (rank_or_end w p.next) p.opened
    given_at = give w q regions (rank p.start) row rest p.entries.now (rank_or_end w p.next) p.opened begun

    pub given_opened : Count (MeetsUpTo w q (rank p.start) (rank_of w row)) regions p.opened
    given_opened = give_opened w q regions (rank p.start) row rest p.entries.now (rank_or_end w p.next) p.opened begun

    pub given_left : left_of w q content p ≡ row ∷ left_at w q content rest p.entries.now (rank_or_end w p.next)
    given_left = ap (λ xs. left_at w q content xs p.entries.now (rank_or_end w p.next)) is
