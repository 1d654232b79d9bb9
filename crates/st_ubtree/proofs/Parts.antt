-- The rows of some pages of a tree, among those of all.
use Rattle.std.proofs.Common.{◌≡◌, ℕ, ◌+◌, ◌<◌, ◌≤◌, List, ◌++◌, length, sym, ap, subst, ◌∙◌, arith}
use Rattle.st_key.specs.declared.period.Period.{Period}
use Rattle.st_index.specs.inner.Entries.{key_end}
use Rattle.st_index.specs.inner.Index.{rows_between, rows_from}
use Rattle.st_index.proofs.Ranges.{between_middle, from_middle}
use Rattle.st_tally.specs.inner.Pages.{PageValue, rows_of_pages}
use Rattle.st_ubtree.specs.inner.Kids.{Spans}
use Rattle.st_ubtree.specs.inner.Growing.{IsPartIn}
use Rattle.st_ubtree.proofs.Inside.{rows_three}
use Rattle.st_ubtree.proofs.Shrinking.{page_rows_below, page_rows_from}
use Rattle.st_ubtree.proofs.Spanning.{spans_bounds}

module _ {A : Type 0} (period : Period) (key end first last : ℕ) (pages part : List (PageValue A)) (h : IsPartIn key pages end first last part)
    (s : Spans period 0 (key_end period) pages) (e : end + 1 ≡ key_end period) where
  pub part_spans : Spans period 0 (end + 1) pages
  part_spans = subst (λ n. Spans period 0 n pages) (sym e) s

  pub part_from : first ≤ key
  part_from = h.from period 0 part_spans (omega arith)

  pub part_to : key < key_end period → key ≤ last
  part_to below = h.to period 0 part_spans (omega (arith, below, e))

  pub part_within : last < key_end period
  part_within = omega (arith, spans_bounds period (last + 1) (end + 1) h.after (h.high period 0 part_spans), e)

  three : rows_of_pages pages ≡ rows_of_pages h.before ++ (rows_of_pages part ++ rows_of_pages h.after)
  three = ap rows_of_pages h.is ∙ rows_three h.before part h.after

  -- they are those whose keys are from the first to the last
  pub part_rows : rows_between period first last (rows_of_pages pages) ≡ rows_of_pages part
  part_rows =
      let low = page_rows_below period 0 first h.before (h.low period 0 part_spans) in
      let from = page_rows_from period first (last + 1) part (h.inside period 0 part_spans) in
      let to = page_rows_below period first (last + 1) part (h.inside period 0 part_spans) in
      let high = page_rows_from period (last + 1) (end + 1) h.after (h.high period 0 part_spans) in
      ap (rows_between period first last) three
      ∙ between_middle period first last (rows_of_pages h.before) (rows_of_pages part) (rows_of_pages h.after)
      low from (λ k d l. omega (arith, to k d l)) (λ k d l. omega (arith, high k d l))

  -- no more than stand at or after a key that is not after the first
  pub part_few : (from : ℕ) → from ≤ first → length (rows_of_pages part) ≤ length (rows_from period from (rows_of_pages pages))
  part_few from l =
      let low = page_rows_from period first (last + 1) part (h.inside period 0 part_spans) in
      subst (λ rs. length (rows_of_pages part) ≤ length (rows_from period from rs)) (sym three)
      (from_middle period from (rows_of_pages h.before) (rows_of_pages part) (rows_of_pages h.after) (λ k d m. omega (arith, low k d m, l)))
