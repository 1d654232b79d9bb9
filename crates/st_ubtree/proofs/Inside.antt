-- What changes under one child, seen from its parent.
use Rattle.std.proofs.Common.{◌≡◌, ℕ, ◌+◌, ◌<◌, max, List, ◌++◌, length, get_or, take, drop, sym, ap, subst, ◌∙◌, suc, true, false, not, ltb}
use Rattle.std.specs.List.{All}
use Rattle.std.specs.List.Sorted.{IsPartitionedBy, IsPartitionPoint}
use Rattle.st_index.specs.inner.Entries.{name_of, rank_of, rows_of}
use Rattle.st_index.specs.inner.Index.{Adds}
use Rattle.st_index.proofs.Climbing.{all_left, all_right}
use Rattle.st_index.proofs.Putting.{rows-append, adds_inside}
use Rattle.st_tally.specs.inner.Pages.{PageValue, NodeValue, entries_of_pages, rows_of_pages}
use Rattle.st_ubtree.specs.inner.Kids.{GrowsBy, IsKid, pages_of}
use Rattle.st_ubtree.proofs.Spanning.{found_kid, pages_split, spans_join, entries-append}
use Rattle.st_index.specs.declared.row.Row.{Row}

module _ {A : Type 0} where
  pub rows_join : (xs ys : List (PageValue A)) → rows_of_pages (xs ++ ys) ≡ rows_of_pages xs ++ rows_of_pages ys
  rows_join xs ys = ap rows_of (entries-append xs ys) ∙ rows-append (entries_of_pages xs) (entries_of_pages ys)

  pub rows_three : (xs ys zs : List (PageValue A)) → rows_of_pages (xs ++ (ys ++ zs)) ≡ rows_of_pages xs ++ (rows_of_pages ys ++ rows_of_pages zs)
  rows_three xs ys zs = rows_join xs (ys ++ zs) ∙ ap (λ t. rows_of_pages xs ++ t) (rows_join ys zs)

  pub kid_grows : (key : ℕ) (row : Row A) (below : ℕ) (kids : List (NodeValue A)) (i n : ℕ) (kid : NodeValue A) (new : List (PageValue A))
      → All (IsKid below) kids
      → (IsPartitionedBy (λ (v : NodeValue A). not (ltb key v.first)) kids
      → IsPartitionPoint (λ (v : NodeValue A). not (ltb key v.first) ≡ true) (λ (v : NodeValue A). not (ltb key v.first) ≡ false) kids n)
      → i + 1 ≡ max n 1 → i < length kids → kid ≡ get_or kids i kid → GrowsBy key row kid.pages new
      → GrowsBy key row (pages_of kids) (pages_of (take i kids) ++ (new ++ pages_of (drop (suc i) kids)))
  kid_grows key row below kids i n kid new each found is l read g =
      let front = pages_of (take i kids) in
      let back = pages_of (drop (suc i) kids) in
      let split = pages_split kids i kid l read in
      let old = ap rows_of_pages split ∙ rows_three front kid.pages back in
      record {
        adds = subst (λ t. Adds row t (rows_of_pages (front ++ (new ++ back)))) (sym old)
            (subst (λ t. Adds row (rows_of_pages front ++ (rows_of_pages kid.pages ++ rows_of_pages back)) t) (sym (rows_three front new back))
            (adds_inside row (rows_of_pages front) (rows_of_pages kid.pages) (rows_of_pages new) (rows_of_pages back) g.adds));
        spans = λ period lo hi at s a b absent.
            let P : Row A → Type 0 = λ r. rank_of period r ≡ key → (name_of r) ≡ (name_of row) → ⊥ in
            let f = found_kid period key below lo hi kids each s n i kid found is l read in
            let inside = all_left P (rows_of_pages kid.pages) (rows_of_pages back) (all_right P (rows_of_pages front) (rows_of_pages kid.pages ++ rows_of_pages back) (subst (All P) old absent)) in
            spans_join period lo f.a hi front (new ++ back) f.low (spans_join period f.a f.b hi new back (g.spans period f.a f.b at f.mid (f.from a) (f.to b) inside) f.high);
      }
