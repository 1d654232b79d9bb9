-- What stays summed up as rows come and go.
use Rattle.std.proofs.Common.{◌≡◌, ℕ, ◌+◌, ◌<◌, ◌≤◌, List, [], ◌∷◌, ◌++◌, Bool, false, cond, length, get_or, take, suc, zero, Option, Some, None, refl, sym, ap, subst, ◌∙◌, arith}
use Rattle.std.specs.Prelude.{Result, Ok, Err, IfSome, IfNone, IfOk, OnErr, MatchOption, is_some}
use Rattle.std.proofs.lemmas.List.{append-nil}
use Rattle.std.proofs.lemmas.List.Concat.{length-flat_map}
use Rattle.std.proofs.lemmas.List.Elements.{All-append}
use Rattle.std.proofs.lemmas.List.Sums.{get_or-le-sum_by}
use Rattle.std.specs.List.{All, flat_map, sum_by}
use Rattle.st_key.specs.declared.point.Point.{Point}
use Rattle.st_text.specs.Texts.{Text}
use Rattle.st_box.specs.declared.query.Query.{Query}
use Rattle.st_index.specs.declared.row.Row.{Row}
use Rattle.st_index.specs.inner.Counting.{count_of, is_counted}
use Rattle.st_index.specs.inner.Entries.{Name, name_of, EntryValue}
use Rattle.st_index.proofs.Sums.{sum_by-flat_map}
use Rattle.st_tally.specs.declared.bounds.Bounds.{Bounds}
use Rattle.st_ubtree.specs.declared.node.Kids.{Kids}
use Rattle.st_ubtree.specs.declared.node.Kids.TheVariants.{Page, Inner}
use Rattle.st_tally.specs.declared.summary.Summary.{Summary}
use Rattle.st_tally.specs.inner.Pages.{NodeValue, rows_of_pages}
use Rattle.st_ubtree.specs.inner.Kids.{pages_of}
use Rattle.st_ubtree.specs.inner.Growing.{Grows, SplitsIfFull}
use Rattle.st_ubtree.specs.inner.Shrinking.{Shrinks}
use Rattle.st_ubtree.specs.inner.Trading.{TradesIn}
use Rattle.st_ubtree.specs.inner.Nodes.{pages_under, rows_under}
use Rattle.st_tally.specs.inner.Sums.{IsWithin, Sums}
use Rattle.st_ubtree.proofs.Inside.{rows_join}
use Rattle.std.proofs.Math.ListN.{set}
use Rattle.st_ubtree.proofs.Spanning.{pages-append}
use Rattle.st_ubtree.proofs.Splitting.{one_rows, page}
use Rattle.st_tally.proofs.Summing.{next_lists, sums_added, sums_swapped, sums_taken, wider}

module _ {A : Type 0} where
  -- where no child has marks
  pub rows_are : (first : ℕ) (kids : Kids A) → rows_under kids ≡ rows_of_pages (pages_under first kids)
  rows_are first (Page entries) = sym (one_rows first entries.items)
  rows_are first (Inner kids aside) = refl

  -- the rows below some nodes are those below each of them
  pub rows_of_kids : (kids : List (NodeValue A)) → rows_of_pages (pages_of kids) ≡ flat_map (λ (v : NodeValue A). rows_of_pages v.pages) kids
  rows_of_kids [] = refl
  rows_of_kids (v ∷ vs) = rows_join v.pages (pages_of vs) ∙ ap (λ rows. rows_of_pages v.pages ++ rows) (rows_of_kids vs)

  -- those of one node more
  pub next_kid : (kids : List (NodeValue A)) (i : ℕ) (kid : NodeValue A) → i < length kids → kid ≡ get_or kids i kid
      → rows_of_pages (pages_of (take i kids)) ++ rows_of_pages kid.pages ≡ rows_of_pages (pages_of (take (i + 1) kids))
  next_kid kids i kid below read =
      ap (λ rows. rows ++ rows_of_pages kid.pages) (rows_of_kids (take i kids))
      ∙ next_lists (λ (v : NodeValue A). rows_of_pages v.pages) [] kids i kid below read
      ∙ sym (rows_of_kids (take (i + 1) kids))

  -- bounds of some rows and of those below one node more
  pub next_bounds : (a b both : Bounds) (kids : List (NodeValue A)) (i : ℕ) (kid : NodeValue A) → i < length kids → kid ≡ get_or kids i kid
      → ((p : Point) → IsWithin a p → IsWithin both p) → ((p : Point) → IsWithin b p → IsWithin both p)
      → All (λ (r : Row A). IsWithin a r.point) (rows_of_pages (pages_of (take i kids))) → All (λ (r : Row A). IsWithin b r.point) (rows_of_pages kid.pages)
      → All (λ (r : Row A). IsWithin both r.point) (rows_of_pages (pages_of (take (i + 1) kids)))
  next_bounds a b both kids i kid below read own others before here =
      let rows = rows_of_pages (pages_of (take i kids)) in
      let P = λ (r : Row A). IsWithin both r.point in
      subst (All P) (next_kid kids i kid below read) (All-append P rows (rows_of_pages kid.pages) (wider a both own rows before) (wider b both others (rows_of_pages kid.pages) here))

  -- the rows below two lists of nodes
  pub rows_of_both : (kids more : List (NodeValue A)) → rows_of_pages (pages_of (kids ++ more)) ≡ rows_of_pages (pages_of kids) ++ rows_of_pages (pages_of more)
  rows_of_both kids more = ap rows_of_pages (pages-append kids more) ∙ rows_join (pages_of kids) (pages_of more)

  -- and their summary, where nodes go over from one to the other
  pub sums_shared : (s : Summary A) (old right new rest : List (NodeValue A)) → new ++ rest ≡ old ++ right
      → Sums s (rows_of_pages (pages_of old) ++ rows_of_pages (pages_of right)) → Sums s (rows_of_pages (pages_of new) ++ rows_of_pages (pages_of rest))
  sums_shared s old right new rest kept sums =
      subst (Sums s) (sym (rows_of_both old right) ∙ ap (λ ks. rows_of_pages (pages_of ks)) (sym kept) ∙ rows_of_both new rest) sums

  -- or all do
  pub sums_whole : (s : Summary A) (old right new rest : List (NodeValue A)) → new ++ rest ≡ old ++ right → rest ≡ []
      → Sums s (rows_of_pages (pages_of old) ++ rows_of_pages (pages_of right)) → Sums s (rows_of_pages (pages_of new))
  sums_whole s old right new rest kept none sums =
      let all : new ≡ old ++ right = sym (append-nil new) ∙ ap (λ ks. new ++ ks) (sym none) ∙ kept in
      subst (Sums s) (sym (rows_of_both old right) ∙ ap (λ ks. rows_of_pages (pages_of ks)) (sym all)) sums

  pub count_of_kids : (q : Query) (judges : Text → Bool) (kids : List (NodeValue A))
      → count_of q judges (rows_of_pages (pages_of kids)) ≡ sum_by (λ (v : NodeValue A). count_of q judges (rows_of_pages v.pages)) kids
  count_of_kids q judges kids =
      ap (count_of q judges) (rows_of_kids kids)
      ∙ sum_by-flat_map (λ (r : Row A). cond (is_counted q judges r) 1 0) (λ (v : NodeValue A). rows_of_pages v.pages) kids

  -- and a node has no more of them than all together
  pub fewer_in_kid : (kids : List (NodeValue A)) (i : ℕ) (kid : NodeValue A) → i < length kids → kid ≡ get_or kids i kid
      → length (rows_of_pages kid.pages) ≤ length (rows_of_pages (pages_of kids))
  fewer_in_kid kids i kid l read =
      let f = λ (v : NodeValue A). length (rows_of_pages v.pages) in
      let all = ap length (rows_of_kids kids) ∙ length-flat_map (λ (v : NodeValue A). rows_of_pages v.pages) kids in
      omega (arith, all, get_or-le-sum_by f kids i kid l, ap f read)

  -- a node that is not split has one row more
  pub kept_sums : (s : Summary A) (key : ℕ) (row : Row A) (old new : NodeValue A) (split : Option (NodeValue A)) → Grows key row old new split
      → is_some split ≡ false → Sums s (rows_of_pages old.pages ++ row ∷ []) → Sums s (rows_of_pages new.pages)
  kept_sums s key row old new None g none sums = sums_added s row (rows_of_pages old.pages) (rows_of_pages new.pages) g.by.adds sums
  kept_sums s key row old new (Some right) g none sums = cc

  -- children that are not split stay
  pub split_same : (height : ℕ) (old new : List (NodeValue A)) (split : Option (NodeValue A)) → SplitsIfFull height old new split → is_some split ≡ false → new ≡ old
  split_same height old new None s none = s.0
  split_same height old new (Some right) s none = cc

  pub kept_taken : (s t : Summary A) (key : ℕ) (old new : NodeValue A) (taken : Option (Row A))
      → IfSome taken (λ row. Shrinks key row old new) → IfNone taken (new ≡ old)
      → ((rows : List (Row A)) → MatchOption taken (Sums s rows → Sums t rows) (λ row. Sums s (rows ++ row ∷ []) → Sums t rows))
      → Sums s (rows_of_pages old.pages) → Sums t (rows_of_pages new.pages)
  kept_taken s t key old new None some none drops sums =
      drops (rows_of_pages new.pages) (subst (λ (v : NodeValue A). Sums s (rows_of_pages v.pages)) (sym none) sums)
  kept_taken s t key old new (Some row) some none drops sums =
      drops (rows_of_pages new.pages) (sums_taken s row (rows_of_pages old.pages) (rows_of_pages new.pages) some.by.adds sums)

  label_of : (a b : Row A) → name_of a ≡ name_of b → b.label ≡ a.label
  label_of a b e = ap (λ (n : Name). n.label) (sym e)

  pub kept_traded : (s : Summary A) (key : ℕ) (row : Row A) (old new : NodeValue A) (r : Result (Row A) (Row A))
      → IfOk r (λ out. TradesIn key out row old.pages new.pages) → IfOk r (λ out. name_of out ≡ name_of row) → OnErr r (new.pages ≡ old.pages)
      → IsWithin s.bounds row.point → Sums s (rows_of_pages old.pages) → Sums s (rows_of_pages new.pages)
  kept_traded s key row old new (Ok out) trades named err inside sums =
      sums_swapped s out row (rows_of_pages old.pages) (rows_of_pages new.pages) trades.swaps (label_of out row named) inside sums
  kept_traded s key row old new (Err back) trades named err inside sums = subst (λ ps. Sums s (rows_of_pages ps)) (sym err) sums

  -- where there is no row to trade, the pages stay
  pub page_stays : (first : ℕ) (old new : List (EntryValue A)) (r : Result (Row A) (Row A)) → OnErr r (new ≡ old) → OnErr r (page first new ∷ [] ≡ page first old ∷ [])
  page_stays first old new (Ok out) h = tt
  page_stays first old new (Err back) h = ap (λ es. page first es ∷ []) h

  pages_set : (kids : List (NodeValue A)) (i : ℕ) (kid v : NodeValue A) → i < length kids → kid ≡ get_or kids i kid → v.pages ≡ kid.pages → pages_of (set kids i v) ≡ pages_of kids
  pages_set [] i kid v l read same = absurd (omega (arith, l))
  pages_set (k ∷ ks) zero kid v l read same = ap (λ ps. ps ++ pages_of ks) (same ∙ ap (λ (w : NodeValue A). w.pages) read)
  pages_set (k ∷ ks) (suc i) kid v l read same = ap (λ ps. k.pages ++ ps) (pages_set ks i kid v (omega (arith, l)) read same)

  pub kid_stays_so : (kids : List (NodeValue A)) (i : ℕ) (kid v : NodeValue A) → i < length kids → kid ≡ get_or kids i kid
      → (r : Result (Row A) (Row A)) → OnErr r (v.pages ≡ kid.pages) → OnErr r (pages_of (set kids i v) ≡ pages_of kids)
  kid_stays_so kids i kid v l read (Ok out) h = tt
  kid_stays_so kids i kid v l read (Err back) h = pages_set kids i kid v l read h
