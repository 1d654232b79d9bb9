-- A node by its parts: what it is seen as, and what holds of it by its invariant.
use Rattle.std.proofs.Common.{◌≡◌, ◌∙◌, ℕ, ◌+◌, ◌<◌, ◌≤◌, List, [], ◌∷◌, length, get_or, sym, ap, subst, arith, Box, Vec, vec_capacity}
use Rattle.std.proofs.lemmas.List.{append-nil}
use Rattle.st_key.specs.Key.{rank}
use Rattle.st_index.specs.inner.Entries.{EntryValue, rows_of}
use Rattle.st_tally.specs.inner.Marks.{AreMarked}
use Rattle.st_tally.specs.inner.Pages.{NodeValue, entries_of_pages, page_node, rows_of_pages}
use Rattle.st_tally.specs.inner.Sums.{Sums}
use Rattle.std.specs.List.{All}
use Rattle.st_ubtree.specs.declared.node.Kids.TheVariants.{Page, Inner}
use Rattle.st_ubtree.specs.declared.node.Node.TheInside.{Inside}
use Rattle.st_ubtree.specs.declared.node.aside.Aside.{Aside}
use Rattle.st_ubtree.specs.inner.Firsts.{AreFirsts, AreFirstsUnder}
use Rattle.st_ubtree.specs.inner.Growing.{IsChosen}
use Rattle.st_ubtree.specs.inner.Kids.{IsKid, pages_of}
use Rattle.st_ubtree.specs.inner.Nodes.{AreMarkedUnder, IsInnerNode, IsNode, IsPageNode, inner_node, node_value, rows_under}
use Rattle.st_ubtree.specs.inner.Splits.{splits, splits_in, splits_page}
use Rattle.st_ubtree.proofs.Keeping.{rows_are}
use Rattle.st_ubtree.proofs.Splitting.{page}

-- the invariant
abbrev pub IsSound : {A : Type 0} → Inside A → Type 0
IsSound n = IsNode (rank n.first) n.height n.kids × Sums n.sum (rows_under n.kids) × AreMarkedUnder n.kids × AreFirstsUnder n.kids

-- a node over others
pub record IsOver {A : Type 0} (n : Inside A) (kids : Vec (NodeValue A) A) (aside : Aside A) (node : NodeValue A) : Type 0 where
  pub good : IsInnerNode (rank n.first) n.height kids.items (vec_capacity kids)
  pub sums : Sums n.sum (rows_of_pages (pages_of kids.items))
  pub marked : AreMarked aside.marks kids.items
  pub firsts : AreFirsts aside.firsts kids.items
  pub seen : inner_node (rank n.first) n.height kids.items ≡ node

-- a page
pub record IsPage {A : Type 0} (n : Inside A) (entries : Vec (EntryValue A) A) (node : NodeValue A) : Type 0 where
  pub good : IsPageNode n.height (length entries.items) (vec_capacity entries)
  pub sums : Sums n.sum (rows_of entries.items)
  pub seen : page_node (rank n.first) n.height entries.items ≡ node

-- the child of a node over others that a key is looked for in
pub record IsKidFor {A : Type 0} (key : ℕ) (n : Inside A) (kids : Vec (NodeValue A) A) (aside : Aside A) (node : NodeValue A) (i : ℕ) (kid : NodeValue A) : Type 0 where
  pub over : IsOver n kids aside node
  pub chosen : IsChosen key kids.items i
  pub read : kid ≡ get_or kids.items i kid

module _ {A : Type 0} where
  pub is_over : (n : Inside A) {kids : Vec (NodeValue A) A} {box : Box (Aside A) A} {aside : Aside A} {node : NodeValue A} → n.kids ≡ Inner kids box
      → aside ≡ box.value → IsSound n → node_value (rank n.first) n.height n.kids ≡ node → IsOver n kids aside node
  is_over n {kids = kids} is same sound view = record {
    good = subst (IsNode (rank n.first) n.height) is sound.0;
    sums = subst (λ k. Sums n.sum (rows_under k)) is sound.1;
    marked = subst (λ (a : Aside A). AreMarked a.marks kids.items) (sym same) (subst AreMarkedUnder is sound.2);
    firsts = subst (λ (a : Aside A). AreFirsts a.firsts kids.items) (sym same) (subst AreFirstsUnder is sound.3);
    seen = ap (node_value (rank n.first) n.height) (sym is) ∙ view;
  }

  pub is_page : (n : Inside A) {entries : Vec (EntryValue A) A} {node : NodeValue A} → n.kids ≡ Page entries → IsSound n
      → node_value (rank n.first) n.height n.kids ≡ node → IsPage n entries node
  is_page n is sound view = record {
    good = subst (IsNode (rank n.first) n.height) is sound.0;
    sums = subst (λ k. Sums n.sum (rows_under k)) is sound.1;
    seen = ap (node_value (rank n.first) n.height) (sym is) ∙ view;
  }

  -- the rows under a node, and the pages, rows and entries of its two kinds
  pub seen_rows : (n : Inside A) {node : NodeValue A} → node_value (rank n.first) n.height n.kids ≡ node → rows_of_pages node.pages ≡ rows_under n.kids
  seen_rows n view = ap (λ (v : NodeValue A). rows_of_pages v.pages) (sym view) ∙ sym (rows_are (rank n.first) n.kids)

  module _ {n : Inside A} {kids : Vec (NodeValue A) A} {aside : Aside A} {node : NodeValue A} (o : IsOver n kids aside node) where
    pub over_pages : node.pages ≡ pages_of kids.items
    over_pages = ap (λ (v : NodeValue A). v.pages) (sym o.seen)

    pub over_width : node.width ≡ length kids.items
    over_width = ap (λ (v : NodeValue A). v.width) (sym o.seen)

    -- it is higher than its children
    pub over_high : node.height ≡ o.good.below + 1
    over_high = ap (λ (v : NodeValue A). v.height) (sym o.seen) ∙ o.good.higher

    pub not_lowest : node.height ≡ 0 → ⊥
    not_lowest low = omega (arith, low, over_high)

    -- where it may have no fewer than two, it has no fewer
    pub two_kids : (1 ≤ node.height → 2 ≤ node.width) → 2 ≤ length kids.items
    two_kids given = omega (arith, given (omega (arith, over_high)), over_width)

    pub over_kid : (i : ℕ) (kid : NodeValue A) → i < length kids.items → kid ≡ get_or kids.items i kid → IsKid o.good.below kid
    over_kid i kid within read = subst (IsKid o.good.below) (sym read) (o.good.each i kid within)

    pub lower_in : (height : ℕ) → height ≡ o.good.below → height < node.height
    lower_in height is = omega (arith, is, over_high)

    -- the same of its children in a slice
    module _ {xs : List (NodeValue A)} (is : xs ≡ kids.items) where
      pub each_in : All (IsKid o.good.below) xs
      each_in = subst (All (IsKid o.good.below)) (sym is) o.good.each

      pub pages_in : node.pages ≡ pages_of xs
      pages_in = over_pages ∙ ap pages_of (sym is)

      pub rows_in : rows_of_pages node.pages ≡ rows_of_pages (pages_of xs)
      rows_in = ap rows_of_pages pages_in

      pub item_lower : (i : ℕ) (kid : NodeValue A) → i < length xs → kid ≡ get_or xs i kid → kid.height < node.height
      item_lower i kid within read = lower_in kid.height (ap (λ (v : NodeValue A). v.height) read ∙ (each_in i kid within).same_height)

  module _ {n : Inside A} {entries : Vec (EntryValue A) A} {node : NodeValue A} (p : IsPage n entries node) where
    pub page_pages : node.pages ≡ page (rank n.first) entries.items ∷ []
    page_pages = ap (λ (v : NodeValue A). v.pages) (sym p.seen)

    pub page_width : node.width ≡ length entries.items
    page_width = ap (λ (v : NodeValue A). v.width) (sym p.seen)

    pub page_entries : entries_of_pages node.pages ≡ entries.items
    page_entries = ap entries_of_pages page_pages ∙ append-nil entries.items

    pub page_entries_in : {es : List (EntryValue A)} → es ≡ entries.items → entries_of_pages node.pages ≡ es
    page_entries_in is = page_entries ∙ sym is

    pub page_fits_in : {es : List (EntryValue A)} → es ≡ entries.items → length es ≤ 32
    page_fits_in is = omega (arith, ap length is, p.good.not_more)

    pub page_rows_in : {es : List (EntryValue A)} → es ≡ entries.items → rows_of_pages node.pages ≡ rows_of es
    page_rows_in is = ap rows_of (page_entries_in is)

    pub page_low : node.height ≡ 0
    page_low = ap (λ (v : NodeValue A). v.height) (sym p.seen) ∙ p.good.lowest

    pub page_splits : (key : ℕ) → splits node key ≡ splits_page entries.items 1 key
    unfolding splits_in
    page_splits key = ap (λ (v : NodeValue A). splits v key) (sym p.seen)

  -- the child that is chosen by the first keys
  pub kid_for : {key i : ℕ} {n : Inside A} {kids : Vec (NodeValue A) A} {aside : Aside A} {node kid : NodeValue A} → IsOver n kids aside node
      → ((ks : List (NodeValue A)) → 1 ≤ length ks → AreFirsts aside.firsts ks → IsChosen key ks i) → kid ≡ get_or kids.items i kid
      → IsKidFor key n kids aside node i kid
  kid_for {kids = kids} o choose read = record { over = o; chosen = choose kids.items o.good.not_less o.firsts; read = read }

  module _ {key i : ℕ} {n : Inside A} {kids : Vec (NodeValue A) A} {aside : Aside A} {node kid : NodeValue A} (k : IsKidFor key n kids aside node i kid) where
    pub kid_is : IsKid k.over.good.below kid
    kid_is = over_kid k.over i kid k.chosen.within k.read

    pub kid_step : node.height ≡ kid.height + 1
    kid_step = omega (arith, kid_is.same_height, over_high k.over)

    pub kid_lower : kid.height < node.height
    kid_lower = lower_in k.over kid.height kid_is.same_height
