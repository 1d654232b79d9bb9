-- What taking out a row does to a page, and to a node over the child that it is taken from.
use Rattle.std.proofs.Common.{◌≡◌, ℕ, ◌+◌, ◌<◌, ◌≤◌, List, [], ◌∷◌, ◌++◌, length, set, take, drop, refl, sym, ap, subst, ◌∙◌, suc, arith}
use Rattle.std.proofs.Common.{length-set, length-take-le, Option, Some, None}
use Rattle.std.proofs.lemmas.List.{set_split}
use Rattle.std.proofs.lemmas.List.Elements.{All-append, All-tail}
use Rattle.std.specs.List.{All}
use Rattle.std.specs.Prelude.{IfSome, IfNone}
use Rattle.st_key.specs.declared.period.Period.{Period}
use Rattle.st_index.specs.declared.row.Row.{Row}
use Rattle.st_index.specs.inner.Entries.{Name, name_of, EntryValue, EntriesRise, rank_of, rows_of}
use Rattle.st_index.specs.inner.Index.{Adds, IsAbsent}
use Rattle.st_index.proofs.Climbing.{all_left, all_right}
use Rattle.st_index.proofs.Putting.{adds_inside, split_read}
use Rattle.st_index.proofs.Taking.{absent_high, absent_join, absent_low, rows_below, rows_from}
use Rattle.st_ubtree.specs.inner.Nodes.{IsInnerNode, inner_node}
use Rattle.st_tally.specs.inner.Pages.{page_node}
use Rattle.st_tally.specs.inner.Pages.{PageValue, NodeValue, rows_of_pages}
use Rattle.st_ubtree.specs.inner.Kids.{HeadAt, IsKid, Spans, pages_of}
use Rattle.st_ubtree.specs.inner.Shrinking.{AreWorn, DropsFrom, HasNone, IsWorn, Mends, Reshapes, Shrinks}
use Rattle.st_ubtree.proofs.Inside.{rows_join, rows_three}
use Rattle.st_ubtree.proofs.Lifting.{head_same}
use Rattle.st_ubtree.proofs.Over.{IsKidFor, kid_is, over_pages}
use Rattle.st_ubtree.specs.declared.node.Node.TheInside.{Inside}
use Rattle.st_ubtree.specs.declared.node.aside.Aside.{Aside}
use Rattle.st_key.specs.Key.{rank}
use Rattle.std.proofs.Common.{Vec}
use Rattle.st_ubtree.proofs.Halving.{kids_start, kids_wide}
use Rattle.st_ubtree.proofs.Spanning.{found_kid, pages-append, pages_split, spans_bounds, spans_mid, spans_put}
use Rattle.st_ubtree.proofs.Splitting.{wide_page, one_rows, page}

module _ {A : Type 0} (period : Period) where
  pub page_rows_below : (lo hi : ℕ) (ps : List (PageValue A)) → Spans period lo hi ps → All (λ r. rank_of period r < hi) (rows_of_pages ps)
  page_rows_below lo hi [] h = λ k d l. absurd (omega (arith, l))
  page_rows_below lo hi (p ∷ ps) h =
      let b = spans_bounds period h.1.0 hi ps h.1.3 in
      let low = rows_below period lo h.1.0 p.entries h.1.2 in
      subst (All (λ r. rank_of period r < hi)) (sym (rows_join (p ∷ []) ps ∙ ap (λ t. t ++ rows_of_pages ps) (one_rows p.first p.entries)))
      (All-append (λ r. rank_of period r < hi) (rows_of p.entries) (rows_of_pages ps) (λ k d l. omega (arith, low k d l, b)) (page_rows_below h.1.0 hi ps h.1.3))

  pub page_rows_from : (lo hi : ℕ) (ps : List (PageValue A)) → Spans period lo hi ps → All (λ r. lo ≤ rank_of period r) (rows_of_pages ps)
  page_rows_from lo hi [] h = λ k d l. absurd (omega (arith, l))
  page_rows_from lo hi (p ∷ ps) h =
      let wide = h.1.1 in
      let rest = page_rows_from h.1.0 hi ps h.1.3 in
      subst (All (λ r. lo ≤ rank_of period r)) (sym (rows_join (p ∷ []) ps ∙ ap (λ t. t ++ rows_of_pages ps) (one_rows p.first p.entries)))
      (All-append (λ r. lo ≤ rank_of period r) (rows_of p.entries) (rows_of_pages ps) (rows_from period lo h.1.0 p.entries h.1.2) (λ k d l. omega (arith, rest k d l, wide)))

module _ {A : Type 0} where
  pub shrinks_page : (key : ℕ) (row : Row A) (first height : ℕ) (old new : List (EntryValue A)) → Adds row (rows_of new) (rows_of old)
      → ((period : Period) (lo hi : ℕ) → EntriesRise period lo hi old → rank_of period row ≡ key)
      → ((period : Period) (lo hi : ℕ) → EntriesRise period lo hi old → EntriesRise period lo hi new) → length new ≤ length old → length old ≤ length new + 1
      → length old ≤ 32 → Shrinks key row (page_node first height old) (page_node first height new)
  shrinks_page key row first height old new adds placed rising shorter most fits = record {
    first = refl;
    height = refl;
    starts = λ s. s;
    shorter = shorter;
    at_most_one = most;
    filled = λ h. wide_page first new h (omega (arith, shorter, fits));
    by = record {
      adds = subst (λ t. Adds row t (rows_of_pages (page first old ∷ []))) (sym (one_rows first new)) (subst (λ t. Adds row (rows_of new) t) (sym (one_rows first old)) adds);
      spans = λ period lo hi h. (h.0, (h.1.0, h.1.1, rising period lo h.1.0 h.1.2, h.1.3));
      placed = λ period lo hi h. placed period lo h.1.0 h.1.2;
    };
  }

  pub none_in_page : (key : ℕ) (name : Name) (first : ℕ) (es : List (EntryValue A))
      → ((period : Period) (lo hi : ℕ) → EntriesRise period lo hi es → IsAbsent period key name (rows_of es)) → HasNone key name (page first es ∷ [])
  none_in_page key name first es absent period lo hi h a b = subst (IsAbsent period key name) (sym (one_rows first es)) (absent period lo h.1.0 h.1.2)

  pub page_taken : (key : ℕ) (name : Name) (first height : ℕ) (old new : List (EntryValue A)) (r : Option (Row A))
      → IfSome r (λ row. Adds row (rows_of new) (rows_of old) × (name_of row ≡ name))
      → IfSome r (λ row. (period : Period) (lo hi : ℕ) → EntriesRise period lo hi old → rank_of period row ≡ key)
      → ((period : Period) (lo hi : ℕ) → EntriesRise period lo hi old → EntriesRise period lo hi new) → length new ≤ length old → length old ≤ length new + 1
      → length old ≤ 32 → IfSome r (λ row. Shrinks key row (page_node first height old) (page_node first height new))
  page_taken key name first height old new None some placed rising shorter most fits = tt
  page_taken key name first height old new (Some row) some placed rising shorter most fits = shrinks_page key row first height old new some.0 placed rising shorter most fits

  pub page_named : (name : Name) (old new : List (Row A)) (r : Option (Row A)) → IfSome r (λ row. Adds row new old × (name_of row ≡ name)) → IfSome r (λ row. name_of row ≡ name)
  page_named name old new None some = tt
  page_named name old new (Some row) some = some.1

  pub page_kept : (first height : ℕ) (old new : List (EntryValue A)) (r : Option (Row A)) → IfNone r (new ≡ old) → IfNone r (page_node first height new ≡ page_node first height old)
  page_kept first height old new None same = ap (page_node first height) same
  page_kept first height old new (Some row) same = tt

  pub page_without : (key : ℕ) (name : Name) (first : ℕ) (es : List (EntryValue A)) (r : Option (Row A))
      → IfNone r ((period : Period) (lo hi : ℕ) → EntriesRise period lo hi es → IsAbsent period key name (rows_of es))
      → IfNone r (HasNone key name (page first es ∷ []))
  page_without key name first es None h = none_in_page key name first es h
  page_without key name first es (Some row) h = tt

  pub drops_reshape : (key : ℕ) (row : Row A) (old mid new : List (PageValue A)) → DropsFrom key row old mid → Reshapes mid new → DropsFrom key row old new
  drops_reshape key row old mid new d r = record {
    adds = subst (λ t. Adds row t (rows_of_pages old)) (sym (ap rows_of r.entries)) d.adds;
    spans = λ period lo hi h. r.spans period lo hi (d.spans period lo hi h);
    placed = d.placed;
  }

  module _ {key i : ℕ} {n : Inside A} {kids : Vec (NodeValue A) A} {aside : Aside A} {node kid : NodeValue A} (k : IsKidFor key n kids aside node i kid) where
    pub none_in_kids : (name : Name) → HasNone key name kid.pages → HasNone key name node.pages
    none_in_kids name none period lo hi s a b =
        let split = over_pages k.over ∙ pages_split kids.items i kid k.chosen.within k.read in
        let f = found_kid period key k.over.good.below lo hi kids.items k.over.good.each (subst (Spans period lo hi) (over_pages k.over) s) k.chosen.upto i kid
        k.chosen.found k.chosen.is k.chosen.within k.read in
        let front = pages_of (take i kids.items) in
        let back = pages_of (drop (suc i) kids.items) in
        let inside = none period f.a f.b f.mid (f.from a) (f.to b) in
        let low = absent_low period key name (rows_of_pages front) (λ j d m. omega (arith, page_rows_below period lo f.a front f.low j d m, f.from a)) in
        let high = absent_high period key name (rows_of_pages back) (λ j d m. omega (arith, page_rows_from period f.b hi back f.high j d m, f.to b)) in
        subst (IsAbsent period key name) (sym (ap rows_of_pages split ∙ rows_three front kid.pages back))
        (absent_join period key name (rows_of_pages front) (rows_of_pages kid.pages ++ rows_of_pages back) low (absent_join period key name (rows_of_pages kid.pages) (rows_of_pages back) inside high))

    module _ (row : Row A) (v : NodeValue A) (g : Shrinks key row kid v) where
      worn_there : IsWorn k.over.good.below v
      worn_there =
          let is = kid_is k in
          record {
            same_height = g.height ∙ is.same_height;
            not_less = omega (arith, is.not_less, g.at_most_one);
            not_more = omega (arith, is.not_more, g.shorter);
            starts = g.starts is.starts;
            filled = g.filled;
          }

      pub are_worn : AreWorn k.over.good.below i (set kids.items i v)
      are_worn =
          let below = k.over.good.below in
          let front = take i kids.items in
          let back = drop (suc i) kids.items in
          let all = subst (All (IsKid below)) (split_read kids.items i kid k.chosen.within k.read) k.over.good.each in
          record {
            front = front;
            kid = v;
            back = back;
            is = set_split kids.items i v k.chosen.within;
            stands = length-take-le i kids.items (omega (arith, k.chosen.within));
            in_front = all_left (IsKid below) front (kid ∷ back) all;
            worn = worn_there;
            behind = All-tail (IsKid below) kid back (all_right (IsKid below) front (kid ∷ back) all);
          }

      drops_there : DropsFrom key row (pages_of kids.items) (pages_of (set kids.items i v))
      drops_there =
          let front = pages_of (take i kids.items) in
          let back = pages_of (drop (suc i) kids.items) in
          let was = pages_split kids.items i kid k.chosen.within k.read in
          let now : pages_of (set kids.items i v) ≡ front ++ (v.pages ++ back) =
          ap pages_of (set_split kids.items i v k.chosen.within) ∙ pages-append (take i kids.items) (v ∷ drop (suc i) kids.items) in
          subst (λ ps. DropsFrom key row ps (pages_of (set kids.items i v))) (sym was) (subst (DropsFrom key row (front ++ (kid.pages ++ back))) (sym now) (record {
            adds = subst (λ t. Adds row t (rows_of_pages (front ++ (kid.pages ++ back)))) (sym (rows_three front v.pages back))
                (subst (λ t. Adds row (rows_of_pages front ++ (rows_of_pages v.pages ++ rows_of_pages back)) t) (sym (rows_three front kid.pages back))
                (adds_inside row (rows_of_pages front) (rows_of_pages v.pages) (rows_of_pages kid.pages) (rows_of_pages back) g.by.adds));
            spans = λ period lo hi h. spans_put period lo hi front kid.pages v.pages back (g.by.spans period) h;
            placed = λ period lo hi h. let mid = spans_mid period lo hi front kid.pages back h in g.by.placed period mid.0 mid.1 mid.2;
          }))

      -- what it is mended to
      module _ (new : List (NodeValue A)) (mends : (below : ℕ) → AreWorn below i (set kids.items i v) → Mends below (set kids.items i v) new) where
        m : Mends k.over.good.below (set kids.items i v) new
        m = mends k.over.good.below are_worn

        head_there : HeadAt (rank n.first) new
        head_there =
            m.head (rank n.first) (subst (HeadAt (rank n.first)) (sym (set_split kids.items i v k.chosen.within))
            (head_same (rank n.first) kids.items i kid v (drop (suc i) kids.items) k.chosen.within k.read g.first k.over.good.head))

        pub shrinks_inner : Shrinks key row (inner_node (rank n.first) n.height kids.items) (inner_node (rank n.first) n.height new)
        shrinks_inner = record {
          first = refl;
          height = refl;
          starts = λ s. kids_start k.over.good.below (rank n.first) new m.each head_there;
          shorter = omega (arith, m.shorter, length-set kids.items i v);
          at_most_one = omega (arith, m.at_most_one, length-set kids.items i v);
          filled = λ h. kids_wide k.over.good.below new m.each;
          by = drops_reshape key row (pages_of kids.items) (pages_of (set kids.items i v)) (pages_of new) drops_there m.by;
        }

        pub shrunk_inner : (capacity : ℕ) → 2 ≤ length kids.items → 33 ≤ capacity → IsInnerNode (rank n.first) n.height new capacity
        shrunk_inner capacity two room = record {
          below = k.over.good.below;
          higher = k.over.good.higher;
          each = m.each;
          head = head_there;
          not_less = omega (arith, m.at_most_one, two, length-set kids.items i v);
          not_more = omega (arith, m.shorter, k.over.good.not_more, length-set kids.items i v);
          room = room;
        }
