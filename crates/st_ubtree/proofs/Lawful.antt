-- What holds of the pages of a tree, and of their regions.
use Rattle.std.proofs.Common.{◌≡◌, ℕ, ◌+◌, ◌-◌, ◌^◌, ◌<◌, ◌≤◌, List, [], ◌∷◌, ◌++◌, length, get_or, refl, sym, ap, subst, ◌∙◌, suc, arith, length-append}
use Rattle.std.proofs.lemmas.List.Elements.{All-head, All-tail}
use Rattle.std.specs.List.{All, Contains}
use Rattle.st_key.specs.declared.period.Period.{Period}
use Rattle.st_index.specs.declared.row.Row.{Row}
use Rattle.st_index.specs.inner.Entries.{Name, name_of, EntryValue, EntriesRise, key_end, rank_of, rows_of}
use Rattle.st_index.specs.inner.Index.{Follow, IsAbsent, IsLawful, IsLeafAt, Region, region}
use Rattle.st_index.proofs.Listing.{adds_length, swaps_length}
use Rattle.st_ubtree.specs.inner.Shrinking.{DropsFrom}
use Rattle.st_index.proofs.Rising.{rises_join}
use Rattle.st_index.proofs.Scanning.{scan_rises}
use Rattle.st_ubtree.specs.inner.Growing.{AreAround, IsLeafIn}
use Rattle.st_tally.specs.inner.Pages.{PageValue, NodeValue, IsFilled, entries_of_pages, rows_of_pages}
use Rattle.st_ubtree.specs.inner.Kids.{GrowsBy, Spans}
use Rattle.st_ubtree.specs.inner.Trading.{TradesIn}
use Rattle.st_tally.specs.inner.Pages.{AreFilled}
use Rattle.st_ubtree.specs.inner.Trees.{regions_of}
use Rattle.st_ubtree.specs.inner.Tree.{IsTree}
use Rattle.st_ubtree.proofs.Inside.{rows_join, rows_three}
use Rattle.st_ubtree.proofs.Shrinking.{page_rows_below, page_rows_from}
use Rattle.st_ubtree.proofs.Parts.{part_spans, part_from, part_to, part_within}
use Rattle.st_ubtree.proofs.Splitting.{one_rows, page}

module _ {A : Type 0} (period : Period) where
  pub spans_rise : (lo hi : ℕ) (ps : List (PageValue A)) → Spans period lo hi ps → EntriesRise period lo hi (entries_of_pages ps)
  spans_rise lo hi [] h = omega (arith, h)
  spans_rise lo hi (p ∷ ps) h = rises_join period lo h.1.0 hi p.entries (entries_of_pages ps) h.1.2 (spans_rise h.1.0 hi ps h.1.3)

  one_rises : (lo hi : ℕ) (p : PageValue A) → Spans period lo hi (p ∷ []) → EntriesRise period lo hi p.entries
  one_rises lo hi p h = subst (λ n. EntriesRise period lo n p.entries) h.1.3 h.1.2

  one_wide : (lo hi : ℕ) (p : PageValue A) → Spans period lo hi (p ∷ []) → lo < hi
  one_wide lo hi p h = omega (arith, h.1.1, h.1.3)

  pub spans_follow : (lo hi : ℕ) (ps : List (PageValue A)) → Spans period lo hi ps → Follow lo hi (regions_of hi ps)
  spans_follow lo hi [] h = h
  spans_follow lo hi (p ∷ []) h = let a = h.1.1 in let b = h.1.3 in (h.0, omega (arith, a, b), omega (arith, a, b))
  spans_follow lo hi (p ∷ q ∷ ps) h =
      let a = h.1.1 in
      let next : q.first ≡ h.1.0 = h.1.3.0 in
      let rest : Follow h.1.0 hi (regions_of hi (q ∷ ps)) = spans_follow h.1.0 hi (q ∷ ps) h.1.3 in
      let at : h.1.0 ≡ q.first - 1 + 1 = omega (arith, a, next) in
      (h.0, omega (arith, a, next), subst (λ n. Follow n hi (regions_of hi (q ∷ ps))) at rest)

  -- each entry has a row
  entries_rows : (lo hi : ℕ) (es : List (EntryValue A)) → EntriesRise period lo hi es → length es ≤ length (rows_of es)
  entries_rows lo hi [] h = omega arith
  entries_rows lo hi (e ∷ es) h = by (entries_rows (e.at + 1) hi es h.2) e.rows refl
    where
      by : length es ≤ length (rows_of es) → (rows : List (Row A)) → e.rows ≡ rows → length (e ∷ es) ≤ length (rows_of (e ∷ es))
      by a [] is = absurd (h.1.held is)
      by a (r ∷ rs) is =
          omega (arith, a, length-append e.rows (rows_of es), ap length is)

  pages_rows : (lo hi : ℕ) (ps : List (PageValue A)) → Spans period lo hi ps → All IsFilled ps → length ps ≤ length (rows_of_pages ps)
  pages_rows lo hi [] h f = omega arith
  pages_rows lo hi (p ∷ ps) h f =
      let c = (All-head IsFilled p ps f).not_less in
      let d = ap length (rows_join (p ∷ []) ps ∙ ap (λ t. t ++ rows_of_pages ps) (one_rows p.first p.entries)) ∙ length-append (rows_of p.entries) (rows_of_pages ps) in
      omega (arith, pages_rows h.1.0 hi ps h.1.3 (All-tail IsFilled p ps f), entries_rows lo h.1.0 p.entries h.1.2, c, d)

regions_length : {A : Type 0} (hi : ℕ) (ps : List (PageValue A)) → length (regions_of hi ps) ≡ length ps
regions_length hi [] = refl
regions_length hi (p ∷ []) = refl
regions_length hi (p ∷ q ∷ ps) = ap suc (regions_length hi (q ∷ ps))

module _ {A : Type 0} (period : Period) where
  few_regions : (hi : ℕ) (ps : List (PageValue A)) → Spans period 0 hi ps → AreFilled ps → length (rows_of_pages ps) < 2 ^ 64 → length (regions_of hi ps) < 2 ^ 64
  few_regions hi [] s f n = omega arith
  few_regions hi (p ∷ []) s f n = omega arith
  few_regions hi (p ∷ q ∷ ps) s f n =
      let a = pages_rows period 0 hi (p ∷ q ∷ ps) s (f.not_less (omega arith)) in
      omega (arith, a, regions_length hi (p ∷ q ∷ ps), n)

  pub lawful_pages : (ps : List (PageValue A)) → Spans period 0 (key_end period) ps → AreFilled ps → length (rows_of_pages ps) < 2 ^ 64
      → IsLawful period (rows_of_pages ps) (regions_of (key_end period) ps)
  lawful_pages ps s f n = record {
    in_order = scan_rises period 0 (key_end period) (entries_of_pages ps) (spans_rise period 0 (key_end period) ps s);
    count = n;
    follow = spans_follow period 0 (key_end period) ps s;
    regions_count = few_regions (key_end period) ps s f n;
  }

  pub lawful_tree : (root : NodeValue A) (len : ℕ) → IsTree period root len → IsLawful period (rows_of_pages root.pages) (regions_of (key_end period) root.pages)
  lawful_tree root len t = lawful_pages root.pages t.spans t.filled (omega (arith, t.counted, t.most))

  -- the region of a page among others
  region_at : (lo hi : ℕ) (xs : List (PageValue A)) (p : PageValue A) (ys : List (PageValue A)) (last : ℕ) (d : Region) → p.first ≤ last
      → Spans period (last + 1) hi ys → get_or (regions_of hi (xs ++ p ∷ ys)) (length xs) d ≡ region p.first last
  region_at lo hi [] p [] last d l h = ap (λ n. region p.first n) (let e : hi - 1 ≡ last = omega (arith, h) in e)
  region_at lo hi [] p (y ∷ ys) last d l h = ap (λ n. region p.first n) (let e : y.first - 1 ≡ last = omega (arith, h.0) in e)
  region_at lo hi (x ∷ []) p ys last d l h = region_at lo hi [] p ys last d l h
  region_at lo hi (x ∷ z ∷ xs) p ys last d l h = region_at lo hi (z ∷ xs) p ys last d l h

  regions_longer : (hi : ℕ) (xs : List (PageValue A)) (p : PageValue A) (ys : List (PageValue A)) → length xs < length (regions_of hi (xs ++ p ∷ ys))
  regions_longer hi xs p ys = omega (arith, regions_length hi (xs ++ p ∷ ys), length-append xs (p ∷ ys))

  module _ (key end first last : ℕ) (pages : List (PageValue A)) (entries : List (EntryValue A)) (h : IsLeafIn key pages end first last entries)
      (s : Spans period 0 (key_end period) pages) (e : end + 1 ≡ key_end period) (below : key < key_end period) where
    pub leaf_at_key : IsLeafAt period key (rows_of_pages pages) (region first last) entries
    leaf_at_key =
        let all = part_spans period key end first last pages (page first entries ∷ []) h s e in
        let high = page_rows_from period (last + 1) (end + 1) h.after (h.high period 0 all) in
        record {
          from = part_from period key end first last pages (page first entries ∷ []) h s e;
          to = part_to period key end first last pages (page first entries ∷ []) h s e below;
          within = part_within period key end first last pages (page first entries ∷ []) h s e;
          before = rows_of_pages h.before;
          after = rows_of_pages h.after;
          parts = ap rows_of_pages h.is ∙ rows_three h.before (page first entries ∷ []) h.after ∙ ap (λ t. rows_of_pages h.before ++ (t ++ rows_of_pages h.after)) (one_rows first entries);
          earlier = page_rows_below period 0 first h.before (h.low period 0 all);
          later = λ k d l. omega (arith, high k d l);
          rising = one_rises period first (last + 1) (page first entries) (h.inside period 0 all);
        }

    pub leaf_of_regions : Contains (regions_of (key_end period) pages) (region first last)
    leaf_of_regions =
        let hi = key_end period in
        let all = part_spans period key end first last pages (page first entries ∷ []) h s e in
        let l = one_wide period first (last + 1) (page first entries) (h.inside period 0 all) in
        let high = subst (λ n. Spans period (last + 1) n h.after) e (h.high period 0 all) in
        subst (λ ps. Contains (regions_of hi ps) (region first last)) (sym h.is)
        (length h.before, regions_longer hi h.before (page first entries) h.after, region_at 0 hi h.before (page first entries) h.after last (region first last) (omega (arith, l)) high)

  -- no row stands past the last page
  pub absent_past : (key hi : ℕ) (name : Name) (ps : List (PageValue A)) → Spans period 0 hi ps → hi ≤ key → IsAbsent period key name (rows_of_pages ps)
  absent_past key hi name ps s past = λ k d l at named. omega (arith, page_rows_below period 0 hi ps s k d l, at, past)

  -- all pages stand around a key of the period
  pub tree_around : (key : ℕ) (v : NodeValue A) (len : ℕ) → IsTree period v len → key < key_end period → AreAround key v.pages
  tree_around key v len t below = record {
    period = period;
    lo = 0;
    hi = key_end period;
    spans = t.spans;
    from = omega arith;
    to = below;
  }

  -- a tree that changes

  module _ (key : ℕ) (row : Row A) (old new : NodeValue A) (len : ℕ) (t : IsTree period old len) (wide : 1 ≤ new.height → 2 ≤ new.width) (filled : AreFilled new.pages) where
    pub tree_grows : GrowsBy key row old.pages new.pages → key ≡ rank_of period row → key < key_end period
        → IsAbsent period key (name_of row) (rows_of_pages old.pages) → length (rows_of_pages old.pages) + 1 < 2 ^ 64 → IsTree period new (len + 1)
    tree_grows g at below absent count =
        let more = adds_length row (rows_of_pages old.pages) (rows_of_pages new.pages) g.adds in
        let n = t.counted in
        record { spans = g.spans period 0 (key_end period) at t.spans (omega arith) below absent; filled = filled; wide = wide; counted = omega (arith, more, n); most = omega (arith, n, count) }

    pub tree_shrinks : DropsFrom key row old.pages new.pages → IsTree period new (len - 1)
    tree_shrinks d =
        let less = adds_length row (rows_of_pages new.pages) (rows_of_pages old.pages) d.adds in
        let n = t.counted in
        let m = t.most in
        record { spans = d.spans period 0 (key_end period) t.spans; filled = filled; wide = wide; counted = omega (arith, less, n); most = omega (arith, m) }

    pub tree_trades : (out : Row A) → TradesIn key out row old.pages new.pages → key ≡ rank_of period row → IsTree period new len
    tree_trades out d at =
        let same = swaps_length out row (rows_of_pages old.pages) (rows_of_pages new.pages) d.swaps in
        record { spans = d.spans period 0 (key_end period) at t.spans; filled = filled; wide = wide; counted = omega (arith, same, t.counted); most = t.most }
