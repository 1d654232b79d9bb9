-- The pages that a search finds.
use Rattle.std.proofs.Common.{◌≡◌, ℕ, ◌+◌, ◌-◌, ◌<◌, ◌≤◌, max, List, [], ◌++◌, length, get_or, take, drop, refl, sym, ap, subst, ◌∙◌, suc, arith, append_assoc, drop-cons, true, false, not, ltb}
use Rattle.std.proofs.lemmas.List.{append-nil, drop_all}
use Rattle.std.specs.List.{All}
use Rattle.std.specs.List.Sorted.{IsPartitionedBy, IsPartitionPoint}
use Rattle.st_ubtree.specs.declared.node.Kids.{Kids}
use Rattle.st_ubtree.specs.declared.node.Kids.TheVariants.{Page, Inner}
use Rattle.st_tally.specs.inner.Pages.{PageValue, NodeValue}
use Rattle.st_ubtree.specs.inner.Kids.{Spans, StartsAt, IsKid, pages_of}
use Rattle.st_ubtree.specs.inner.Nodes.{IsNode, pages_under}
use Rattle.st_ubtree.specs.inner.Growing.{IsPartIn}
use Rattle.st_ubtree.proofs.Halving.{kids_start}
use Rattle.st_ubtree.proofs.Spanning.{Found, found_kid, pages_split, spans_join, starts_there}
use Rattle.st_key.specs.declared.period.Period.{Period}

module _ {A : Type 0} where
  -- a node's pages start at its first key
  pub node_starts : (first height : ℕ) (kids : Kids A) → IsNode first height kids → StartsAt first (pages_under first kids)
  node_starts first height (Page entries) h = refl
  node_starts first height (Inner kids aside) h = (kids_start h.below first kids.items h.each h.head).0

  -- all pages are a part
  pub part_all : (key end first : ℕ) (pages : List (PageValue A)) → StartsAt first pages → IsPartIn key pages end first end pages
  part_all key end first pages start = record {
    before = [];
    after = [];
    is = sym (append-nil pages);
    from = λ period lo s l. omega (arith, is_lo period lo s, l);
    to = λ period lo s l. l;
    low = λ period lo s. sym (is_lo period lo s);
    inside = λ period lo s. subst (λ n. Spans period n (end + 1) pages) (sym (is_lo period lo s)) s;
    high = λ period lo s. refl;
  }
    where
      is_lo : (period : Period) (lo : ℕ) → Spans period lo (end + 1) pages → first ≡ lo
      is_lo period lo s = (starts_there period first lo (end + 1) pages start s).0

  -- a part of a part is a part
  pub part_of_part : (key end f l first last : ℕ) (pages mid part : List (PageValue A)) → IsPartIn key pages end f l mid → IsPartIn key mid l first last part → IsPartIn key pages end first last part
  part_of_part key end f l first last pages mid part o i = record {
    before = o.before ++ i.before;
    after = i.after ++ o.after;
    is = o.is ∙ ap (λ ps. o.before ++ (ps ++ o.after)) i.is ∙ simp append_assoc;
    from = λ period lo s a. i.from period f (o.inside period lo s) (o.from period lo s a);
    to = λ period lo s a. i.to period f (o.inside period lo s) (o.to period lo s a);
    low = λ period lo s. spans_join period lo f first o.before i.before (o.low period lo s) (i.low period f (o.inside period lo s));
    inside = λ period lo s. i.inside period f (o.inside period lo s);
    high = λ period lo s. spans_join period (last + 1) (l + 1) (end + 1) i.after o.after (i.high period f (o.inside period lo s)) (o.high period lo s);
  }

  module _ (key below end : ℕ) (kids : List (NodeValue A)) (i n : ℕ) (kid : NodeValue A) (each : All (IsKid below) kids)
      (found : IsPartitionedBy (λ (v : NodeValue A). not (ltb key v.first)) kids
      → IsPartitionPoint (λ (v : NodeValue A). not (ltb key v.first) ≡ true) (λ (v : NodeValue A). not (ltb key v.first) ≡ false) kids n)
      (is : i + 1 ≡ max n 1) (l : i < length kids) (read : kid ≡ get_or kids i kid) where
    f_at : (period : Period) (lo : ℕ) → Spans period lo (end + 1) (pages_of kids) → Found period key lo (end + 1) kids i kid
    f_at period lo s = found_kid period key below lo (end + 1) kids each s n i kid found is l read

    begins : (period : Period) (a b : ℕ) → Spans period a b kid.pages → kid.first ≡ a
    begins period a b s = let k : IsKid below kid = subst (IsKid below) (sym read) (each i kid l) in (starts_there period kid.first a b kid.pages k.starts.0 s).0

    -- the pages of the child that a search finds
    pub part_kid : (last : ℕ) → ((period : Period) (lo : ℕ) (f : Found period key lo (end + 1) kids i kid) → last + 1 ≡ f.b) → IsPartIn key (pages_of kids) end kid.first last kid.pages
    part_kid last ends = record {
      before = pages_of (take i kids);
      after = pages_of (drop (suc i) kids);
      is = pages_split kids i kid l read;
      from = λ period lo s k. let f = f_at period lo s in omega (arith, begins period f.a f.b f.mid, f.from k);
      to = λ period lo s k. let f = f_at period lo s in let to = f.to (omega (arith, k)) in omega (arith, ends period lo f, to);
      low = λ period lo s. let f = f_at period lo s in subst (λ m. Spans period lo m (pages_of (take i kids))) (sym (begins period f.a f.b f.mid)) f.low;
      inside = λ period lo s. let f =
          f_at period lo s in subst (λ m. Spans period kid.first m kid.pages) (sym (ends period lo f))
          (subst (λ m. Spans period m f.b kid.pages) (sym (begins period f.a f.b f.mid)) f.mid);
      high = λ period lo s. let f = f_at period lo s in subst (λ m. Spans period m (end + 1) (pages_of (drop (suc i) kids))) (sym (ends period lo f)) f.high;
    }

    pub ends_next : (k : ℕ) (w : NodeValue A) → suc i < length kids → w ≡ get_or kids (suc i) w → k ≡ w.first - 1
        → (period : Period) (lo : ℕ) (f : Found period key lo (end + 1) kids i kid) → k + 1 ≡ f.b
    ends_next k w m at e period lo f =
        let q = drop-cons kids (suc i) w m in
        let c = ap (λ (v : NodeValue A). v.first) at in
        omega (arith, f.next (get_or kids (suc i) w) (drop (suc (suc i)) kids) q, c, f.wide, e)

    pub ends_last : length kids ≤ suc i → (period : Period) (lo : ℕ) (f : Found period key lo (end + 1) kids i kid) → end + 1 ≡ f.b
    ends_last m period lo f = f.last (drop_all (suc i) kids m)
