-- What putting a row in another's place does to a page, and to a node over the child that it stands under.
use Rattle.std.proofs.Common.{◌≡◌, ℕ, List, [], ◌∷◌, ◌++◌, length, set, take, drop, refl, sym, ap, subst, ◌∙◌, suc, arith}
use Rattle.std.proofs.Common.{append_assoc, length-set, Result, Ok, Err}
use Rattle.std.proofs.lemmas.List.{set_split}
use Rattle.std.proofs.lemmas.List.Elements.{All-head}
use Rattle.std.specs.Prelude.{IfOk, OnErr}
use Rattle.st_key.specs.declared.period.Period.{Period}
use Rattle.st_index.specs.declared.row.Row.{Row}
use Rattle.st_index.specs.inner.Entries.{Name, name_of, EntryValue, EntriesRise, rank_of, rows_of}
use Rattle.st_index.specs.inner.Index.{IsAbsent, Swaps}
use Rattle.st_ubtree.specs.inner.Nodes.{IsInnerNode, inner_node}
use Rattle.st_tally.specs.inner.Pages.{page_node}
use Rattle.st_tally.specs.inner.Pages.{NodeValue, IsFilled, rows_of_pages}
use Rattle.st_ubtree.specs.inner.Kids.{IsKid, pages_of}
use Rattle.st_ubtree.specs.inner.Shrinking.{HasNone}
use Rattle.st_ubtree.specs.inner.Trading.{Keeps, TradesIn}
use Rattle.st_ubtree.proofs.Inside.{rows_three}
use Rattle.st_ubtree.proofs.Lifting.{set_inner, set_start, set_wide}
use Rattle.st_ubtree.proofs.Over.{IsKidFor, kid_is}
use Rattle.st_ubtree.specs.declared.node.Node.TheInside.{Inside}
use Rattle.st_ubtree.specs.declared.node.aside.Aside.{Aside}
use Rattle.st_key.specs.Key.{rank}
use Rattle.std.proofs.Common.{Vec, vec_capacity}
use Rattle.st_ubtree.proofs.Shrinking.{none_in_kids, none_in_page}
use Rattle.st_ubtree.proofs.Spanning.{pages-append, pages_split, spans_mid, spans_put}
use Rattle.st_ubtree.proofs.Splitting.{wider_page, one_rows, page}

module _ {A : Type 0} where
  pub page_trades : (key : ℕ) (row : Row A) (first : ℕ) (old new : List (EntryValue A)) (r : Result (Row A) (Row A))
      → IfOk r (λ out. Swaps out row (rows_of old) (rows_of new) × (name_of out ≡ name_of row))
      → IfOk r (λ out. (period : Period) (lo hi : ℕ) → EntriesRise period lo hi old → rank_of period out ≡ key)
      → ((period : Period) (lo hi : ℕ) → key ≡ rank_of period row → EntriesRise period lo hi old → EntriesRise period lo hi new)
      → IfOk r (λ out. TradesIn key out row (page first old ∷ []) (page first new ∷ []))
  page_trades key row first old new (Ok out) ok placed rising = record {
    swaps = subst (λ t. Swaps out row t (rows_of_pages (page first new ∷ []))) (sym (one_rows first old)) (subst (λ t. Swaps out row (rows_of old) t) (sym (one_rows first new)) ok.0);
    spans = λ period lo hi at h. (h.0, (h.1.0, h.1.1, rising period lo h.1.0 at h.1.2, h.1.3));
    placed = λ period lo hi h. placed period lo h.1.0 h.1.2;
  }
  page_trades key row first old new (Err back) ok placed rising = tt

  pub page_named : (row : Row A) (old new : List (Row A)) (r : Result (Row A) (Row A)) → IfOk r (λ out. Swaps out row old new × (name_of out ≡ name_of row)) → IfOk r (λ out. name_of out ≡ name_of row)
  page_named row old new (Ok out) h = h.1
  page_named row old new (Err back) h = tt

  pub page_lacks : (key : ℕ) (name : Name) (first : ℕ) (es : List (EntryValue A)) (r : Result (Row A) (Row A))
      → OnErr r ((period : Period) (lo hi : ℕ) → EntriesRise period lo hi es → IsAbsent period key name (rows_of es))
      → OnErr r (HasNone key name (page first es ∷ []))
  page_lacks key name first es (Ok out) h = tt
  page_lacks key name first es (Err back) h = none_in_page key name first es h

  pub page_keeps : (first height : ℕ) (old new : List (EntryValue A)) → length new ≡ length old → Keeps (page_node first height old) (page_node first height new)
  page_keeps first height old new e = record {
    first = refl;
    height = refl;
    width = e;
    starts = λ s. s;
    filled = λ h. let f = All-head IsFilled (page first old) [] h.keys in wider_page first old new (omega (arith, e)) (omega (arith, e, f.not_more)) h;
  }

  swaps_inside : (out row : Row A) (xs ys zs ws : List (Row A)) → Swaps out row ys zs → Swaps out row (xs ++ (ys ++ ws)) (xs ++ (zs ++ ws))
  swaps_inside out row xs ys zs ws h = record {
    front = xs ++ h.front;
    back = h.back ++ ws;
    old_is = ap (λ t. xs ++ (t ++ ws)) h.old_is ∙ simp append_assoc;
    new_is = ap (λ t. xs ++ (t ++ ws)) h.new_is ∙ simp append_assoc;
  }

  pub kept_kid : (below : ℕ) (kid v : NodeValue A) → IsKid below kid → Keeps kid v → IsKid below v
  kept_kid below kid v is k = record {
    same_height = k.height ∙ is.same_height;
    not_less = omega (arith, is.not_less, k.width);
    not_more = omega (arith, is.not_more, k.width);
    starts = k.starts is.starts;
    filled = k.filled is.filled;
  }

  module _ {key i : ℕ} {n : Inside A} {kids : Vec (NodeValue A) A} {aside : Aside A} {node kid : NodeValue A} (k : IsKidFor key n kids aside node i kid) (v : NodeValue A) where
    pub kid_trades : (row : Row A) (r : Result (Row A) (Row A)) → IfOk r (λ out. TradesIn key out row kid.pages v.pages)
        → IfOk r (λ out. TradesIn key out row (pages_of kids.items) (pages_of (set kids.items i v)))
    kid_trades row (Err back) h = tt
    kid_trades row (Ok out) g =
        let front = pages_of (take i kids.items) in
        let back = pages_of (drop (suc i) kids.items) in
        let was = pages_split kids.items i kid k.chosen.within k.read in
        let now : pages_of (set kids.items i v) ≡ front ++ (v.pages ++ back) =
        ap pages_of (set_split kids.items i v k.chosen.within) ∙ pages-append (take i kids.items) (v ∷ drop (suc i) kids.items) in
        subst (λ ps. TradesIn key out row ps (pages_of (set kids.items i v))) (sym was) (subst (TradesIn key out row (front ++ (kid.pages ++ back))) (sym now) (record {
          swaps = subst (λ t. Swaps out row t (rows_of_pages (front ++ (v.pages ++ back)))) (sym (rows_three front kid.pages back))
              (subst (λ t. Swaps out row (rows_of_pages front ++ (rows_of_pages kid.pages ++ rows_of_pages back)) t) (sym (rows_three front v.pages back))
              (swaps_inside out row (rows_of_pages front) (rows_of_pages kid.pages) (rows_of_pages v.pages) (rows_of_pages back) g.swaps));
          spans = λ period lo hi at h. spans_put period lo hi front kid.pages v.pages back (λ a b s. g.spans period a b at s) h;
          placed = λ period lo hi h. let mid = spans_mid period lo hi front kid.pages back h in g.placed period mid.0 mid.1 mid.2;
        }))

    pub kids_lack : (name : Name) (r : Result (Row A) (Row A)) → OnErr r (HasNone key name kid.pages) → OnErr r (HasNone key name node.pages)
    kids_lack name (Ok out) h = tt
    kids_lack name (Err back) h = none_in_kids k name h

    -- the child that is kept
    kept_is : Keeps kid v → IsKid k.over.good.below v
    kept_is keeps = kept_kid k.over.good.below kid v (kid_is k) keeps

    pub kids_keep : Keeps kid v → Keeps (inner_node (rank n.first) n.height kids.items) (inner_node (rank n.first) n.height (set kids.items i v))
    kids_keep keeps = record {
      first = refl;
      height = refl;
      width = length-set kids.items i v;
      starts = λ s. set_start k v (kept_is keeps) keeps.first;
      filled = λ h. set_wide k v (kept_is keeps) keeps.first;
    }

    pub kept_inner : Keeps kid v → IsInnerNode (rank n.first) n.height (set kids.items i v) (vec_capacity kids)
    kept_inner keeps = set_inner k v (kept_is keeps) keeps.first
