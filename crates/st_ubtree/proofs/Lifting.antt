-- A node over children, where one child takes a row.
use Rattle.std.proofs.Common.{◌≡◌, ℕ, ◌+◌, ◌<◌, ◌≤◌, List, [], ◌∷◌, ◌++◌, length, get_or, set, take, drop, refl, sym, ap, subst, ◌∙◌, suc, zero}
use Rattle.std.proofs.Common.{arith, append_assoc, length-append, take-append-drop, length-set, length-take-le, Option, Some}
use Rattle.std.proofs.Common.{None, Vec, vec_capacity}
use Rattle.std.proofs.lemmas.List.{get_or-set_same, set_split, length-drop}
use Rattle.std.proofs.lemmas.List.Elements.{All-append, All-cons, All-tail}
use Rattle.std.specs.List.{All, insert}
use Rattle.std.specs.Prelude.{IfSome}
use Rattle.st_index.specs.declared.row.Row.{Row}
use Rattle.st_index.specs.inner.Entries.{EntryValue}
use Rattle.st_index.proofs.Climbing.{all_left, all_right}
use Rattle.st_index.proofs.Putting.{split_read}
use Rattle.st_tally.specs.inner.Marks.{HasAt}
use Rattle.st_tally.specs.inner.Pages.{NodeValue, entries_of_pages}
use Rattle.st_ubtree.specs.inner.Kids.{AreWide, GrowsBy, HeadAt, IsKid, Starts, pages_of, widths_of}
use Rattle.st_ubtree.specs.inner.Splits.{chains_of}
use Rattle.st_ubtree.specs.inner.Growing.{AreKids, Grows, IsRoomFor, SplitsIfFull}
use Rattle.st_ubtree.specs.inner.Nodes.{IsInnerNode, inner_node}
use Rattle.st_ubtree.proofs.Spanning.{entries-append, pages-append, pages_split}
use Rattle.st_ubtree.proofs.Inside.{kid_grows}
use Rattle.st_ubtree.proofs.Halving.{kids_start, kids_wide}
use Rattle.st_ubtree.proofs.Over.{IsKidFor, kid_is, over_pages}
use Rattle.st_ubtree.specs.declared.node.Node.TheInside.{Inside}
use Rattle.st_ubtree.specs.declared.node.aside.Aside.{Aside}
use Rattle.st_key.specs.Key.{rank}

pub insert_after : {X : Type 0} → (xs : List X) (v : X) (ys : List X) (s : X) (j : ℕ) → j ≡ suc (length xs) → insert (xs ++ v ∷ ys) j s ≡ xs ++ v ∷ s ∷ ys
insert_after xs v ys s j e = ap (λ n. insert (xs ++ v ∷ ys) n s) e ∙ at xs
  where
    at : (zs : List _) → insert (zs ++ v ∷ ys) (suc (length zs)) s ≡ zs ++ v ∷ s ∷ ys
    at [] = refl
    at (z ∷ zs) = ap (λ t. z ∷ t) (at zs)

module _ {A : Type 0} where
  pub kid_stays : (key : ℕ) (row : Row A) (below : ℕ) (kid v : NodeValue A) → IsKid below kid → Grows key row kid v None → IsKid below v
  kid_stays key row below kid v k g = record {
    same_height = g.height ∙ k.same_height;
    not_less = omega (arith, k.not_less, g.widths.0);
    not_more = g.widths.1;
    starts = g.starts k.starts;
    filled = g.widths.2 k.filled;
  }

  pub kid_splits : (key : ℕ) (row : Row A) (below : ℕ) (kid v s : NodeValue A) → IsKid below kid → Grows key row kid v (Some s) → IsKid below v × IsKid below s
  kid_splits key row below kid v s k g =
      let e = g.height ∙ k.same_height in
      (subst (λ n. IsKid n v) e g.widths.0, subst (λ n. IsKid n s) e g.widths.1)

  pub head_same : (first : ℕ) (kids : List (NodeValue A)) (i : ℕ) (kid v : NodeValue A) (vs : List (NodeValue A)) → i < length kids
      → kid ≡ get_or kids i kid → v.first ≡ kid.first → HeadAt first kids → HeadAt first (take i kids ++ v ∷ vs)
  head_same first [] i kid v vs l read same h = absurd h
  head_same first (k ∷ ks) zero kid v vs l read same h = same ∙ ap (λ (n : NodeValue A). n.first) read ∙ h
  head_same first (k ∷ ks) (suc i) kid v vs l read same h = h

  module _ (below : ℕ) (kids : List (NodeValue A)) (i : ℕ) (kid : NodeValue A) (l : i < length kids) (read : kid ≡ get_or kids i kid) (each : All (IsKid below) kids) where
    parts : All (IsKid below) (take i kids ++ kid ∷ drop (suc i) kids)
    parts = subst (All (IsKid below)) (split_read kids i kid l read) each

    pub each_with : (vs : List (NodeValue A)) → All (IsKid below) vs → All (IsKid below) (take i kids ++ (vs ++ drop (suc i) kids))
    each_with vs h =
        All-append (IsKid below) (take i kids) (vs ++ drop (suc i) kids) (all_left (IsKid below) (take i kids) (kid ∷ drop (suc i) kids) parts)
        (All-append (IsKid below) vs (drop (suc i) kids) h (All-tail (IsKid below) kid (drop (suc i) kids) (all_right (IsKid below) (take i kids) (kid ∷ drop (suc i) kids) parts)))

    pub that_kid : IsKid below kid
    that_kid = subst (IsKid below) (sym read) (each i kid l)

  pub room_for_kid : {key i : ℕ} {n : Inside A} {kids : Vec (NodeValue A) A} {aside : Aside A} {node kid : NodeValue A} → IsKidFor key n kids aside node i kid
      → (items : List (Row A)) (capacity : ℕ) → IsRoomFor key items capacity (entries_of_pages node.pages) → IsRoomFor key items capacity (entries_of_pages kid.pages)
  room_for_kid {key = key} {i = i} {kids = kids} {kid = kid} k items capacity h =
      let P : EntryValue A → Type 0 = λ e. e.at ≡ key → 0 < length e.rows → length e.rows < capacity in
      let front = pages_of (take i kids.items) in
      let back = pages_of (drop (suc i) kids.items) in
      let is = ap entries_of_pages (over_pages k.over ∙ pages_split kids.items i kid k.chosen.within k.read)
      ∙ entries-append front (kid.pages ++ back) ∙ ap (λ es. entries_of_pages front ++ es) (entries-append kid.pages back) in
      record {
        empty = h.empty;
        enough = all_left P (entries_of_pages kid.pages) (entries_of_pages back)
            (all_right P (entries_of_pages front) (entries_of_pages kid.pages ++ entries_of_pages back) (subst (All P) is h.enough));
      }

  pub alone : (below : ℕ) (v : NodeValue A) → IsKid below v → All (IsKid below) (v ∷ [])
  alone below v h = All-cons (IsKid below) v [] h (λ k d l. absurd (omega (arith, l)))

  pub both : (below : ℕ) (v s : NodeValue A) → IsKid below v → IsKid below s → All (IsKid below) (v ∷ s ∷ [])
  both below v s h k = All-cons (IsKid below) v (s ∷ []) h (alone below s k)

  pub inserted : (kids : List (NodeValue A)) (i : ℕ) (v s : NodeValue A) (j : ℕ) → i < length kids → j ≡ suc i → insert (set kids i v) j s ≡ take i kids ++ v ∷ s ∷ drop (suc i) kids
  inserted kids i v s j l e =
      ap (λ t. insert t j s) (set_split kids i v l) ∙ insert_after (take i kids) v (drop (suc i) kids) s j (e ∙ ap (λ n. suc n) (sym (length-take-le i kids (omega (arith, l)))))

  pub length-inserted : (kids : List (NodeValue A)) (i : ℕ) (v s : NodeValue A) → i < length kids → length (take i kids ++ v ∷ s ∷ drop (suc i) kids) ≡ length kids + 1
  length-inserted kids i v s l =
      let b = length-take-le i kids (omega (arith, l)) in
      omega (arith, length-append (take i kids) (v ∷ s ∷ drop (suc i) kids), b, length-drop (suc i) kids, l)

  head_first : (first : ℕ) (all new : List (NodeValue A)) → new ≡ take 16 all → HeadAt first all → HeadAt first new
  head_first first [] new e h = absurd h
  head_first first (x ∷ xs) new e h = subst (HeadAt first) (sym e) h

  -- the child that is chosen is another one that begins where it did
  module _ {key i : ℕ} {n : Inside A} {kids : Vec (NodeValue A) A} {aside : Aside A} {node kid : NodeValue A} (k : IsKidFor key n kids aside node i kid)
      (v : NodeValue A) (is : IsKid k.over.good.below v) (first : v.first ≡ kid.first) where
    set_each : All (IsKid k.over.good.below) (set kids.items i v)
    set_each =
        let below = k.over.good.below in
        subst (All (IsKid below)) (sym (set_split kids.items i v k.chosen.within))
        (each_with below kids.items i kid k.chosen.within k.read k.over.good.each (v ∷ []) (alone below v is))

    set_head : HeadAt (rank n.first) (set kids.items i v)
    set_head =
        subst (HeadAt (rank n.first)) (sym (set_split kids.items i v k.chosen.within))
        (head_same (rank n.first) kids.items i kid v (drop (suc i) kids.items) k.chosen.within k.read first k.over.good.head)

    pub set_start : Starts (rank n.first) (pages_of (set kids.items i v)) (chains_of (set kids.items i v))
    set_start = kids_start k.over.good.below (rank n.first) (set kids.items i v) set_each set_head

    pub set_wide : AreWide (pages_of (set kids.items i v)) (widths_of (set kids.items i v))
    set_wide = kids_wide k.over.good.below (set kids.items i v) set_each

    pub set_inner : IsInnerNode (rank n.first) n.height (set kids.items i v) (vec_capacity kids)
    set_inner = record {
      below = k.over.good.below;
      higher = k.over.good.higher;
      each = set_each;
      head = set_head;
      not_less = omega (arith, k.over.good.not_less, length-set kids.items i v);
      not_more = omega (arith, k.over.good.not_more, length-set kids.items i v);
      room = k.over.good.room;
    }

  pub set_there : {key i : ℕ} {n : Inside A} {kids : Vec (NodeValue A) A} {aside : Aside A} {node kid : NodeValue A} → IsKidFor key n kids aside node i kid
      → (v : NodeValue A) → HasAt (set kids.items i v) i v
  set_there {i = i} {kids = kids} k v =
      (omega (arith, k.chosen.within, length-set kids.items i v), sym (get_or-set_same kids.items i v v k.chosen.within))

  -- as where it takes a row
  module _ {key i : ℕ} {n : Inside A} {kids : Vec (NodeValue A) A} {aside : Aside A} {node kid : NodeValue A} (k : IsKidFor key n kids aside node i kid)
      (row : Row A) (v : NodeValue A) (g : Grows key row kid v None) where
    grown_kid : IsKid k.over.good.below v
    grown_kid = kid_stays key row k.over.good.below kid v (kid_is k) g

    pub grown_inner : IsInnerNode (rank n.first) n.height (set kids.items i v) (vec_capacity kids)
    grown_inner = set_inner k v grown_kid g.first

    pub grows_alone : Grows key row (inner_node (rank n.first) n.height kids.items) (inner_node (rank n.first) n.height (set kids.items i v)) None
    grows_alone = record {
      first = refl;
      height = refl;
      starts = λ s. set_start k v grown_kid g.first;
      widths = (
        omega (arith, length-set kids.items i v),
        omega (arith, length-set kids.items i v, k.over.good.not_more),
        λ h. set_wide k v grown_kid g.first,
      );
      by = subst (GrowsBy key row (pages_of kids.items))
          (sym (ap pages_of (set_split kids.items i v k.chosen.within) ∙ pages-append (take i kids.items) (v ∷ drop (suc i) kids.items)))
          (kid_grows key row k.over.good.below kids.items i k.chosen.upto kid v.pages k.over.good.each k.chosen.found k.chosen.is k.chosen.within k.read g.by);
    }

  -- and is split
  pub record IsParted (key : ℕ) (row : Row A) (n : Inside A) (kids : Vec (NodeValue A) A) (aside : Aside A) (node : NodeValue A) (i : ℕ)
      (kid v s : NodeValue A) (all : List (NodeValue A)) : Type 0 where
    pub kid_for : IsKidFor key n kids aside node i kid
    pub grows : Grows key row kid v (Some s)
    pub there : all ≡ take i kids.items ++ v ∷ s ∷ drop (suc i) kids.items

  module _ {key i : ℕ} {row : Row A} {n : Inside A} {kids : Vec (NodeValue A) A} {aside : Aside A} {node kid v s : NodeValue A} {all : List (NodeValue A)}
      (p : IsParted key row n kids aside node i kid v s all) where
    all_each : All (IsKid p.kid_for.over.good.below) all
    all_each =
        let k = p.kid_for in
        let below = k.over.good.below in
        let both_are = kid_splits key row below kid v s (kid_is k) p.grows in
        subst (All (IsKid below)) (sym p.there)
        (each_with below kids.items i kid k.chosen.within k.read k.over.good.each (v ∷ s ∷ []) (both below v s both_are.0 both_are.1))

    all_head : HeadAt (rank n.first) all
    all_head =
        let k = p.kid_for in
        subst (HeadAt (rank n.first)) (sym p.there)
        (head_same (rank n.first) kids.items i kid v (s ∷ drop (suc i) kids.items) k.chosen.within k.read p.grows.first k.over.good.head)

    pub all_wide : length all ≡ length kids.items + 1
    all_wide = ap length p.there ∙ length-inserted kids.items i v s p.kid_for.chosen.within

    pub all_kids : AreKids n.height all
    all_kids = record { below = p.kid_for.over.good.below; higher = p.kid_for.over.good.higher; each = all_each }

    by_both : GrowsBy key row (pages_of kids.items) (pages_of all)
    by_both =
        let k = p.kid_for in
        let good = k.over.good in
        subst (GrowsBy key row (pages_of kids.items))
        (sym (ap pages_of p.there ∙ pages-append (take i kids.items) (v ∷ s ∷ drop (suc i) kids.items)
        ∙ ap (λ t. pages_of (take i kids.items) ++ t) (sym (append_assoc v.pages s.pages (pages_of (drop (suc i) kids.items))))))
        (kid_grows key row good.below kids.items i k.chosen.upto kid (v.pages ++ s.pages) good.each k.chosen.found k.chosen.is k.chosen.within k.read p.grows.by)

    low_each : All (IsKid p.kid_for.over.good.below) (take 16 all)
    low_each =
        let below = p.kid_for.over.good.below in
        all_left (IsKid below) (take 16 all) (drop 16 all) (subst (All (IsKid below)) (sym (take-append-drop 16 all)) all_each)

    pub parted_inner : (new : List (NodeValue A)) (capacity : ℕ) (r : Option (NodeValue A)) → 33 ≤ capacity → SplitsIfFull n.height all new r
        → IsInnerNode (rank n.first) n.height new capacity
    parted_inner new capacity None room t = record {
      below = p.kid_for.over.good.below;
      higher = p.kid_for.over.good.higher;
      each = subst (All (IsKid p.kid_for.over.good.below)) (sym t.0) all_each;
      head = subst (HeadAt (rank n.first)) (sym t.0) all_head;
      not_less = omega (arith, ap length t.0, all_wide);
      not_more = omega (arith, ap length t.0, t.1);
      room = room;
    }
    parted_inner new capacity (Some w) room t = record {
      below = p.kid_for.over.good.below;
      higher = p.kid_for.over.good.higher;
      each = subst (All (IsKid p.kid_for.over.good.below)) (sym t.0) low_each;
      head = head_first (rank n.first) all new t.0 all_head;
      not_less = omega (arith, t.1);
      not_more = omega (arith, t.1);
      room = room;
    }

    pub grows_split : (new : List (NodeValue A)) (r : Option (NodeValue A)) → SplitsIfFull n.height all new r
        → Grows key row (inner_node (rank n.first) n.height kids.items) (inner_node (rank n.first) n.height new) r
    grows_split new None t =
        let there = subst (All (IsKid p.kid_for.over.good.below)) (sym t.0) all_each in
        let at = subst (HeadAt (rank n.first)) (sym t.0) all_head in
        record {
          first = refl;
          height = refl;
          starts = λ w. kids_start p.kid_for.over.good.below (rank n.first) new there at;
          widths = (omega (arith, ap length t.0, all_wide), omega (arith, ap length t.0, t.1), λ w. kids_wide p.kid_for.over.good.below new there);
          by = subst (λ ks. GrowsBy key row (pages_of kids.items) (pages_of ks)) (sym t.0) by_both;
        }
    grows_split new (Some w) t =
        let below = p.kid_for.over.good.below in
        let low = subst (All (IsKid below)) (sym t.0) low_each in
        let start = kids_start below (rank n.first) new low (head_first (rank n.first) all new t.0 all_head) in
        let joined : pages_of new ++ w.pages ≡ pages_of all =
        ap (λ ks. pages_of ks ++ w.pages) t.0 ∙ ap (λ ps. pages_of (take 16 all) ++ ps) t.3 ∙ sym (pages-append (take 16 all) (drop 16 all)) ∙ ap pages_of (take-append-drop 16 all) in
        record {
          first = refl;
          height = refl;
          starts = λ z. start;
          widths = (record { same_height = refl; not_less = omega (arith, t.1); not_more = omega (arith, t.1); starts = start; filled = kids_wide below new low }, t.2);
          by = subst (GrowsBy key row (pages_of kids.items)) (sym joined) by_both;
        }

  pub split_full : (height : ℕ) (all new : List (NodeValue A)) (r : Option (NodeValue A)) (P : Type 0) → SplitsIfFull height all new r → (length all ≡ 33 → P) → IfSome r (λ _. P)
  split_full height all new None P t f = tt
  split_full height all new (Some w) P t f = f t.4
