-- A child that has 15 entries or children, evened with the one beside it.
use Rattle.std.proofs.Common.{◌≡◌, ℕ, ◌+◌, ◌<◌, ◌≤◌, ◌⊎◌, inl, inr, List, [], ◌∷◌, ◌++◌, length, get_or, set, refl, sym, ap, subst, ◌∙◌, suc, arith, append_assoc, length-append, Option, Some, None}
use Rattle.std.proofs.lemmas.List.Elements.{All-append, All-cons, All-head, All-tail}
use Rattle.std.specs.List.{All, insert, remove}
use Rattle.st_index.proofs.Climbing.{all_left, all_right}
use Rattle.st_tally.specs.inner.Pages.{PageValue, NodeValue}
use Rattle.st_ubtree.specs.inner.Kids.{HeadAt, IsKid, pages_of}
use Rattle.st_ubtree.specs.inner.Shrinking.{AreWorn, IsKidBeside, IsWorn, Joins, Mends, Reshapes, pages_beside}
use Rattle.st_ubtree.proofs.Joining.{reshapes_inside, reshapes_same}
use Rattle.st_ubtree.proofs.Lifting.{insert_after}
use Rattle.st_ubtree.proofs.Spanning.{pages-append}

pub get_at : {X : Type 0} → (xs : List X) (v : X) (ys : List X) (d : X) → get_or (xs ++ v ∷ ys) (length xs) d ≡ v
get_at [] v ys d = refl
get_at (x ∷ xs) v ys d = get_at xs v ys d

pub set_at : {X : Type 0} → (xs : List X) (v : X) (ys : List X) (w : X) → set (xs ++ v ∷ ys) (length xs) w ≡ xs ++ w ∷ ys
set_at [] v ys w = refl
set_at (x ∷ xs) v ys w = ap (λ t. x ∷ t) (set_at xs v ys w)

pub get_after : {X : Type 0} → (xs : List X) (v r : X) (ys : List X) (d : X) → get_or (xs ++ v ∷ r ∷ ys) (suc (length xs)) d ≡ r
get_after [] v r ys d = refl
get_after (x ∷ xs) v r ys d = get_after xs v r ys d

pub remove_after : {X : Type 0} → (xs : List X) (v r : X) (ys : List X) → remove (xs ++ v ∷ r ∷ ys) (suc (length xs)) ≡ xs ++ v ∷ ys
remove_after [] v r ys = refl
remove_after (x ∷ xs) v r ys = ap (λ t. x ∷ t) (remove_after xs v r ys)

-- the last element, and those before it
pub record Last {X : Type 0} (xs : List X) : Type 0 where
  pub front : List X
  pub last : X
  pub is : xs ≡ front ++ last ∷ []

pub last_of : {X : Type 0} → (x : X) (xs : List X) → Last (x ∷ xs)
last_of x [] = record { front = []; last = x; is = refl }
last_of x (y ∷ ys) = let r = last_of y ys in record { front = x ∷ r.front; last = r.last; is = ap (λ t. x ∷ t) r.is }

module _ {A : Type 0} where
  pub worn_kid : (below : ℕ) (v : NodeValue A) → IsKid below v → IsWorn below v
  worn_kid below v k = record { same_height = k.same_height; not_less = omega (arith, k.not_less); not_more = k.not_more; starts = k.starts; filled = λ h. k.filled }

  pub whole_kid : (below : ℕ) (v : NodeValue A) → IsWorn below v → 16 ≤ v.width → IsKid below v
  whole_kid below v w h = record { same_height = w.same_height; not_less = h; not_more = w.not_more; starts = w.starts; filled = w.filled h }

  -- the worn child and the one beside it
  pub record Pair (below left most : ℕ) (kids : List (NodeValue A)) : Type 0 where
    pub front : List (NodeValue A)
    pub one : NodeValue A
    pub two : NodeValue A
    pub back : List (NodeValue A)
    pub is : kids ≡ front ++ one ∷ two ∷ back
    pub stands : length front ≡ left
    pub in_front : All (IsKid below) front
    pub behind : All (IsKid below) back
    pub one_worn : IsWorn below one
    pub two_worn : IsWorn below two
    pub both : one.width + two.width ≤ most

  pair_behind : (below at left : ℕ) (kids : List (NodeValue A)) (w : AreWorn below at kids) (back : List (NodeValue A)) → back ≡ w.back → w.kid.width < 16
      → left + 1 < length kids → left ≡ at → Pair below left 47 kids
  pair_behind below at left kids w (b ∷ bs) e low fits here =
      let s = w.stands in
      let all = subst (All (IsKid below)) (sym e) w.behind in
      let k = All-head (IsKid below) b bs all in
      record {
        front = w.front;
        one = w.kid;
        two = b;
        back = bs;
        is = w.is ∙ ap (λ ks. w.front ++ w.kid ∷ ks) (sym e);
        stands = s ∙ sym here;
        in_front = w.in_front;
        behind = All-tail (IsKid below) b bs all;
        one_worn = w.worn;
        two_worn = worn_kid below b k;
        both = omega (arith, low, k.not_more);
      }
  pair_behind below at left kids w [] e low fits here =
      absurd (omega (arith, ap length w.is ∙ length-append w.front (w.kid ∷ w.back), w.stands, ap length e, fits, here))

  pair_before : (below at left : ℕ) (kids : List (NodeValue A)) (w : AreWorn below at kids) (f : List (NodeValue A)) → f ≡ w.front → w.kid.width < 16
      → left + 1 ≡ at → Pair below left 47 kids
  pair_before below at left kids w [] q low there =
      absurd (omega (arith, w.stands, ap length q, there))
  pair_before below at left kids w (x ∷ xs) q low there =
      let r = last_of x xs in
      let front_is : w.front ≡ r.front ++ r.last ∷ [] = sym q ∙ r.is in
      let all = subst (All (IsKid below)) front_is w.in_front in
      let k = All-head (IsKid below) r.last [] (all_right (IsKid below) r.front (r.last ∷ []) all) in
      record {
        front = r.front;
        one = r.last;
        two = w.kid;
        back = w.back;
        is = w.is ∙ ap (λ ks. ks ++ w.kid ∷ w.back) front_is ∙ append_assoc r.front (r.last ∷ []) (w.kid ∷ w.back);
        stands = omega (arith, w.stands, ap length front_is ∙ length-append r.front (r.last ∷ []), there);
        in_front = all_left (IsKid below) r.front (r.last ∷ []) all;
        behind = w.behind;
        one_worn = worn_kid below r.last k;
        two_worn = w.worn;
        both = omega (arith, low, k.not_more);
      }

  pair_of : (below at left : ℕ) (kids : List (NodeValue A)) (w : AreWorn below at kids) → w.kid.width < 16 → left + 1 < length kids
      → (left ≡ at) ⊎ (left + 1 ≡ at) → Pair below left 47 kids
  pair_of below at left kids w low fits (inl here) = pair_behind below at left kids w w.back refl low fits here
  pair_of below at left kids w low fits (inr there) = pair_before below at left kids w w.front refl low there

  abbrev pub list_of : Option (NodeValue A) → List (NodeValue A)
  list_of None = []
  list_of (Some s) = s ∷ []

  beside_each : (below : ℕ) (r : Option (NodeValue A)) → IsKidBeside below r → All (IsKid below) (list_of r)
  beside_each below None h = λ k d l. absurd (omega (arith, l))
  beside_each below (Some s) h = All-cons (IsKid below) s [] h (λ k d l. absurd (omega (arith, l)))

  beside_pages : (v : NodeValue A) (r : Option (NodeValue A)) (back : List (NodeValue A)) → pages_of (v ∷ (list_of r ++ back)) ≡ (v.pages ++ pages_beside r) ++ pages_of back
  beside_pages v None back = ap (λ ps. ps ++ pages_of back) (sym (nil v.pages))
    where
      nil : (ps : List (PageValue A)) → ps ++ [] ≡ ps
      nil [] = refl
      nil (p ∷ ps) = ap (λ t. p ∷ t) (nil ps)
  beside_pages v (Some s) back = sym (append_assoc v.pages s.pages (pages_of back))

  beside_length : (r : Option (NodeValue A)) → length (list_of r) ≤ 1
  beside_length None = omega arith
  beside_length (Some s) = omega arith

  pair_head : (first : ℕ) (front : List (NodeValue A)) (one v : NodeValue A) (xs ys : List (NodeValue A)) → v.first ≡ one.first → HeadAt first (front ++ one ∷ xs) → HeadAt first (front ++ v ∷ ys)
  pair_head first [] one v xs ys e h = e ∙ h
  pair_head first (x ∷ front) one v xs ys e h = h

  pub mends_pair : {most : ℕ} (below left : ℕ) (kids new : List (NodeValue A)) (p : Pair below left most kids) (v : NodeValue A)
      (r : Option (NodeValue A)) → Joins below p.one p.two v r → new ≡ p.front ++ v ∷ (list_of r ++ p.back) → Mends below kids new
  mends_pair below left kids new p v r j e =
      let n = ap length p.is ∙ length-append p.front (p.one ∷ p.two ∷ p.back) in
      let m = ap length e ∙ length-append p.front (v ∷ (list_of r ++ p.back)) in
      let q = length-append (list_of r) p.back in
      let s = beside_length r in
      let was : pages_of kids ≡ pages_of p.front ++ ((p.one.pages ++ p.two.pages) ++ pages_of p.back) =
      ap pages_of p.is ∙ pages-append p.front (p.one ∷ p.two ∷ p.back) ∙ ap (λ ps. pages_of p.front ++ ps) (sym (append_assoc p.one.pages p.two.pages (pages_of p.back))) in
      let now : pages_of new ≡ pages_of p.front ++ ((v.pages ++ pages_beside r) ++ pages_of p.back) =
      ap pages_of e ∙ pages-append p.front (v ∷ (list_of r ++ p.back)) ∙ ap (λ ps. pages_of p.front ++ ps) (beside_pages v r p.back) in
      record {
        each = subst (All (IsKid below)) (sym e)
            (All-append (IsKid below) p.front (v ∷ (list_of r ++ p.back)) p.in_front
            (All-cons (IsKid below) v (list_of r ++ p.back) j.kid
            (All-append (IsKid below) (list_of r) p.back (beside_each below r j.beside) p.behind)));
        head = λ first h. subst (HeadAt first) (sym e) (pair_head first p.front p.one v (p.two ∷ p.back) (list_of r ++ p.back) j.first (subst (HeadAt first) p.is h));
        shorter = omega (arith, n, m, q, s);
        at_most_one = omega (arith, n, m, q, s);
        by = subst (λ ps. Reshapes ps (pages_of new)) (sym was) (subst (Reshapes (pages_of p.front ++ ((p.one.pages ++ p.two.pages) ++ pages_of p.back))) (sym now)
            (reshapes_inside (pages_of p.front) (p.one.pages ++ p.two.pages) (v.pages ++ pages_beside r) (pages_of p.back) j.by));
      }

  pub mends_none : (below at : ℕ) (kids : List (NodeValue A)) (w : AreWorn below at kids) → 16 ≤ w.kid.width → Mends below kids kids
  mends_none below at kids w h = record {
    each = subst (All (IsKid below)) (sym w.is) (All-append (IsKid below) w.front (w.kid ∷ w.back) w.in_front (All-cons (IsKid below) w.kid w.back (whole_kid below w.kid w.worn h) w.behind));
    head = λ first k. k;
    shorter = omega arith;
    at_most_one = omega arith;
    by = reshapes_same (pages_of kids) (pages_of kids) refl;
  }

  -- what a code that takes the pair out finds
  pub record Paired (below left most : ℕ) (kids rest : List (NodeValue A)) (kid right : NodeValue A) : Type 0 where
    pub pair : Pair below left most kids
    pub one_is : kid ≡ pair.one
    pub two_is : right ≡ pair.two
    pub rest_is : rest ≡ pair.front ++ pair.one ∷ pair.back

  pub worn_is : (below at : ℕ) (kids : List (NodeValue A)) (w : AreWorn below at kids) (kid : NodeValue A) → kid ≡ get_or kids at kid → kid ≡ w.kid
  worn_is below at kids w kid read = read ∙ ap (λ ks. get_or ks at kid) w.is ∙ ap (λ n. get_or (w.front ++ w.kid ∷ w.back) n kid) (sym w.stands) ∙ get_at w.front w.kid w.back kid

  -- a pair that was taken out
  pub taken_pair : {most : ℕ} (below left : ℕ) (kids rest : List (NodeValue A)) (kid right : NodeValue A) → Pair below left most kids
      → rest ≡ remove kids (left + 1) → right ≡ get_or kids (left + 1) right → kid ≡ get_or rest left kid → Paired below left most kids rest kid right
  taken_pair below left kids rest kid right p removed taken read =
      let s = p.stands in
      let after : left + 1 ≡ suc (length p.front) = omega (arith, s) in
      let rest_is = removed ∙ ap (λ ks. remove ks (left + 1)) p.is ∙ ap (λ n. remove (p.front ++ p.one ∷ p.two ∷ p.back) n) after ∙ remove_after p.front p.one p.two p.back in
      record {
        pair = p;
        one_is = read ∙ ap (λ ks. get_or ks left kid) rest_is ∙ ap (λ n. get_or (p.front ++ p.one ∷ p.back) n kid) (sym s) ∙ get_at p.front p.one p.back kid;
        two_is = taken ∙ ap (λ ks. get_or ks (left + 1) right) p.is ∙ ap (λ n. get_or (p.front ++ p.one ∷ p.two ∷ p.back) n right) after ∙ get_after p.front p.one p.two p.back right;
        rest_is = rest_is;
      }

  pub paired : (below at left : ℕ) (kids rest : List (NodeValue A)) (w : AreWorn below at kids) (first kid right : NodeValue A) → first ≡ get_or kids at first → first.width < 16
      → left + 1 < length kids → (left ≡ at) ⊎ (left + 1 ≡ at) → rest ≡ remove kids (left + 1) → right ≡ get_or kids (left + 1) right
      → kid ≡ get_or rest left kid → Paired below left 47 kids rest kid right
  paired below at left kids rest w first kid right there low fits beside removed taken read =
      let e = ap (λ (v : NodeValue A). v.width) (worn_is below at kids w first there) in
      let p = pair_of below at left kids w (omega (arith, e, low)) fits beside in
      taken_pair below left kids rest kid right p removed taken read

  module _ {most below left : ℕ} {kids rest : List (NodeValue A)} {kid right : NodeValue A} (q : Paired below left most kids rest kid right) where
    pub pair_height : kid.height ≡ below
    pair_height = ap (λ (n : NodeValue A). n.height) q.one_is ∙ q.pair.one_worn.same_height

    pub joins_pair : (v : NodeValue A) (r : Option (NodeValue A)) → Joins kid.height kid right v r → Joins below q.pair.one q.pair.two v r
    joins_pair v r j =
        subst (λ n. Joins n q.pair.one q.pair.two v r) pair_height
        (subst (λ n. Joins kid.height n q.pair.two v r) q.one_is (subst (λ n. Joins kid.height kid n v r) q.two_is j))

    -- the first of a pair is another one then
    one_is_set : (v : NodeValue A) → set rest left v ≡ q.pair.front ++ v ∷ q.pair.back
    one_is_set v =
        let p = q.pair in
        ap (λ ks. set ks left v) q.rest_is ∙ ap (λ n. set (p.front ++ p.one ∷ p.back) n v) (sym p.stands) ∙ set_at p.front p.one p.back v

    pub mends_alone : (v : NodeValue A) → Joins kid.height kid right v None → Mends below kids (set rest left v)
    mends_alone v j = mends_pair below left kids (set rest left v) q.pair v None (joins_pair v None j) (one_is_set v)

    -- and so it is where it becomes another one before the second is taken out
    pub one_set : (v : NodeValue A) → set kids left v ≡ q.pair.front ++ v ∷ q.pair.two ∷ q.pair.back
    one_set v =
        let p = q.pair in
        ap (λ ks. set ks left v) p.is ∙ ap (λ n. set (p.front ++ p.one ∷ p.two ∷ p.back) n v) (sym p.stands) ∙ set_at p.front p.one (p.two ∷ p.back) v

    pub pair_after : left + 1 ≡ suc (length q.pair.front)
    pair_after = omega (arith, q.pair.stands)

    pub pair_closed : (v : NodeValue A) → remove (set kids left v) (left + 1) ≡ set rest left v
    pair_closed v =
        let p = q.pair in
        ap (λ ks. remove ks (left + 1)) (one_set v) ∙ ap (λ n. remove (p.front ++ v ∷ p.two ∷ p.back) n) pair_after
        ∙ remove_after p.front v p.two p.back ∙ sym (one_is_set v)

    pub both_are : (v s : NodeValue A) → insert (set rest left v) (left + 1) s ≡ q.pair.front ++ v ∷ s ∷ q.pair.back
    both_are v s = ap (λ ks. insert ks (left + 1) s) (one_is_set v) ∙ insert_after q.pair.front v q.pair.back s (left + 1) pair_after

    pub mends_both : (v s : NodeValue A) → Joins kid.height kid right v (Some s) → Mends below kids (insert (set rest left v) (left + 1) s)
    mends_both v s j = mends_pair below left kids (insert (set rest left v) (left + 1) s) q.pair v (Some s) (joins_pair v (Some s) j) (both_are v s)

  pub joins_worn : {below left : ℕ} {kids rest : List (NodeValue A)} {kid right : NodeValue A} → Paired below left 47 kids rest kid right
      → IsWorn kid.height kid × IsWorn kid.height right × (kid.width + right.width ≤ 47)
  joins_worn {below = below} {kid = kid} {right = right} q =
      let e = sym (pair_height q) in (
        subst (λ n. IsWorn n kid) e (subst (IsWorn below) (sym q.one_is) q.pair.one_worn),
        subst (λ n. IsWorn n right) e (subst (IsWorn below) (sym q.two_is) q.pair.two_worn),
        omega (arith, ap (λ (n : NodeValue A). n.width) q.one_is, ap (λ (n : NodeValue A). n.width) q.two_is, q.pair.both),
      )
