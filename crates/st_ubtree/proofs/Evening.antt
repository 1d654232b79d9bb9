-- Two pages side by side that are evened, and what this does to the nodes over them.
use Rattle.std.proofs.Common.{◌≡◌, ℕ, ◌+◌, ◌-◌, ◌<◌, ◌≤◌, List, [], ◌∷◌, ◌++◌, length, get_or, set, drop, take, reverse, refl, sym, ap, subst, ◌∙◌}
use Rattle.std.proofs.Common.{suc, zero, inl, inr, arith, append_assoc, length-append, length-set, true, false, Bool, eqb, ltb, if◌then◌else◌, Some}
use Rattle.std.proofs.lemmas.Bool.{cases_lt}
use Rattle.std.proofs.lemmas.List.{append-nil, length-reverse, reverse-append, reverse-reverse, set_split}
use Rattle.std.proofs.lemmas.List.Elements.{All-cons, All-head, All-tail}
use Rattle.std.specs.List.{All, insert}
use Rattle.st_key.specs.declared.period.Period.{Period}
use Rattle.st_index.specs.declared.row.Row.{Row}
use Rattle.st_index.specs.inner.Index.{Adds, IsAbsent}
use Rattle.st_index.specs.inner.Entries.{name_of, rows_of}
use Rattle.st_index.proofs.Climbing.{all_left, all_right}
use Rattle.st_index.proofs.Putting.{split_read}
use Rattle.st_tally.specs.inner.Pages.{PageValue, NodeValue, rows_of_pages}
use Rattle.st_ubtree.specs.inner.Evening.{Evens, HasPairAt, KidsEven, SplitsNone}
use Rattle.st_ubtree.specs.inner.Growing.{AreAround}
use Rattle.st_ubtree.specs.inner.Kids.{GrowsBy, HeadAt, IsKid, Spans, pages_of}
use Rattle.st_ubtree.specs.inner.Nodes.{IsInnerNode, inner_node}
use Rattle.st_ubtree.specs.inner.Shrinking.{Joins, Reshapes}
use Rattle.st_ubtree.specs.inner.Splits.{chains_over, made_nodes, splits, splits_in, splits_with}
use Rattle.st_ubtree.proofs.Joining.{reshapes_inside, reshapes_same}
use Rattle.st_ubtree.proofs.Lifting.{alone, each_with, head_same, that_kid}
use Rattle.st_ubtree.proofs.Mending.{Pair, Paired, both_are, get_after, get_at, joins_pair, mends_both, one_set, pair_after, pair_height, worn_kid}
use Rattle.st_ubtree.proofs.Needing.{chains-append, mid_splits, skip_front, splits_under, with_none}
use Rattle.st_ubtree.proofs.Halving.{chains_length, kids_start, kids_wide}
use Rattle.st_ubtree.proofs.Spanning.{pages-append, pages_split, spans_cut, spans_join}
use Rattle.st_ubtree.proofs.Trading.{kept_kid}

pub with_more : (width height less more : ℕ) → less ≤ more → splits_with width height less ≤ splits_with width height more
with_more width height less more h = by (ltb width 32)
  where
    by : (a : Bool) → (if a then less else if eqb less (height + 1) then less + 1 else less) ≤ (if a then more else if eqb more (height + 1) then more + 1 else more)
    by true = h
    by false = elim (cases_lt less more) [
      | inl under ↦ low (eqb less (height + 1)) (eqb more (height + 1)) under
      | inr over ↦
          let same : less ≡ more = omega (arith, over, h) in
          subst (λ n. (if eqb less (height + 1) then less + 1 else less) ≤ (if eqb n (height + 1) then n + 1 else n)) same (omega arith)
    ]
      where
        low : (a b : Bool) → less < more → (if a then less + 1 else less) ≤ (if b then more + 1 else more)
        low true true l = omega (arith, l)
        low true false l = omega (arith, l)
        low false true l = omega (arith, l)
        low false false l = omega (arith, l)

-- two lists of which the ends face each other, seen from the other side
pub turned : {X : Type 0} (a b c d : List X) → a ++ reverse b ≡ c ++ reverse d → b ++ reverse a ≡ d ++ reverse c
turned a b c d h =
    sym (reverse-append a (reverse b) ∙ ap (λ t. t ++ reverse a) (reverse-reverse b))
    ∙ ap reverse h ∙ reverse-append c (reverse d) ∙ ap (λ t. t ++ reverse c) (reverse-reverse d)

pub met_length : {X : Type 0} (a b c d : List X) → a ++ reverse b ≡ c ++ reverse d → length a + length b ≡ length c + length d
met_length a b c d h =
    omega (arith, ap length h, length-append a (reverse b), length-append c (reverse d), length-reverse b, length-reverse d)

-- the two that stand from a place on
record TwoAt {X : Type 0} (left : ℕ) (xs : List X) : Type 0 where
  front : List X
  one : X
  two : X
  back : List X
  is : xs ≡ front ++ one ∷ two ∷ back
  stands : length front ≡ left

two_at : {X : Type 0} (xs : List X) (left : ℕ) → left + 1 < length xs → TwoAt left xs
two_at [] left l = absurd (omega (arith, l))
two_at (x ∷ []) left l = absurd (omega (arith, l))
two_at (x ∷ y ∷ ys) zero l = record { front = []; one = x; two = y; back = ys; is = refl; stands = refl }
two_at (x ∷ y ∷ ys) (suc left) l =
    let r = two_at (y ∷ ys) left (omega (arith, l)) in
    record { front = x ∷ r.front; one = r.one; two = r.two; back = r.back; is = ap (λ t. x ∷ t) r.is; stands = ap (λ n. suc n) r.stands }

set_after : {X : Type 0} (xs : List X) (v w : X) (ys : List X) (s : X) → set (xs ++ v ∷ w ∷ ys) (suc (length xs)) s ≡ xs ++ v ∷ s ∷ ys
set_after [] v w ys s = refl
set_after (x ∷ xs) v w ys s = ap (λ t. x ∷ t) (set_after xs v w ys s)

module _ {A : Type 0} where
  -- pages of which some are cut anew, between the same bounds

  past_splits : (period : Period) (key lo a b hi : ℕ) (front mid back : List (PageValue A)) (xs ys zs : List ℕ) → Spans period lo a front
      → Spans period a b mid → Spans period b hi back → length xs ≡ length front → length ys ≡ length mid → b ≤ key → key < hi
      → splits_in (front ++ (mid ++ back)) (xs ++ (ys ++ zs)) key ≡ splits_in back zs key
  past_splits period key lo a b hi front mid [] xs ys zs f m r u v over under = absurd (omega (arith, r, over, under))
  past_splits period key lo a b hi front mid (p ∷ ps) xs ys zs f m r u v over under =
      let i = length-append xs ys in
      let j = length-append front mid in
      ap (λ qs. splits_in qs (xs ++ (ys ++ zs)) key) (sym (append_assoc front mid (p ∷ ps)))
      ∙ ap (λ ns. splits_in ((front ++ mid) ++ p ∷ ps) ns key) (sym (append_assoc xs ys zs))
      ∙ skip_front period key lo b hi (front ++ mid) p ps (xs ++ ys) zs (spans_join period lo a b front mid f m) r.0 over (omega (arith, i, j, u, v))

  splits_parts : (period : Period) (key lo a b hi : ℕ) (front old new back : List (PageValue A)) (xs ys zs ws : List ℕ) → Spans period lo a front
      → Spans period a b old → Spans period a b new → Spans period b hi back → length xs ≡ length front → length ys ≡ length old → length zs ≡ length new
      → lo ≤ key → key < hi → (a ≤ key → key < b → splits_in new zs key ≤ splits_in old ys key)
      → splits_in (front ++ (new ++ back)) (xs ++ (zs ++ ws)) key ≤ splits_in (front ++ (old ++ back)) (xs ++ (ys ++ ws)) key
  splits_parts period key lo a b hi front old new back xs ys zs ws f o n r u v w from to less =
      elim (cases_lt key a) [
        | inl low ↦
            let one = mid_splits period key lo lo a hi [] front (new ++ back) [] xs (zs ++ ws) refl f (spans_join period a b hi new back n r) from low refl u in
            let two = mid_splits period key lo lo a hi [] front (old ++ back) [] xs (ys ++ ws) refl f (spans_join period a b hi old back o r) from low refl u in
            omega (arith, one, two)
        | inr over ↦
            elim (cases_lt key b) [
              | inl under ↦
                  let two = mid_splits period key lo a b hi front old back xs ys ws f o r over under u v in
                  omega (arith, mid_splits period key lo a b hi front new back xs zs ws f n r over under u w, two, less over under)
              | inr past ↦
                  let two = past_splits period key lo a b hi front old back xs ys ws f o r u v past to in
                  omega (arith, past_splits period key lo a b hi front new back xs zs ws f n r u w past to, two)
            ]
      ]

  -- the same of children

  pages_three : (front mid back : List (NodeValue A)) → pages_of (front ++ (mid ++ back)) ≡ pages_of front ++ (pages_of mid ++ pages_of back)
  pages_three front mid back = pages-append front (mid ++ back) ∙ ap (λ ps. pages_of front ++ ps) (pages-append mid back)

  chains_three : (w : ℕ) (front mid back : List (NodeValue A)) → chains_over w (front ++ (mid ++ back)) ≡ chains_over w front ++ (chains_over w mid ++ chains_over w back)
  chains_three w front mid back = chains-append w front (mid ++ back) ∙ ap (λ ns. chains_over w front ++ ns) (chains-append w mid back)

  splits_three : (w key : ℕ) (front mid back : List (NodeValue A)) → splits_in (pages_of (front ++ (mid ++ back))) (chains_over w (front ++ (mid ++ back))) key
      ≡ splits_in (pages_of front ++ (pages_of mid ++ pages_of back)) (chains_over w front ++ (chains_over w mid ++ chains_over w back)) key
  splits_three w key front mid back =
      ap (λ ps. splits_in ps (chains_over w (front ++ (mid ++ back))) key) (pages_three front mid back)
      ∙ ap (λ ns. splits_in (pages_of front ++ (pages_of mid ++ pages_of back)) ns key) (chains_three w front mid back)

  splits_less : (below w key : ℕ) (front old new back : List (NodeValue A)) → All (IsKid below) (front ++ (old ++ back)) → All (IsKid below) new
      → ((period : Period) (a b : ℕ) → Spans period a b (pages_of old) → Spans period a b (pages_of new))
      → ((period : Period) (a b : ℕ) → Spans period a b (pages_of old) → a ≤ key → key < b → splits_in (pages_of new) (chains_over w new) key ≤ splits_in (pages_of old) (chains_over w old) key)
      → AreAround key (pages_of (front ++ (old ++ back)))
      → splits_in (pages_of (front ++ (new ++ back))) (chains_over w (front ++ (new ++ back))) key ≤ splits_in (pages_of (front ++ (old ++ back))) (chains_over w (front ++ (old ++ back))) key
  splits_less below w key front old new back each there spans less o =
      let c = spans_cut o.period o.lo o.hi (pages_of front) (pages_of old ++ pages_of back) (subst (Spans o.period o.lo o.hi) (pages_three front old back) o.spans) in
      let d = spans_cut o.period c.at o.hi (pages_of old) (pages_of back) c.high in
      let in_front = all_left (IsKid below) front (old ++ back) each in
      let in_old = all_left (IsKid below) old back (all_right (IsKid below) front (old ++ back) each) in
      let parts = splits_parts o.period key o.lo c.at d.at o.hi (pages_of front) (pages_of old) (pages_of new) (pages_of back) (chains_over w front)
      (chains_over w old) (chains_over w new) (chains_over w back)
      c.low d.low (spans o.period c.at d.at d.low) d.high (chains_length w below front in_front) (chains_length w below old in_old)
      (chains_length w below new there) o.from o.to (less o.period c.at d.at d.low) in
      omega (arith, splits_three w key front new back, splits_three w key front old back, parts)

  -- two pages side by side that no new row splits

  none_split : (period : Period) (below w key a b : ℕ) (v s : NodeValue A) → All (IsKid below) (v ∷ s ∷ []) → SplitsNone v → SplitsNone s
      → Spans period a b (pages_of (v ∷ s ∷ [])) → a ≤ key → key < b → splits_in (pages_of (v ∷ s ∷ [])) (chains_over w (v ∷ s ∷ [])) key ≡ 0
  none_split period below w key a b v s each one two h from to =
      let c = spans_cut period a b v.pages (pages_of (s ∷ [])) h in
      let d = spans_cut period c.at b s.pages [] c.high in
      let e = d.high in
      elim (cases_lt key c.at) [
        | inl low ↦
            splits_under period key below w a a c.at b [] (s ∷ []) v each refl c.low c.high from low
            ∙ ap (splits_with w v.height) (one key) ∙ with_none w v.height
        | inr over ↦
            splits_under period key below w a c.at d.at b (v ∷ []) [] s each (spans_join period a c.at c.at v.pages [] c.low refl) d.low d.high over (omega (arith, to, e))
            ∙ ap (splits_with w s.height) (two key) ∙ with_none w s.height
      ]

  -- a child that splits no more than it did

  one_splits : (period : Period) (below w key a b : ℕ) (kid v : NodeValue A) → IsKid below kid → IsKid below v → Evens kid v
      → Spans period a b (pages_of (kid ∷ [])) → a ≤ key → key < b
      → splits_in (pages_of (v ∷ [])) (chains_over w (v ∷ [])) key ≤ splits_in (pages_of (kid ∷ [])) (chains_over w (kid ∷ [])) key
  one_splits period below w key a b kid v k l h s from to =
      let c = spans_cut period a b kid.pages [] s in
      let under : key < c.at = omega (arith, to, c.high) in
      let none : All (IsKid below) [] = λ i d n. absurd (omega (arith, n)) in
      let was = splits_under period key below w a a c.at b [] [] kid (All-cons (IsKid below) kid [] k none) refl c.low c.high from under in
      let now = splits_under period key below w a a c.at b [] [] v (All-cons (IsKid below) v [] l none) refl (h.by.spans period a c.at c.low) c.high from under in
      let less = h.splits key (record { period = period; lo = a; hi = c.at; spans = c.low; from = from; to = under }) in
      let same = ap (λ n. splits_with w n (splits v key)) h.keeps.height in
      omega (arith, was, now, with_more w kid.height (splits v key) (splits kid key) less, same)

  -- any two children side by side

  pub any_pair : (below left : ℕ) (kids : List (NodeValue A)) → All (IsKid below) kids → left + 1 < length kids → Pair below left 64 kids
  any_pair below left kids each l =
      let t = two_at kids left l in
      let all = subst (All (IsKid below)) t.is each in
      let rest = all_right (IsKid below) t.front (t.one ∷ t.two ∷ t.back) all in
      let k = All-head (IsKid below) t.one (t.two ∷ t.back) rest in
      let more = All-tail (IsKid below) t.one (t.two ∷ t.back) rest in
      let m = All-head (IsKid below) t.two t.back more in
      record {
        front = t.front;
        one = t.one;
        two = t.two;
        back = t.back;
        is = t.is;
        stands = t.stands;
        in_front = all_left (IsKid below) t.front (t.one ∷ t.two ∷ t.back) all;
        behind = All-tail (IsKid below) t.two t.back more;
        one_worn = worn_kid below t.one k;
        two_worn = worn_kid below t.two m;
        both = omega (arith, k.not_more, m.not_more);
      }

  module _ {most below left : ℕ} {kids rest : List (NodeValue A)} {kid right : NodeValue A} (q : Paired below left most kids rest kid right) where
    pub kids_even_pair : (v s : NodeValue A) → All (IsKid below) kids → Joins kid.height kid right v (Some s) → SplitsNone v → SplitsNone s
        → KidsEven below kids (insert (set rest left v) (left + 1) s)
    kids_even_pair v s each j none also =
        let p = q.pair in
        let new = insert (set rest left v) (left + 1) s in
        let new_is = both_are q v s in
        let m = mends_both q v s j in
        let by = (joins_pair q v (Some s) j).by in
        let w = length kids in
        let n = ap length p.is ∙ length-append p.front (p.one ∷ p.two ∷ p.back) in
        let count : length new ≡ w = omega (arith, n, ap length new_is ∙ length-append p.front (v ∷ s ∷ p.back)) in
        let all = subst (All (IsKid below)) p.is each in
        let there : All (IsKid below) (v ∷ s ∷ []) = all_left (IsKid below) (v ∷ s ∷ []) p.back (all_right (IsKid below) p.front (v ∷ s ∷ p.back) (subst (All (IsKid below)) new_is m.each)) in
        let spans = λ (period : Period) (a b : ℕ) (h : Spans period a b (pages_of (p.one ∷ p.two ∷ []))).
        subst (λ ps. Spans period a b (v.pages ++ ps)) (sym (append-nil s.pages)) (by.spans period a b (subst (λ ps. Spans period a b (p.one.pages ++ ps)) (append-nil p.two.pages) h)) in
        record {
          each = m.each;
          head = m.head;
          count = count;
          by = m.by;
          splits = λ key around.
              let less = splits_less below w key p.front (p.one ∷ p.two ∷ []) (v ∷ s ∷ []) p.back all there spans
              (λ period a b h from to. omega (arith, none_split period below w key a b v s there none also (spans period a b h) from to))
              (subst (λ ks. AreAround key (pages_of ks)) p.is around) in
              let one = ap (λ ks. splits_in (pages_of ks) (chains_over w ks) key) new_is in
              let two = ap (λ ks. splits_in (pages_of ks) (chains_over w ks) key) p.is in
              let three = ap (λ n. splits_in (pages_of new) (chains_over n new) key) count in
              omega (arith, less, one, two, three);
        }

    -- what the code finds of a pair that it took out

    pub pair_fits : HasPairAt kids left → kid.width + right.width ≤ 62
    pair_fits fits =
        let p = q.pair in
        let here : kid ≡ get_or kids left kid = q.one_is ∙ sym (get_at p.front p.one (p.two ∷ p.back) kid)
        ∙ ap (λ n. get_or (p.front ++ p.one ∷ p.two ∷ p.back) n kid) p.stands ∙ ap (λ ks. get_or ks left kid) (sym p.is) in
        let beside : right ≡ get_or kids (left + 1) right = q.two_is ∙ sym (get_after p.front p.one p.two p.back right)
        ∙ ap (λ n. get_or (p.front ++ p.one ∷ p.two ∷ p.back) n right) (sym (pair_after q)) ∙ ap (λ ks. get_or ks (left + 1) right) (sym p.is) in
        fits.1 kid right (omega (arith, fits.0), here) (fits.0, beside)

    pub pair_kids : All (IsKid below) kids → IsKid below kid × IsKid below right
    pair_kids each =
        let p = q.pair in
        let all = all_right (IsKid below) p.front (p.one ∷ p.two ∷ p.back) (subst (All (IsKid below)) p.is each) in (
          subst (IsKid below) (sym q.one_is) (All-head (IsKid below) p.one (p.two ∷ p.back) all),
          subst (IsKid below) (sym q.two_is) (All-head (IsKid below) p.two p.back (All-tail (IsKid below) p.one (p.two ∷ p.back) all)),
        )

    pub pair_joins : (v s : NodeValue A) → Joins below kid right v (Some s) → Joins kid.height kid right v (Some s)
    pair_joins v s j = subst (λ n. Joins n kid right v (Some s)) (sym (pair_height q)) j

    pub pair_set : (v s : NodeValue A) → set (set kids left v) (left + 1) s ≡ insert (set rest left v) (left + 1) s
    pair_set v s =
        let p = q.pair in
        ap (λ ks. set ks (left + 1) s) (one_set q v) ∙ ap (λ n. set (p.front ++ v ∷ p.two ∷ p.back) n s) (pair_after q)
        ∙ set_after p.front v p.two p.back s ∙ sym (both_are q v s)

  pub kids_even_one : (below : ℕ) (kids : List (NodeValue A)) (i : ℕ) (kid v : NodeValue A) → i < length kids → kid ≡ get_or kids i kid
      → All (IsKid below) kids → Evens kid v → KidsEven below kids (set kids i v)
  kids_even_one below kids i kid v l read each h =
      let front = take i kids in
      let back = drop (suc i) kids in
      let was = split_read kids i kid l read in
      let now = set_split kids i v l in
      let w = length kids in
      let count = length-set kids i v in
      let k = that_kid below kids i kid l read each in
      let kept = kept_kid below kid v k h.keeps in
      record {
        each = subst (All (IsKid below)) (sym now) (each_with below kids i kid l read each (v ∷ []) (alone below v kept));
        head = λ first head. subst (HeadAt first) (sym now) (head_same first kids i kid v back l read h.keeps.first head);
        count = count;
        by = subst (λ ps. Reshapes ps (pages_of (set kids i v))) (sym (pages_split kids i kid l read))
            (subst (Reshapes (pages_of front ++ (kid.pages ++ pages_of back))) (sym (ap pages_of now ∙ pages-append front (v ∷ back)))
            (reshapes_inside (pages_of front) kid.pages v.pages (pages_of back) h.by));
        splits = λ key around.
            let less = splits_less below w key front (kid ∷ []) (v ∷ []) back (subst (All (IsKid below)) was each) (alone below v kept)
            (λ period a b s. let c = spans_cut period a b kid.pages [] s in spans_join period a c.at b v.pages [] (h.by.spans period a c.at c.low) c.high)
            (λ period a b s from to. one_splits period below w key a b kid v k kept h s from to)
            (subst (λ ks. AreAround key (pages_of ks)) was around) in
            let one = ap (λ ks. splits_in (pages_of ks) (chains_over w ks) key) now in
            let two = ap (λ ks. splits_in (pages_of ks) (chains_over w ks) key) was in
            let three = ap (λ n. splits_in (pages_of (set kids i v)) (chains_over n (set kids i v)) key) count in
            omega (arith, less, one, two, three);
      }

  -- a node over them

  pub node_same : (v : NodeValue A) → Evens v v
  node_same v = record {
    keeps = record { first = refl; height = refl; width = refl; starts = λ s. s; filled = λ f. f };
    by = reshapes_same v.pages v.pages refl;
    splits = λ key around. omega arith;
  }

  pub kids_same : (below : ℕ) (kids : List (NodeValue A)) → All (IsKid below) kids → KidsEven below kids kids
  kids_same below kids each = record {
    each = each;
    head = λ first h. h;
    count = refl;
    by = reshapes_same (pages_of kids) (pages_of kids) refl;
    splits = λ key around. omega arith;
  }

  pub inner_evens : (first height below : ℕ) (kids new : List (NodeValue A)) → HeadAt first kids → KidsEven below kids new
      → Evens (inner_node first height kids) (inner_node first height new)
  inner_evens first height below kids new head h = record {
    keeps = record {
      first = refl;
      height = refl;
      width = h.count;
      starts = λ s. kids_start below first new h.each (h.head first head);
      filled = λ f. kids_wide below new h.each;
    };
    by = h.by;
    splits = h.splits;
  }

  pub inner_stays : (first height room more : ℕ) (kids new : List (NodeValue A)) (good : IsInnerNode first height kids room) → 33 ≤ more
      → KidsEven good.below kids new → IsInnerNode first height new more
  inner_stays first height room more kids new good fits h = record {
    below = good.below;
    higher = good.higher;
    each = h.each;
    head = h.head first good.head;
    not_less = omega (arith, good.not_less, h.count);
    not_more = omega (arith, good.not_more, h.count);
    room = fits;
  }

  pub rows_stay : (old new : List (PageValue A)) → Reshapes old new → rows_of_pages new ≡ rows_of_pages old
  rows_stay old new r = ap rows_of r.entries

  -- a row that is put in then

  pub reshaped_grows : (key : ℕ) (row : Row A) (old mid new : List (PageValue A)) → Reshapes old mid → GrowsBy key row mid new → GrowsBy key row old new
  reshaped_grows key row old mid new r g = record {
    adds = subst (λ rows. Adds row rows (rows_of_pages new)) (rows_stay old mid r) g.adds;
    spans = λ period lo hi at h a b absent.
        g.spans period lo hi at (r.spans period lo hi h) a b (subst (IsAbsent period key (name_of row)) (sym (rows_stay old mid r)) absent);
  }

  pub reshaped_around : (key : ℕ) (old new : List (PageValue A)) → Reshapes old new → AreAround key old → AreAround key new
  reshaped_around key old new r o = record {
    period = o.period;
    lo = o.lo;
    hi = o.hi;
    spans = r.spans o.period o.lo o.hi o.spans;
    from = o.from;
    to = o.to;
  }

pub made_more : (height less more : ℕ) → less ≤ more → made_nodes height less ≤ made_nodes height more
made_more height less more h = elim (cases_lt less more) [
  | inl under ↦ by (eqb less (height + 1)) (eqb more (height + 1)) under
  | inr over ↦
      let same : less ≡ more = omega (arith, over, h) in
      subst (λ n. made_nodes height less ≤ made_nodes height n) same (omega arith)
]
  where
    by : (a b : Bool) → less < more → (if a then less else less - 1) ≤ (if b then more else more - 1)
    by true true l = omega (arith, l)
    by true false l = omega (arith, l)
    by false true l = omega (arith, l)
    by false false l = omega (arith, l)
