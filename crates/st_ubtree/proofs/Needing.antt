-- Which nodes a new row splits, seen from a page and from a node over it.
use Rattle.std.proofs.Common.{◌≡◌, ℕ, ◌+◌, ◌-◌, ◌<◌, ◌≤◌, List, [], ◌∷◌, ◌++◌, length, get_or, map, take, drop, append_assoc, refl, sym, ap}
use Rattle.std.proofs.Common.{subst, ◌∙◌, suc, zero, arith, true, false, Bool, ltb, eqb, ◌||◌, if◌then◌else◌, Vec, vec_len}
use Rattle.std.proofs.lemmas.Bool.{true≢false, eq-eqb, ne_eqb, le-ltb, lt-ltb, or_from, or_left, or_right}
use Rattle.std.proofs.lemmas.List.Elements.{All-append, All-cons, All-head, All-tail}
use Rattle.std.proofs.lemmas.List.{length-map}
use Rattle.std.specs.List.{All}
use Rattle.st_key.specs.declared.period.Period.{Period}
use Rattle.st_index.specs.inner.Entries.{EntryValue, EntriesRise}
use Rattle.st_index.proofs.Rising.{rises_bounds, rises_all}
use Rattle.st_ubtree.specs.inner.Growing.{AreAround, DoRise}
use Rattle.st_tally.specs.inner.Pages.{PageValue, NodeValue, entries_of_pages}
use Rattle.st_ubtree.specs.inner.Kids.{IsKid, Spans, pages_of}
use Rattle.st_tally.specs.inner.Pages.{page_node}
use Rattle.st_ubtree.specs.inner.Splits.{chains_over, has_key, made_nodes, splits, splits_in, splits_page, splits_with}
use Rattle.st_ubtree.proofs.Halving.{chains_length}
use Rattle.st_ubtree.proofs.Over.{IsKidFor, over_pages}
use Rattle.st_ubtree.specs.declared.node.Node.TheInside.{Inside}
use Rattle.st_ubtree.specs.declared.node.aside.Aside.{Aside}
use Rattle.st_index.proofs.Climbing.{all_left, all_right}
use Rattle.st_index.proofs.Putting.{split_read}
use Rattle.st_ubtree.proofs.Spanning.{Found, entries-append, found_kid, pages-append, pages_split, spans_bounds}

pub with_none : (width height : ℕ) → splits_with width height 0 ≡ 0
with_none width height = by (ltb width 32) (eqb 0 (height + 1)) (ne_eqb 0 (height + 1) (λ e. omega (arith, e)))
  where
    by : (a b : Bool) → b ≡ false → (if a then zero else (if b then suc zero else zero)) ≡ zero
    by true b e = refl
    by false true e = absurd (true≢false e)
    by false false e = refl

pub with_full : (width height split : ℕ) → 32 ≤ width → split ≡ height + 1 → splits_with width height split ≡ split + 1
with_full width height split l e = ap (λ b. if b then split else if eqb split (height + 1) then split + 1 else split) (le-ltb width 32 l)
    ∙ ap (λ b. if b then split + 1 else split) (eq-eqb split (height + 1) e)

pub with_not_less : (width height split : ℕ) → split ≤ splits_with width height split
with_not_less width height split = by (ltb width 32) (eqb split (height + 1))
  where
    by : (a b : Bool) → split ≤ (if a then split else if b then split + 1 else split)
    by true b = omega arith
    by false true = omega arith
    by false false = omega arith

module _ {A : Type 0} where
  -- a page

  pub has_none : (key : ℕ) (es : List (EntryValue A)) → All (λ (e : EntryValue A). e.at ≡ key → ⊥) es → has_key key es ≡ false
  has_none key [] h = refl
  has_none key (e ∷ es) h =
      let P : EntryValue A → Type 0 = λ f. f.at ≡ key → ⊥ in
      or_from (eqb e.at key) (has_key key es) (ne_eqb e.at key (All-head P e es h)) (has_none key es (All-tail P e es h))

  pub has_some : (key : ℕ) (es : List (EntryValue A)) (i : ℕ) (d : EntryValue A) → i < length es → (get_or es i d).at ≡ key → has_key key es ≡ true
  has_some key [] i d l at = absurd (omega (arith, l))
  has_some key (e ∷ es) zero d l at = or_left (eqb e.at key) (has_key key es) (eq-eqb e.at key at)
  has_some key (e ∷ es) (suc i) d l at = or_right (eqb e.at key) (has_key key es) (has_some key es i d (omega (arith, l)) at)

  pub page_full : (key : ℕ) (es : List (EntryValue A)) → 32 ≤ length es → All (λ (e : EntryValue A). e.at ≡ key → ⊥) es → splits_page es 1 key ≡ 1
  unfolding splits_page
  page_full key es l h = ap (λ b. if b then 0 else 1) (or_from (ltb (length es) 32) (has_key key es) (le-ltb (length es) 32 l) (has_none key es h))

  -- a page of 32 keys that takes a new one

  pub page_overfull : {Z : Type 0} (key : ℕ) (old new : Vec (EntryValue A) Z) → length old.items ≤ 32 → vec_len new ≤ vec_len old + 1
      → 32 < vec_len new → (vec_len old < vec_len new → All (λ (e : EntryValue A). e.at ≡ key → ⊥) old.items) → splits_page old.items 1 key ≡ 1
  page_overfull key old new fits most more none = page_full key old.items (omega (arith, old.ok.0, most, more)) (none (omega (arith, old.ok.0, fits, more)))

  pub page_filled : {Z : Type 0} (key : ℕ) (old new : Vec (EntryValue A) Z) → length old.items ≤ 32 → vec_len new ≤ vec_len old + 1 → 32 < vec_len new
      → (vec_len old < vec_len new → All (λ (e : EntryValue A). e.at ≡ key → ⊥) old.items) → 1 ≤ splits_page old.items 1 key
  page_filled key old new fits most more none = omega (arith, page_overfull key old new fits most more none)

  pub page_short : (key : ℕ) (es : List (EntryValue A)) → length es < 32 → splits_page es 1 key ≡ 0
  unfolding splits_page
  page_short key es l = ap (λ b. if b then 0 else 1) (or_left (ltb (length es) 32) (has_key key es) (lt-ltb (length es) 32 l))

  pub page_held : (key : ℕ) (es : List (EntryValue A)) (i : ℕ) (d : EntryValue A) → i < length es → (get_or es i d).at ≡ key → splits_page es 1 key ≡ 0
  unfolding splits_page
  page_held key es i d l at = ap (λ b. if b then 0 else 1) (or_right (ltb (length es) 32) (has_key key es) (has_some key es i d l at))

  pub splits_alone : (key first height : ℕ) (es : List (EntryValue A)) → splits (page_node first height es) key ≡ splits_page es 1 key
  unfolding splits_in
  splits_alone key first height es = refl

  pub page_around : (key first : ℕ) (es : List (EntryValue A)) → AreAround key (record { first = first; entries = es } ∷ []) → DoRise es
  page_around key first es o = (o.period, o.lo, o.spans.1.0, o.spans.1.2)

  -- the page of a key among others

  lift_page : (width height : ℕ) (es : List (EntryValue A)) (chain key : ℕ) → splits_page es (splits_with width height chain) key ≡ splits_with width height (splits_page es chain key)
  unfolding splits_page
  lift_page width height es chain key = by (ltb (length es) 32 || has_key key es)
    where
      by : (b : Bool) → (if b then 0 else splits_with width height chain) ≡ splits_with width height (if b then 0 else chain)
      by true = sym (with_none width height)
      by false = refl

  pub lift_splits : (width height key : ℕ) (ps : List (PageValue A)) (ns : List ℕ) → length ns ≡ length ps
      → splits_in ps (map (splits_with width height) ns) key ≡ splits_with width height (splits_in ps ns key)
  unfolding splits_in
  lift_splits width height key [] ns e = sym (with_none width height)
  lift_splits width height key (p ∷ ps) [] e = absurd (omega (arith, e))
  lift_splits width height key (p ∷ []) (n ∷ ns) e = lift_page width height p.entries n key
  lift_splits width height key (p ∷ q ∷ ps) (n ∷ ns) e = by (lift_splits width height key (q ∷ ps) ns (omega (arith, e))) (ltb key q.first)
    where
      by : splits_in (q ∷ ps) (map (splits_with width height) ns) key ≡ splits_with width height (splits_in (q ∷ ps) ns key) → (b : Bool)
          → (if b then splits_page p.entries (splits_with width height n) key else splits_in (q ∷ ps) (map (splits_with width height) ns) key)
          ≡ splits_with width height (if b then splits_page p.entries n key else splits_in (q ∷ ps) ns key)
      by rest true = lift_page width height p.entries n key
      by rest false = rest

  module _ (period : Period) where
    -- pages before that of the key, and after it
    pub skip_front : (key lo a hi : ℕ) (front : List (PageValue A)) (m : PageValue A) (rest : List (PageValue A)) (xs ys : List ℕ)
        → Spans period lo a front → m.first ≡ a → a ≤ key → length xs ≡ length front
        → splits_in (front ++ m ∷ rest) (xs ++ ys) key ≡ splits_in (m ∷ rest) ys key
    unfolding splits_in
    skip_front key lo a hi [] m rest [] ys s e k n = refl
    skip_front key lo a hi [] m rest (x ∷ xs) ys s e k n = absurd (omega (arith, n))
    skip_front key lo a hi (p ∷ ps) m rest [] ys s e k n = absurd (omega (arith, n))
    skip_front key lo a hi (p ∷ []) m rest (x ∷ xs) ys s e k n =
        ap (λ b. if b then splits_page p.entries x key else splits_in (m ∷ rest) (xs ++ ys) key) (le-ltb key m.first (omega (arith, e, k)))
        ∙ skip_front key a a hi [] m rest xs ys refl e k (omega (arith, n))
    skip_front key lo a hi (p ∷ q ∷ ps) m rest (x ∷ xs) ys s e k n =
        let b = s.1.3.0 in
        let c = spans_bounds period s.1.0 a (q ∷ ps) s.1.3 in
        ap (λ b. if b then splits_page p.entries x key else splits_in (q ∷ (ps ++ m ∷ rest)) (xs ++ ys) key) (le-ltb key q.first (omega (arith, b, c, k)))
        ∙ skip_front key s.1.0 a hi (q ∷ ps) m rest xs ys s.1.3 e k (omega (arith, n))

    drop_back : (key a b hi : ℕ) (m : PageValue A) (ms back : List (PageValue A)) (ys zs : List ℕ) → Spans period b hi back → key < b
        → length ys ≡ length (m ∷ ms) → splits_in (m ∷ (ms ++ back)) (ys ++ zs) key ≡ splits_in (m ∷ ms) ys key
    unfolding splits_in
    drop_back key a b hi m ms back [] zs s k n = absurd (omega (arith, n))
    drop_back key a b hi m [] [] (y ∷ ys) zs s k n = refl
    drop_back key a b hi m [] (r ∷ rs) (y ∷ ys) zs s k n = let e =
        s.0 in ap (λ t. if t then splits_page m.entries y key else splits_in (r ∷ rs) (ys ++ zs) key) (lt-ltb key r.first (omega (arith, e, k)))
    drop_back key a b hi m (q ∷ ms) back (y ∷ ys) zs s k n = ap (λ t. if ltb key q.first then splits_page m.entries y key else t) (drop_back key a b hi q ms back ys zs s k (omega (arith, n)))

    pub mid_splits : (key lo a b hi : ℕ) (front mid back : List (PageValue A)) (xs ys zs : List ℕ) → Spans period lo a front → Spans period a b mid
        → Spans period b hi back → a ≤ key → key < b → length xs ≡ length front → length ys ≡ length mid
        → splits_in (front ++ (mid ++ back)) (xs ++ (ys ++ zs)) key ≡ splits_in mid ys key
    mid_splits key lo a b hi front [] back xs ys zs f m r j k u v = absurd (omega (arith, m, j, k))
    mid_splits key lo a b hi front (m ∷ ms) back xs ys zs f s r j k u v =
        skip_front key lo a hi front m (ms ++ back) xs (ys ++ zs) f s.0 j u ∙ drop_back key a b hi m ms back ys zs r k v

  pub chains-append : (width : ℕ) (xs ys : List (NodeValue A)) → chains_over width (xs ++ ys) ≡ chains_over width xs ++ chains_over width ys
  chains-append width [] ys = refl
  chains-append width (x ∷ xs) ys = ap (λ t. map (splits_with width x.height) x.chains ++ t) (chains-append width xs ys)
      ∙ sym (append_assoc (map (splits_with width x.height) x.chains) (chains_over width xs) (chains_over width ys))

  -- a node over a child that holds the key
  pub splits_under : (period : Period) (key below w lo a b hi : ℕ) (front back : List (NodeValue A)) (v : NodeValue A) → All (IsKid below) (front ++ v ∷ back)
      → Spans period lo a (pages_of front) → Spans period a b v.pages → Spans period b hi (pages_of back) → a ≤ key → key < b
      → splits_in (pages_of (front ++ v ∷ back)) (chains_over w (front ++ v ∷ back)) key ≡ splits_with w v.height (splits v key)
  splits_under period key below w lo a b hi front back v all low mid high from to =
      let kid_is : IsKid below v = All-head (IsKid below) v back (all_right (IsKid below) front (v ∷ back) all) in
      let same : length (map (splits_with w v.height) v.chains) ≡ length v.pages = length-map v.chains (splits_with w v.height) ∙ kid_is.starts.1 in
      ap (λ ps. splits_in ps (chains_over w (front ++ v ∷ back)) key) (pages-append front (v ∷ back))
      ∙ ap (λ ns. splits_in (pages_of front ++ (v.pages ++ pages_of back)) ns key) (chains-append w front (v ∷ back))
      ∙ mid_splits period key lo a b hi (pages_of front) v.pages (pages_of back) (chains_over w front) (map (splits_with w v.height) v.chains)
      (chains_over w back) low mid high from to (chains_length w below front (all_left (IsKid below) front (v ∷ back) all)) same
      ∙ lift_splits w v.height key v.pages v.chains kid_is.starts.1

  -- entries by their keys

  rises_below : (period : Period) (lo hi : ℕ) (es : List (EntryValue A)) → EntriesRise period lo hi es → All (λ (e : EntryValue A). e.at < hi) es
  rises_below period lo hi [] h = λ k d l. absurd (omega (arith, l))
  rises_below period lo hi (e ∷ es) h = let b = rises_bounds period (e.at + 1) hi es h.2 in All-cons (λ (f : EntryValue A). f.at < hi) e es (omega (arith, b)) (rises_below period (e.at + 1) hi es h.2)

  pub entries_below : (period : Period) (lo hi : ℕ) (ps : List (PageValue A)) → Spans period lo hi ps → All (λ (e : EntryValue A). e.at < hi) (entries_of_pages ps)
  entries_below period lo hi [] h = λ k d l. absurd (omega (arith, l))
  entries_below period lo hi (p ∷ ps) h =
      let b = spans_bounds period h.1.0 hi ps h.1.3 in
      let low = rises_below period lo h.1.0 p.entries h.1.2 in
      All-append (λ (e : EntryValue A). e.at < hi) p.entries (entries_of_pages ps) (λ k d l. omega (arith, low k d l, b)) (entries_below period h.1.0 hi ps h.1.3)

  pub entries_from : (period : Period) (lo hi : ℕ) (ps : List (PageValue A)) → Spans period lo hi ps → All (λ (e : EntryValue A). lo ≤ e.at) (entries_of_pages ps)
  entries_from period lo hi [] h = λ k d l. absurd (omega (arith, l))
  entries_from period lo hi (p ∷ ps) h =
      let wide = h.1.1 in
      let rest = entries_from period h.1.0 hi ps h.1.3 in
      All-append (λ (e : EntryValue A). lo ≤ e.at) p.entries (entries_of_pages ps) (rises_all period lo h.1.0 p.entries h.1.2) (λ k d l. omega (arith, rest k d l, wide))

  -- a node over the child that a search finds

  module _ {key i : ℕ} {n : Inside A} {kids : Vec (NodeValue A) A} {aside : Aside A} {node kid : NodeValue A} (k : IsKidFor key n kids aside node i kid)
      (o : AreAround key node.pages) where
    around : AreAround key (pages_of kids.items)
    around = subst (AreAround key) (over_pages k.over) o

    there : Found around.period key around.lo around.hi kids.items i kid
    there =
        found_kid around.period key k.over.good.below around.lo around.hi kids.items k.over.good.each around.spans k.chosen.upto i kid
        k.chosen.found k.chosen.is k.chosen.within k.read

    from : there.a ≤ key
    from = there.from around.from

    to : key < there.b
    to = there.to around.to

    pub kid_around : AreAround key kid.pages
    kid_around = record { period = around.period; lo = there.a; hi = there.b; spans = there.mid; from = from; to = to }

    pub kid_splits_by : splits node key ≡ splits_with (length kids.items) kid.height (splits kid key)
    kid_splits_by =
        let w = length kids.items in
        let parts = split_read kids.items i kid k.chosen.within k.read in
        ap (λ (v : NodeValue A). splits v key) (sym k.over.seen)
        ∙ ap (λ ks. splits_in (pages_of ks) (chains_over w ks) key) parts
        ∙ splits_under around.period key k.over.good.below w around.lo there.a there.b around.hi (take i kids.items) (drop (suc i) kids.items) kid
        (subst (All (IsKid k.over.good.below)) parts k.over.good.each) there.low there.mid there.high from to

    -- at least as many nodes are split as up to the child
    pub kid_fewer : splits kid key ≤ splits node key
    kid_fewer = omega (arith, kid_splits_by, with_not_less (length kids.items) kid.height (splits kid key))

    -- and one more, where all up to the child are, and the node is full
    pub kid_fills : 32 ≤ length kids.items → splits kid key ≡ kid.height + 1 → splits node key ≡ splits kid key + 1
    kid_fills full split = kid_splits_by ∙ with_full (length kids.items) kid.height (splits kid key) full split

    three : entries_of_pages node.pages
        ≡ entries_of_pages (pages_of (take i kids.items)) ++ (entries_of_pages kid.pages ++ entries_of_pages (pages_of (drop (suc i) kids.items)))
    three =
        let front = pages_of (take i kids.items) in
        let back = pages_of (drop (suc i) kids.items) in
        ap entries_of_pages (over_pages k.over ∙ pages_split kids.items i kid k.chosen.within k.read) ∙ entries-append front (kid.pages ++ back)
        ∙ ap (λ es. entries_of_pages front ++ es) (entries-append kid.pages back)

    pub kid_rows : (r : ℕ) → All (λ (e : EntryValue A). e.at ≡ key → length e.rows ≡ r) (entries_of_pages kid.pages)
        → All (λ (e : EntryValue A). e.at ≡ key → length e.rows ≡ r) (entries_of_pages node.pages)
    kid_rows r h =
        let P : EntryValue A → Type 0 = λ e. e.at ≡ key → length e.rows ≡ r in
        let front = pages_of (take i kids.items) in
        let back = pages_of (drop (suc i) kids.items) in
        let low = entries_below around.period around.lo there.a front there.low in
        let high = entries_from around.period there.b around.hi back there.high in
        subst (All P) (sym three)
        (All-append P (entries_of_pages front) (entries_of_pages kid.pages ++ entries_of_pages back) (λ j d m e. absurd (omega (arith, low j d m, e, from)))
        (All-append P (entries_of_pages kid.pages) (entries_of_pages back) h (λ j d m e. absurd (omega (arith, high j d m, e, to)))))

    -- a key that has no entry under a node has none under the child
    pub kid_none : All (λ (e : EntryValue A). e.at ≡ key → ⊥) (entries_of_pages node.pages) → All (λ (e : EntryValue A). e.at ≡ key → ⊥) (entries_of_pages kid.pages)
    kid_none h =
        let P : EntryValue A → Type 0 = λ e. e.at ≡ key → ⊥ in
        let front = entries_of_pages (pages_of (take i kids.items)) in
        let back = entries_of_pages (pages_of (drop (suc i) kids.items)) in
        all_left P (entries_of_pages kid.pages) back (all_right P front (entries_of_pages kid.pages ++ back) (subst (All P) three h))

pub made_full : (height split : ℕ) → split ≡ height + 1 → made_nodes height split ≡ split
made_full height split e = ap (λ b. if b then split else split - 1) (eq-eqb split (height + 1) e)

pub made_less : (height split inners : ℕ) → made_nodes height split ≤ inners → split ≤ inners + 1
made_less height split inners h = by (eqb split (height + 1)) h
  where
    by : (b : Bool) → (if b then split else split - 1) ≤ inners → split ≤ inners + 1
    by true l = omega (arith, l)
    by false l = omega (arith, l)

pub held_made : {X Z : Type 0} (v : Vec X Z) (made : ℕ) → length v.items ≡ made → made ≤ vec_len v
held_made v made is = omega (arith, v.ok.0, is)
