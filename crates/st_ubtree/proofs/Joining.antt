-- Two children side by side that are evened.
use Rattle.std.proofs.Common.{◌≡◌, ℕ, ◌+◌, ◌≤◌, List, [], ◌∷◌, ◌++◌, length, get_or, drop, refl, sym, ap, subst, ◌∙◌, arith, Option, Some, None, Vec, vec_len}
use Rattle.std.proofs.lemmas.List.{append-nil}
use Rattle.std.proofs.lemmas.List.Elements.{All-append}
use Rattle.std.specs.List.{All}
use Rattle.st_index.specs.inner.Entries.{EntryValue, EntriesRise}
use Rattle.st_index.proofs.Climbing.{all_left}
use Rattle.st_index.proofs.Putting.{split_read}
use Rattle.st_index.proofs.Rising.{rises_around, rises_bounds, rises_join}
use Rattle.st_ubtree.specs.inner.Nodes.{IsInnerNode, inner_node}
use Rattle.st_tally.specs.inner.Pages.{page_node}
use Rattle.st_tally.specs.inner.Pages.{PageValue, NodeValue, entries_of_pages}
use Rattle.st_ubtree.specs.inner.Kids.{HeadAt, IsKid, Spans, pages_of}
use Rattle.st_ubtree.specs.inner.Shrinking.{IsNodeOf, IsPageOf, IsKidBeside, Joins, KidsJoin, PagesJoin, Reshapes, pages_beside}
use Rattle.st_ubtree.proofs.Halving.{kids_start, kids_wide}
use Rattle.st_ubtree.proofs.Spanning.{entries_three, pages-append, spans_put}
use Rattle.st_ubtree.proofs.Splitting.{wide_page, page, rises_wide}

-- a list of a worn node, as the code counts it
pub held_worn : {X Z : Type 0} (v : Vec X Z) (width : ℕ) → width ≡ length v.items → 15 ≤ width → width ≤ 32 → (15 ≤ vec_len v) × (vec_len v ≤ 32)
held_worn v width is least most = (omega (arith, v.ok.0, is, least), omega (arith, v.ok.0, is, most))

pub held_both : {X Z : Type 0} (v w : Vec X Z) (one two : ℕ) → one ≡ length v.items → two ≡ length w.items → one + two ≤ 47 → vec_len v + vec_len w ≤ 47
held_both v w one two is other both = omega (arith, v.ok.0, w.ok.0, is, other, both)

module _ {A : Type 0} where
  pub reshapes_same : (old new : List (PageValue A)) → new ≡ old → Reshapes old new
  reshapes_same old new e = record { entries = ap entries_of_pages e; spans = λ period lo hi h. subst (Spans period lo hi) (sym e) h }

  pub reshapes_inside : (front old new back : List (PageValue A)) → Reshapes old new → Reshapes (front ++ (old ++ back)) (front ++ (new ++ back))
  reshapes_inside front old new back r = record {
    entries = entries_three front new back ∙ ap (λ t. entries_of_pages front ++ (t ++ entries_of_pages back)) r.entries ∙ sym (entries_three front old back);
    spans = λ period lo hi h. spans_put period lo hi front old new back (r.spans period) h;
  }

  two_pages : (first second : ℕ) (es fs : List (EntryValue A)) → entries_of_pages (page first es ∷ page second fs ∷ []) ≡ es ++ fs
  two_pages first second es fs = ap (λ t. es ++ t) (append-nil fs)

  pages_shape : (old right new : List (EntryValue A)) (r : Option (NodeValue A)) → PagesJoin old right new r → (first second : ℕ)
      → Reshapes (page first old ∷ page second right ∷ []) (page first new ∷ pages_beside r)
  pages_shape old right new None j first second =
      let is : new ≡ old ++ right = sym (append-nil new) ∙ sym (ap (λ t. new ++ t) j.beside) ∙ j.kept in
      record {
        entries = append-nil new ∙ is ∙ sym (two_pages first second old right);
        spans = λ period lo hi h.
            let last = h.1.3.1.0 in
            let second_is = h.1.3.0 in
            let whole = rises_join period lo h.1.0 last old right h.1.2 h.1.3.1.2 in
            (h.0, (last, omega (arith, h.1.1, h.1.3.1.1), subst (EntriesRise period lo last) (sym is) whole, h.1.3.1.3));
      }
  pages_shape old right new (Some s) j first second =
      let e = j.beside.1.0 in
      let es = j.beside.1.1 in
      let rest_is = j.beside.1.2 in
      let beside = j.beside.1.3 in
      record {
        entries = ap (λ ps. entries_of_pages (page first new ∷ ps)) beside ∙ two_pages first e.at new j.rest ∙ j.kept ∙ sym (two_pages first second old right);
        spans = λ period lo hi h.
            let last = h.1.3.1.0 in
            let whole = rises_join period lo h.1.0 last old right h.1.2 h.1.3.1.2 in
            let cut = rises_around period lo last new e es (subst (EntriesRise period lo last) (sym j.kept ∙ ap (λ t. new ++ t) rest_is) whole) in
            let wide = rises_wide period lo e.at new cut.front (let n = j.not_less in omega (arith, n)) in
            let b = rises_bounds period (e.at + 1) last es cut.back in
            let high : EntriesRise period e.at last j.rest = subst (EntriesRise period e.at last) (sym rest_is) (omega arith, cut.entry, cut.back) in
            subst (λ ps. Spans period lo hi (page first new ∷ ps)) (sym beside) (h.0, (e.at, wide, cut.front, (refl, (last, omega (arith, b), high, h.1.3.1.3))));
      }

  -- a page that begins at the first of its entries
  pub page_beside : (first : ℕ) (rest : List (EntryValue A)) (e : EntryValue A) (r : NodeValue A) → r ≡ page_node first 0 rest → first ≡ e.at → e ≡ get_or rest 0 e
      → 16 ≤ length rest → length rest ≤ 32 → IsPageOf rest (Some r)
  page_beside first rest e r is at read least most =
      let kid : IsKid 0 (page_node first 0 rest) = record { same_height = refl; not_less = least; not_more = most; starts = (refl, refl); filled = wide_page first rest least most } in
      subst (λ v. IsPageOf rest (Some v)) (sym is) (kid, (e, drop 1 rest, split_read rest 0 e (omega (arith, least)) read, ap (λ n. page n rest ∷ []) at))

  beside_page : (rest : List (EntryValue A)) (r : Option (NodeValue A)) → IsPageOf rest r → IsKidBeside 0 r
  beside_page rest None h = tt
  beside_page rest (Some s) h = h.0

  pub join_of_pages : (first second : ℕ) (height : ℕ) (old right new : List (EntryValue A)) (r : Option (NodeValue A)) (v : NodeValue A) → height ≡ 0
      → v.pages ≡ page second right ∷ [] → PagesJoin old right new r → Joins height (page_node first height old) v (page_node first height new) r
  join_of_pages first second height old right new r v z is j =
      let shape = pages_shape old right new r j first second in
      record {
        first = refl;
        kid = record { same_height = refl; not_less = j.not_less; not_more = j.not_more; starts = (refl, refl); filled = wide_page first new j.not_less j.not_more };
        beside = subst (λ n. IsKidBeside n r) (sym z) (beside_page j.rest r j.beside);
        by = subst (λ ps. Reshapes (page first old ∷ ps) (page first new ∷ pages_beside r)) (sym is) shape;
      }

  head_of_joined : (first : ℕ) (new rest old right : List (NodeValue A)) → new ++ rest ≡ old ++ right → HeadAt first old → 1 ≤ length new → HeadAt first new
  head_of_joined first new rest [] right e h l = absurd h
  head_of_joined first [] rest (o ∷ os) right e h l = absurd (omega (arith, l))
  head_of_joined first (n ∷ ns) rest (o ∷ os) right e h l = ap (λ t. (get_or t 0 n).first) e ∙ h

  kids_beside : (height : ℕ) (rest : List (NodeValue A)) (r : Option (NodeValue A)) → IsNodeOf height rest r → pages_beside r ≡ pages_of rest
  kids_beside height rest None h = ap pages_of (sym h)
  kids_beside height rest (Some s) h = h.1

  kid_beside : (height : ℕ) (rest : List (NodeValue A)) (r : Option (NodeValue A)) → IsNodeOf height rest r → IsKidBeside height r
  kid_beside height rest None h = tt
  kid_beside height rest (Some s) h = h.0

  pub joined_each : (below : ℕ) (old right new rest : List (NodeValue A)) → new ++ rest ≡ old ++ right → All (IsKid below) (old ++ right) → All (IsKid below) new
  joined_each below old right new rest e h = all_left (IsKid below) new rest (subst (All (IsKid below)) (sym e) h)

  pub joined_head : (height first : ℕ) (old right new : List (NodeValue A)) (r : Option (NodeValue A)) → KidsJoin height old right new r → HeadAt first old → HeadAt first new
  joined_head height first old right new r j h = head_of_joined first new j.rest old right j.kept h (omega (arith, j.not_less))

  pub join_of_kids : (first height below : ℕ) (old right new : List (NodeValue A)) (r : Option (NodeValue A)) (v : NodeValue A)
      → v.pages ≡ pages_of right → All (IsKid below) (old ++ right) → HeadAt first old → KidsJoin height old right new r
      → Joins height (inner_node first height old) v (inner_node first height new) r
  join_of_kids first height below old right new r v is each head j =
      let all = joined_each below old right new j.rest j.kept each in
      let at = joined_head height first old right new r j head in
      record {
        first = refl;
        kid = record { same_height = refl; not_less = j.not_less; not_more = j.not_more; starts = kids_start below first new all at; filled = kids_wide below new all };
        beside = kid_beside height j.rest r j.beside;
        by = reshapes_same (pages_of old ++ v.pages) (pages_of new ++ pages_beside r)
            (ap (λ ps. pages_of new ++ ps) (kids_beside height j.rest r j.beside) ∙ sym (pages-append new j.rest) ∙ ap pages_of j.kept
            ∙ pages-append old right ∙ ap (λ ps. pages_of old ++ ps) (sym is));
      }

  pub both_kids : (first second height other : ℕ) (old right : List (NodeValue A)) (room more : ℕ) → other ≡ height
      → (a : IsInnerNode first height old room) → IsInnerNode second other right more → All (IsKid a.below) (old ++ right)
  both_kids first second height other old right room more e a b =
      let same : b.below ≡ a.below = omega (arith, a.higher, b.higher, e) in
      All-append (IsKid a.below) old right a.each (subst (λ n. All (IsKid n) right) same b.each)
