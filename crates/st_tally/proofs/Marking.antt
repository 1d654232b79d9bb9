-- Marks of pages, as labels, entries and children change.
use Rattle.std.proofs.Common.{◌≡◌, ℕ, ◌+◌, ◌-◌, ◌<◌, ◌≤◌, List, [], ◌∷◌, ◌++◌, false, IsTrue, length, get_or, inl, inr, sym, ap, subst, ◌∙◌, arith, length-append, length-set}
use Rattle.std.proofs.Math.ListN.{set}
use Rattle.std.proofs.lemmas.Bool.{cases_lt}
use Rattle.std.proofs.lemmas.List.{get_or-set_same}
use Rattle.std.proofs.lemmas.List.Edits.{get_or-insert_above, get_or-insert_at, get_or-insert_below, get_or-remove_above, get_or-remove_below, length-insert, length-remove}
use Rattle.std.specs.List.{insert, remove}
use Rattle.std.specs.Prelude.{is_some, IfNone, IfOk, IfSome, Option, None, Some, Result, Ok, Err}
use Rattle.st_text.specs.Texts.{Text}
use Rattle.st_index.specs.inner.Entries.{EntryValue}
use Rattle.st_index.specs.declared.entries.Change.{Change}
use Rattle.st_index.specs.inner.Changes.{IsChange}
use Rattle.st_tally.specs.inner.Pages.{NodeValue, PageValue, entries_of_pages}
use Rattle.st_tally.specs.declared.page_marks.PageMarks.{PageMarks}
use Rattle.st_tally.specs.declared.spots.Spot.{Spot}
use Rattle.st_tally.specs.inner.Marks.{AreMarkedBy, AreMarks, ClosesAt, DifferAt, DifferInMarks, HasAt, IsMark, IsMarkedAt, Keeps, OpensAt}
use Rattle.st_tally.proofs.Placing.{Closes, Opens, apart, at_before, at_changed, at_last, at_other, keeps_all, same_at, same_or_not}

pub none_so : {X P : Type 0} (o : Option X) → P → IfNone o P
none_so None p = p
none_so (Some x) p = tt

pub none_holds : {X : Type 0} (o : Option X) (P : Type 0) → is_some o ≡ false → IfNone o P → P
none_holds None P none h = h
none_holds (Some x) P none h = cc

pub ok_so : {X Y P : Type 0} (r : Result X Y) → P → IfOk r (λ _. P)
ok_so (Ok x) p = p
ok_so (Err e) p = tt

pub ok_then : {X Y P Q : Type 0} (r : Result X Y) → (P → Q) → IfOk r (λ _. P) → IfOk r (λ _. Q)
ok_then (Ok x) next p = next p
ok_then (Err e) next p = tt

module _ {A : Type 0} where
  pub mark_kept : (old new : List Text) (e : EntryValue A) (number week : ℕ) (spot : Spot) → Keeps old new → IsMark old e number week spot → IsMark new e number week spot
  mark_kept old new e number week spot keeps is = λ few. let h = is few in (h.0, h.1, h.2, λ low. keeps number h.0.label (h.3 low))

  pub marks_kept : (old new : List Text) (es : List (EntryValue A)) (p : PageMarks) → Keeps old new → AreMarks old es p → AreMarks new es p
  marks_kept old new es p keeps are = λ i e h number spot a b. mark_kept old new e number p.week spot keeps (are i e h number spot a b)

  -- the entries before a place have marks
  abbrev pub AreMarksTo : ℕ → List Text → List (EntryValue A) → PageMarks → Type 0
  AreMarksTo n labels es p = (i : ℕ) (e : EntryValue A) → i < n → HasAt es i e → IsMarkedAt labels p i e

  -- all but that at a place
  abbrev pub AreMarksBut : ℕ → List Text → List (EntryValue A) → PageMarks → Type 0
  AreMarksBut n labels es p = (i : ℕ) (e : EntryValue A) → (i ≡ n → ⊥) → HasAt es i e → IsMarkedAt labels p i e

  -- one of another page that has the same here
  pub mark_moved : (old new : List Text) (p q : PageMarks) (i j : ℕ) (e : EntryValue A) → Keeps old new → q.week ≡ p.week
      → ((number : ℕ) → HasAt q.numbers j number → HasAt p.numbers i number) → ((spot : Spot) → HasAt q.spots j spot → HasAt p.spots i spot)
      → IsMarkedAt old p i e → IsMarkedAt new q j e
  mark_moved old new p q i j e keeps week numbers spots is = λ number spot a b.
      subst (λ w. IsMark new e number w spot) (sym week) (mark_kept old new e number p.week spot keeps (is number spot (numbers number a) (spots spot b)))

  pub mark_here : (labels : List Text) (p : PageMarks) (es : List (EntryValue A)) (n i : ℕ) (e f : EntryValue A) → i ≡ n → HasAt es n f → HasAt es i e
      → IsMarkedAt labels p n f → IsMarkedAt labels p i e
  mark_here labels p es n i e f same here h is =
      let entry : e ≡ f = same_at es n e f (subst (λ j. HasAt es j e) same h) here in
      subst (λ j. IsMarkedAt labels p j e) (sym same) (subst (IsMarkedAt labels p n) (sym entry) is)

  pub marks_more : (old new : List Text) (es : List (EntryValue A)) (p q : PageMarks) (n : ℕ) (e : EntryValue A) → Keeps old new → HasAt es n e
      → IsMarkedAt new q n e → DifferInMarks n p q → AreMarksTo n old es p → AreMarksTo (n + 1) new es q
  marks_more old new es p q n e keeps here is others before = λ i f l h.
      elim (cases_lt i n) [
        | inl less ↦
            let ne : i ≡ n → ⊥ = λ same. omega (arith, less, same) in
            mark_moved old new p q i i f keeps others.2 (λ number. others.0 i number ne) (λ spot. others.1 i spot ne) (before i f less h)
        | inr over ↦ mark_here new q es n i f e (omega (arith, l, over)) here h is
      ]

  -- the last one
  pub marks_whole : (old new : List Text) (es : List (EntryValue A)) (p q : PageMarks) (n : ℕ) (e : EntryValue A) → Keeps old new → HasAt es n e
      → IsMarkedAt new q n e → DifferInMarks n p q → AreMarksBut n old es p → AreMarks new es q
  marks_whole old new es p q n e keeps here is others but = λ i f h.
      elim (same_or_not i n) [
        | inl same ↦ mark_here new q es n i f e same here h is
        | inr ne ↦ mark_moved old new p q i i f keeps others.2 (λ number. others.0 i number ne) (λ spot. others.1 i spot ne) (but i f ne h)
      ]

  -- the marks of entries of which one changed
  pub marks_altered : (labels : List Text) (es fs : List (EntryValue A)) (p : PageMarks) (n : ℕ) → DifferAt n es fs → AreMarks labels es p
      → AreMarksBut n labels fs p
  marks_altered labels es fs p n differ are = λ i e ne h. are i e (differ i e ne h)

  -- among which one came in
  pub marks_opened : (labels : List Text) (es fs : List (EntryValue A)) (p q : PageMarks) (n : ℕ) → OpensAt n es fs → length fs ≤ 32
      → q.week ≡ p.week → Opens n (length fs) p.numbers q.numbers → Opens n (length fs) p.spots q.spots → AreMarks labels es p → AreMarksBut n labels fs q
  marks_opened labels es fs p q n opens few week numbers spots are = λ i e ne h.
      let l = h.0 in
      elim (cases_lt i n) [
        | inl less ↦
            mark_moved labels labels p q i i e (keeps_all labels) week (λ number a. (numbers i number l a).0 less) (λ spot a. (spots i spot l a).0 less)
            (are i e ((opens i e h).0 less))
        | inr over ↦
            let more : n < i = apart i n ne over in
            mark_moved labels labels p q (i - 1) i e (keeps_all labels) week (λ number a. (numbers i number l a).1 more) (λ spot a. (spots i spot l a).1 more)
            (are (i - 1) e ((opens i e h).1 more))
      ]

  -- from which one went
  pub marks_closed : (labels : List Text) (es fs : List (EntryValue A)) (p q : PageMarks) (n : ℕ) → ClosesAt n es fs
      → q.week ≡ p.week → Closes n (length fs) p.numbers q.numbers → Closes n (length fs) p.spots q.spots → AreMarks labels es p → AreMarks labels fs q
  marks_closed labels es fs p q n closes week numbers spots are = λ i e h.
      let l = h.0 in
      elim (cases_lt i n) [
        | inl less ↦
            mark_moved labels labels p q i i e (keeps_all labels) week (λ number a. (numbers i number l a).0 less) (λ spot a. (spots i spot l a).0 less)
            (are i e ((closes i e h).0 less))
        | inr over ↦
            mark_moved labels labels p q (i + 1) i e (keeps_all labels) week (λ number a. (numbers i number l a).1 over) (λ spot a. (spots i spot l a).1 over)
            (are (i + 1) e ((closes i e h).1 over))
      ]

  -- other marks for a page
  pub marked_set : (old new : List Text) (pages : List PageMarks) (kids now : List (NodeValue A)) (at : ℕ) (p : PageMarks) → Keeps old new
      → at < length pages → DifferAt at kids now → ((v : NodeValue A) → IsTrue p.known → HasAt now at v → AreMarks new (entries_of_pages v.pages) p)
      → AreMarkedBy old pages kids → AreMarkedBy new (set pages at p) now
  marked_set old new pages kids now at p keeps low differ here marked = λ i q v page known kid.
      elim (cases_lt i at) [
        | inl less ↦
            let ne : i ≡ at → ⊥ = λ same. omega (arith, less, same) in
            marks_kept old new (entries_of_pages v.pages) q keeps (marked i q v (at_other pages at i p q ne page) known (differ i v ne kid))
        | inr over ↦
            elim (cases_lt at i) [
              | inl more ↦
                  let ne : i ≡ at → ⊥ = λ same. omega (arith, more, same) in
                  marks_kept old new (entries_of_pages v.pages) q keeps (marked i q v (at_other pages at i p q ne page) known (differ i v ne kid))
              | inr under ↦
                  let same : i ≡ at = omega (arith, over, under) in
                  let one : q ≡ p = at_changed pages at p q low (subst (λ j. HasAt (set pages at p) j q) same page) in
                  subst (AreMarks new (entries_of_pages v.pages)) (sym one) (here v (subst (λ (r : PageMarks). IsTrue r.known) one known) (subst (λ j. HasAt now j v) same kid))
            ]
      ]

  -- one page more, without marks
  pub marked_push : (labels : List Text) (pages : List PageMarks) (kids : List (NodeValue A)) (p : PageMarks) → p.known ≡ false
      → AreMarkedBy labels pages kids → AreMarkedBy labels (pages ++ p ∷ []) kids
  marked_push labels pages kids p none marked = λ i q v page known kid.
      elim (cases_lt i (length pages)) [
        | inl low ↦ marked i q v (at_before pages p i q low page) known kid
        | inr over ↦
            let same : i ≡ length pages = omega (arith, over, page.0, length-append pages (p ∷ [])) in
            let one : q ≡ p = same_at (pages ++ p ∷ []) i q p page (subst (λ j. HasAt (pages ++ p ∷ []) j p) (sym same) (at_last pages p)) in
            let off : q.known ≡ false = ap (λ (r : PageMarks). r.known) one ∙ none in
            cc
      ]

  -- a page without marks may change
  pub marked_off : (labels : List Text) (pages : List PageMarks) (kids now : List (NodeValue A)) (at : ℕ) → length pages ≤ at → DifferAt at kids now
      → AreMarkedBy labels pages kids → AreMarkedBy labels pages now
  marked_off labels pages kids now at over differ marked = λ i q v page known kid.
      marked i q v page known (differ i v (λ same. omega (arith, page.0, over, same)) kid)

  -- and so may one whose marks are not known
  pub marked_unknown : (labels : List Text) (pages : List PageMarks) (kids now : List (NodeValue A)) (at : ℕ) (p : PageMarks) → p ≡ get_or pages at p
      → p.known ≡ false → DifferAt at kids now → AreMarkedBy labels pages kids → AreMarkedBy labels pages now
  marked_unknown labels pages kids now at p read none differ marked = λ i q v page known kid.
      elim (cases_lt i at) [
        | inl less ↦ marked i q v page known (differ i v (λ same. omega (arith, less, same)) kid)
        | inr over ↦
            elim (cases_lt at i) [
              | inl more ↦ marked i q v page known (differ i v (λ same. omega (arith, more, same)) kid)
              | inr under ↦
                  let same : i ≡ at = omega (arith, over, under) in
                  let there = subst (λ j. HasAt pages j q) same page in
                  let one : q ≡ p = same_at pages at q p there (there.0, read) in
                  let off : q.known ≡ false = ap (λ (r : PageMarks). r.known) one ∙ none in
                  cc
            ]
      ]

  -- a page comes in, without marks
  pub marked_open : (labels : List Text) (pages : List PageMarks) (kids now : List (NodeValue A)) (at : ℕ) (p : PageMarks) → at ≤ length pages
      → p.known ≡ false → OpensAt at kids now → AreMarkedBy labels pages kids → AreMarkedBy labels (insert pages at p) now
  marked_open labels pages kids now at p fits none opens marked = λ i q v page known kid.
      elim (cases_lt i at) [
        | inl less ↦
            let low : i < length pages = omega (arith, less, fits) in
            marked i q v (low, page.1 ∙ get_or-insert_below pages at p q i less fits) known ((opens i v kid).0 less)
        | inr over ↦
            elim (cases_lt at i) [
              | inl more ↦
                  let before : (i - 1) + 1 ≡ i = omega (arith, more) in
                  let low : i - 1 < length pages = omega (arith, page.0, length-insert pages at p fits, more) in
                  let read = ap (λ j. get_or (insert pages at p) j q) (sym before) ∙ get_or-insert_above pages at p q (i - 1) (omega (arith, more)) fits in
                  marked (i - 1) q v (low, page.1 ∙ read) known ((opens i v kid).1 more)
              | inr under ↦
                  let same : i ≡ at = omega (arith, over, under) in
                  let one : q ≡ p = page.1 ∙ ap (λ j. get_or (insert pages at p) j q) same ∙ get_or-insert_at pages at p q fits in
                  let off : q.known ≡ false = ap (λ (r : PageMarks). r.known) one ∙ none in
                  cc
            ]
      ]

  -- fewer pages have marks
  pub marked_open_past : (labels : List Text) (pages : List PageMarks) (kids now : List (NodeValue A)) (at : ℕ) → length pages < at → OpensAt at kids now
      → AreMarkedBy labels pages kids → AreMarkedBy labels pages now
  marked_open_past labels pages kids now at over opens marked = λ i q v page known kid.
      marked i q v page known ((opens i v kid).0 (omega (arith, page.0, over)))

  -- a page goes
  pub marked_close : (labels : List Text) (pages : List PageMarks) (kids now : List (NodeValue A)) (at : ℕ) → at < length pages → ClosesAt at kids now
      → AreMarkedBy labels pages kids → AreMarkedBy labels (remove pages at) now
  marked_close labels pages kids now at fits closes marked = λ i q v page known kid.
      elim (cases_lt i at) [
        | inl less ↦
            let low : i < length pages = omega (arith, less, fits) in
            marked i q v (low, page.1 ∙ get_or-remove_below pages at q i less fits) known ((closes i v kid).0 less)
        | inr over ↦
            let low : i + 1 < length pages = omega (arith, page.0, length-remove pages at fits) in
            marked (i + 1) q v (low, page.1 ∙ get_or-remove_above pages at q i over fits) known ((closes i v kid).1 over)
      ]

  pub marked_close_past : (labels : List Text) (pages : List PageMarks) (kids now : List (NodeValue A)) (at : ℕ) → length pages ≤ at → ClosesAt at kids now
      → AreMarkedBy labels pages kids → AreMarkedBy labels pages now
  marked_close_past labels pages kids now at over closes marked = λ i q v page known kid.
      marked i q v page known ((closes i v kid).0 (omega (arith, page.0, over)))

  -- what taking from a page says, as its node says it
  pub page_changed : {X : Type 0} (taken : Option X) (height : ℕ) (change : Change) (was is : List (PageValue A)) (old new : List (EntryValue A))
      → entries_of_pages was ≡ old → entries_of_pages is ≡ new → IfSome taken (λ _. IsChange change old new)
      → IfSome taken (λ _. height ≡ 0 → IsChange change (entries_of_pages was) (entries_of_pages is))
  page_changed None height change was is old new a b h = tt
  page_changed (Some x) height change was is old new a b h = λ low. subst (λ es. IsChange change es (entries_of_pages is)) (sym a) (subst (IsChange change old) (sym b) h)

  -- a child that has changed stands where it stood
  pub changed_kid : (kids : List (NodeValue A)) (i : ℕ) (kid v x : NodeValue A) (change : Change) → i < length kids → x ≡ get_or (set kids i v) i x
      → v.height ≡ kid.height → (kid.height ≡ 0 → IsChange change (entries_of_pages kid.pages) (entries_of_pages v.pages))
      → HasAt (set kids i v) i x × (x.height ≡ 0 → IsChange change (entries_of_pages kid.pages) (entries_of_pages x.pages))
  changed_kid kids i kid v x change low read height changed =
      let is : x ≡ v = read ∙ get_or-set_same kids i v x low in (
        (omega (arith, low, length-set kids i v), read),
        λ none. subst (λ (y : NodeValue A). IsChange change (entries_of_pages kid.pages) (entries_of_pages y.pages)) (sym is)
            (changed (sym height ∙ ap (λ (y : NodeValue A). y.height) (sym is) ∙ none)),
      )
