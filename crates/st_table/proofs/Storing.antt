-- A table's changes among the rows of all tables.
use Rattle.std.proofs.Common.{◌≡◌, ◌≤◌, length, List, [], ◌∷◌, ◌++◌, filter, map, Bool, true, false, not, refl, sym, ap, ◌∙◌, subst, arith}
use Rattle.std.proofs.lemmas.List.{append_assoc}
use Rattle.std.proofs.lemmas.List.Elements.{filter-append as filter_append}
use Rattle.st_key.specs.declared.period.Period.{Period}
use Rattle.st_text.specs.Texts.{Text, same, comes_before, put_in_order, in_order}
use Rattle.st_text.proofs.Same.{same-refl}
use Rattle.st_index.specs.declared.row.Row.{Row}
use Rattle.st_index.specs.Order.{InScanOrder, scan_key}
use Rattle.st_table.specs.Rows.{Held, full_name, is_held, put_row, without_row, without_table}
use Rattle.st_index.specs.inner.Entries.{name_of}
use Rattle.st_table.specs.Table.{is_named, with_row, without_named}
use Rattle.st_table.specs.inner.Once.{HasEachOnce, rows_with_name}
use Rattle.st_index.proofs.Sorting.{in_order_already, scan_filter}
use Rattle.st_text.proofs.Resorting.{Apart, filter_in_order, in_order_anywhere}
use Rattle.st_table.proofs.Replacing.{bears}
use Rattle.st_table.proofs.Resorting.{put_anywhere_is, same_full}

record Split {X : Type 0} (x : X) (ys zs : List X) : Type 0 where
  front : List X
  back : List X
  old_is : ys ≡ front ++ back
  new_is : zs ≡ front ++ x ∷ back

split : {X : Type 0} (key : X → List Text) (x : X) (ys : List X) → Split x ys (put_in_order key x ys)
split key x [] = record { front = []; back = []; old_is = refl; new_is = refl }
split {X} key x (y ∷ ys) = at (comes_before (key y) (key x)) refl (split key x ys)
  where
    at : (b : Bool) → comes_before (key y) (key x) ≡ b → Split x ys (put_in_order key x ys) → Split x (y ∷ ys) (put_in_order key x (y ∷ ys))
    at true e s = rw e (record { front = y ∷ s.front; back = s.back; old_is = ap (λ zs. y ∷ zs) s.old_is; new_is = ap (λ zs. y ∷ zs) s.new_is })
    at false e s = rw e (record { front = []; back = y ∷ ys; old_is = refl; new_is = refl })

map_append : {X Y : Type 0} (f : X → Y) (xs ys : List X) → map f (xs ++ ys) ≡ map f xs ++ map f ys
map_append f [] ys = refl
map_append f (x ∷ xs) ys = ap (λ zs. f x ∷ zs) (map_append f xs ys)

apart_append : {X : Type 0} (key : X → List Text) (x : X) (xs ys : List X) → Apart key x xs → Apart key x ys → Apart key x (xs ++ ys)
apart_append key x [] ys a b = b
apart_append key x (y ∷ xs) ys a b = (a.0, apart_append key x xs ys a.1 b)

none_ahead : {X : Type 0} (f : X → Bool) (front back : List X) → filter f (front ++ back) ≡ [] → filter f front ≡ []
none_ahead f front back h = first (filter f front) (filter f back) (sym (filter_append f front back) ∙ h)
  where
    first : {X : Type 0} (xs ys : List X) → xs ++ ys ≡ [] → xs ≡ []
    first [] ys p = refl
    first (x ∷ xs) ys p = cc

-- no two rows of one name
module _ {A : Type 0} where
  pub once_head : (r : Row A) (rs : List (Row A)) → HasEachOnce (r ∷ rs) → rows_with_name (name_of r) rs ≡ []
  once_head r rs once = none (rows_with_name (name_of r) rs) (subst (λ xs. length xs ≤ 1) first (once (name_of r)))
    where
      yes : is_named r.id r.label r ≡ true
      yes = bears (name_of r) r refl

      first : rows_with_name (name_of r) (r ∷ rs) ≡ r ∷ rows_with_name (name_of r) rs
      first = simp yes

      none : (xs : List (Row A)) → length (r ∷ xs) ≤ 1 → xs ≡ []
      none [] h = refl
      none (x ∷ xs) h = absurd (omega (arith, h))

  pub once_tail : (r : Row A) (rs : List (Row A)) → HasEachOnce (r ∷ rs) → HasEachOnce rs
  once_tail r rs once name = at (is_named name.id name.label r) refl
    where
      at : (b : Bool) → is_named name.id name.label r ≡ b → length (rows_with_name name rs) ≤ 1
      at true e =
          let first : rows_with_name name (r ∷ rs) ≡ r ∷ rows_with_name name rs = simp e in
          let h : length (r ∷ rows_with_name name rs) ≤ 1 = subst (λ xs. length xs ≤ 1) first (once name) in
          omega (arith, h)
      at false e =
          let first : rows_with_name name (r ∷ rs) ≡ rows_with_name name rs = simp e in
          subst (λ xs. length xs ≤ 1) first (once name)

module _ {A : Type 0} (table : Text) where
  abbrev held : Row A → Held A
  held row = record { table = table; row = row }

  -- no row is in the table
  abbrev pub Elsewhere : List (Held A) → Type 0
  Elsewhere [] = Unit {0}
  Elsewhere (h ∷ hs) = (same h.table table ≡ false) × Elsewhere hs

  pub elsewhere : (hs : List (Held A)) → filter (λ (h : Held A). same h.table table) hs ≡ [] → Elsewhere hs
  elsewhere [] e = tt
  elsewhere (h ∷ hs) e = at (same h.table table) refl (elsewhere hs)
    where
      cons_nil : (zs : List (Held A)) → h ∷ zs ≡ [] → ⊥
      cons_nil zs p = cc

      at : (b : Bool) → same h.table table ≡ b → (filter (λ (k : Held A). same k.table table) hs ≡ [] → Elsewhere hs) → Elsewhere (h ∷ hs)
      at true f ih = let t : h ∷ filter (λ (k : Held A). same k.table table) hs ≡ [] = simp f at e in absurd (cons_nil (filter (λ (k : Held A). same k.table table) hs) t)
      at false f ih = let t : filter (λ (k : Held A). same k.table table) hs ≡ [] = simp f at e in (f, ih t)

  keeps : (id label : Text) (hs : List (Held A)) → Elsewhere hs → without_row table id label hs ≡ hs
  keeps id label [] e = refl
  keeps id label (h ∷ hs) e = let a = e.0 in let ih = keeps id label hs e.1 in simp (a, ih)

  drops : (id label : Text) (rows : List (Row A)) → without_row table id label (map held rows) ≡ map held (without_named id label rows)
  drops id label [] = refl
  drops id label (r ∷ rs) = at (is_named id label r) refl (drops id label rs)
    where
      at : (b : Bool) → is_named id label r ≡ b → without_row table id label (map held rs) ≡ map held (without_named id label rs)
          → without_row table id label (map held (r ∷ rs)) ≡ map held (without_named id label (r ∷ rs))
      at true e ih = let t = same-refl table in simp (t, e, ih)
      at false e ih = let t = same-refl table in simp (t, e, ih)

  around : (id label : Text) (front back : List (Held A)) (rows : List (Row A)) → Elsewhere front → Elsewhere back
      → without_row table id label (front ++ (map held rows ++ back)) ≡ front ++ (map held (without_named id label rows) ++ back)
  around id label front back rows f b =
      let q : Held A → Bool = λ h. not (is_held table id label h) in
      let inner : filter q (map held rows ++ back) ≡ map held (without_named id label rows) ++ back =
      filter_append q (map held rows) back ∙ ap (λ xs. xs ++ filter q back) (drops id label rows) ∙ ap (λ xs. map held (without_named id label rows) ++ xs) (keeps id label back b) in
      filter_append q front (map held rows ++ back) ∙ ap (λ xs. xs ++ filter q (map held rows ++ back)) (keeps id label front f) ∙ ap (λ xs. front ++ xs) inner

  pub table_put : (period : Period) (row : Row A) (rows : List (Row A)) (front back : List (Held A)) → InScanOrder period rows → Elsewhere front → Elsewhere back
      → in_order full_name (front ++ (map held (with_row period row rows) ++ back)) ≡ put_row (held row) (in_order full_name (front ++ (map held rows ++ back)))
  table_put period row rows front back sorted f b =
      let left = without_named row.id row.label rows in
      let S = scan_key {A = A} period in
      let tidy : in_order S left ≡ left = in_order_already period left (scan_filter period (λ r. not (is_named row.id row.label r)) rows sorted) in
      let s = split S row left in
      let is : with_row period row rows ≡ s.front ++ row ∷ s.back = ap (put_in_order S row) tidy ∙ s.new_is in
      let fronts = front ++ map held s.front in
      let backs = map held s.back ++ back in
      let cut : front ++ (map held (s.front ++ row ∷ s.back) ++ back) ≡ fronts ++ held row ∷ backs =
      ap (λ xs. front ++ (xs ++ back)) (map_append held s.front (row ∷ s.back))
      ∙ ap (λ xs. front ++ xs) (append_assoc (map held s.front) (held row ∷ map held s.back) back)
      ∙ sym (append_assoc front (map held s.front) (held row ∷ backs)) in
      let others : fronts ++ backs ≡ without_row table row.id row.label (front ++ (map held rows ++ back)) =
      append_assoc front (map held s.front) backs
      ∙ ap (λ xs. front ++ xs) (sym (append_assoc (map held s.front) (map held s.back) back))
      ∙ ap (λ xs. front ++ (xs ++ back)) (sym (map_append held s.front s.back) ∙ ap (map held) (sym s.old_is))
      ∙ sym (around row.id row.label front back rows f b) in
      ap (λ xs. in_order full_name (front ++ (map held xs ++ back))) is ∙ ap (in_order full_name) cut
      ∙ put_anywhere_is (held row) (front ++ (map held rows ++ back)) fronts backs others

  pub table_delete : (id label : Text) (rows : List (Row A)) (front back : List (Held A)) → Elsewhere front → Elsewhere back
      → in_order full_name (front ++ (map held (without_named id label rows) ++ back)) ≡ without_row table id label (in_order full_name (front ++ (map held rows ++ back)))
  table_delete id label rows front back f b =
      ap (in_order full_name) (sym (around id label front back rows f b))
      ∙ sym (filter_in_order full_name (λ (h : Held A). not (is_held table id label h)) (front ++ (map held rows ++ back)))

  others : (hs : List (Held A)) → Elsewhere hs → without_table table hs ≡ hs
  others [] e = refl
  others (h ∷ hs) e = let a = e.0 in let ih = others hs e.1 in simp (a, ih)

  all_dropped : (rows : List (Row A)) → without_table table (map held rows) ≡ []
  all_dropped [] = refl
  all_dropped (r ∷ rs) = let t = same-refl table in let ih = all_dropped rs in simp (t, ih)

  pub table_dropped : (rows : List (Row A)) (front back : List (Held A)) → Elsewhere front → Elsewhere back
      → in_order full_name (front ++ back) ≡ without_table table (in_order full_name (front ++ (map held rows ++ back)))
  table_dropped rows front back f b =
      let q : Held A → Bool = λ h. not (same h.table table) in
      let inner : filter q (map held rows ++ back) ≡ back =
      filter_append q (map held rows) back ∙ ap (λ xs. xs ++ filter q back) (all_dropped rows) ∙ others back b in
      let left : filter q (front ++ (map held rows ++ back)) ≡ front ++ back =
      filter_append q front (map held rows ++ back) ∙ ap (λ xs. xs ++ filter q (map held rows ++ back)) (others front f) ∙ ap (λ xs. front ++ xs) inner in
      ap (in_order full_name) (sym left) ∙ sym (filter_in_order full_name q (front ++ (map held rows ++ back)))

  apart_elsewhere : (r : Row A) (hs : List (Held A)) → Elsewhere hs → Apart full_name (held r) hs
  apart_elsewhere r [] e = tt
  apart_elsewhere r (h ∷ hs) e = (λ eq. clash (same_full h (held r) eq), apart_elsewhere r hs e.1)
    where
      differ : false ≡ true → ⊥
      differ p = cc

      clash : is_held table r.id r.label h ≡ true → ⊥
      clash p = let a = e.0 in let t : is_held table r.id r.label h ≡ false = simp a in differ (sym t ∙ p)

  apart_named : (r : Row A) (rows : List (Row A)) → filter (is_named r.id r.label) rows ≡ [] → Apart full_name (held r) (map held rows)
  apart_named r [] none = tt
  apart_named r (s ∷ ss) none = at (is_named r.id r.label s) refl (apart_named r ss)
    where
      cons_nil : (xs : List (Row A)) → s ∷ xs ≡ [] → ⊥
      cons_nil xs p = cc

      differ : false ≡ true → ⊥
      differ p = cc

      at : (b : Bool) → is_named r.id r.label s ≡ b → (filter (is_named r.id r.label) ss ≡ [] → Apart full_name (held r) (map held ss))
          → Apart full_name (held r) (map held (s ∷ ss))
      at true e ih = let t : s ∷ filter (is_named r.id r.label) ss ≡ [] = simp e at none in absurd (cons_nil (filter (is_named r.id r.label) ss) t)
      at false e ih =
          let t : filter (is_named r.id r.label) ss ≡ [] = simp e at none in
          let a = same-refl table in
          let other : is_held table r.id r.label (held s) ≡ false = simp (a, e) in
          (λ eq. differ (sym other ∙ same_full (held s) (held r) eq), ih t)

  -- rows in another order make the same list of all tables' rows
  pub resorted : (order : Row A → List Text) (rows : List (Row A)) (front back : List (Held A)) → Elsewhere front → HasEachOnce rows
      → in_order full_name (front ++ (map held (in_order order rows) ++ back)) ≡ in_order full_name (front ++ (map held rows ++ back))
  resorted order [] front back f once = refl
  resorted order (r ∷ rs) front back f once =
      let named : Row A → Bool = is_named r.id r.label in
      let sorted = in_order order rs in
      let s = split order r sorted in
      let none : filter named sorted ≡ [] = filter_in_order order named rs ∙ ap (in_order order) (once_head r rs once) in
      let ahead : filter named s.front ≡ [] = none_ahead named s.front s.back (subst (λ xs. filter named xs ≡ []) s.old_is none) in
      let fronts = front ++ map held s.front in
      let backs = map held s.back ++ back in
      let cut : front ++ (map held (s.front ++ r ∷ s.back) ++ back) ≡ fronts ++ held r ∷ backs =
      ap (λ xs. front ++ (xs ++ back)) (map_append held s.front (r ∷ s.back))
      ∙ ap (λ xs. front ++ xs) (append_assoc (map held s.front) (held r ∷ map held s.back) back)
      ∙ sym (append_assoc front (map held s.front) (held r ∷ backs)) in
      let join : fronts ++ backs ≡ front ++ (map held sorted ++ back) =
      append_assoc front (map held s.front) backs
      ∙ ap (λ xs. front ++ xs) (sym (append_assoc (map held s.front) (map held s.back) back))
      ∙ ap (λ xs. front ++ (xs ++ back)) (sym (map_append held s.front s.back) ∙ ap (map held) (sym s.old_is)) in
      ap (λ xs. in_order full_name (front ++ (map held xs ++ back))) s.new_is ∙ ap (in_order full_name) cut
      ∙ in_order_anywhere full_name fronts (held r) backs (apart_append full_name (held r) front (map held s.front) (apart_elsewhere r front f) (apart_named r s.front ahead))
      ∙ ap (λ xs. put_in_order full_name (held r) (in_order full_name xs)) join
      ∙ ap (put_in_order full_name (held r)) (resorted order rs front back f (once_tail r rs once))
      ∙ sym (in_order_anywhere full_name front (held r) (map held rs ++ back) (apart_elsewhere r front f))
