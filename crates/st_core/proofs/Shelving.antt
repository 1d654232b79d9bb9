-- What a change of one table makes of the list of tables.
use Rattle.std.proofs.Common.{◌≡◌, ◌<◌, ℕ, zero, suc, List, [], ◌∷◌, ◌++◌, length, filter, map, Bool, true, false, not, Some, None, Result, Ok, Err}
use Rattle.std.proofs.Common.{OnOk, OnErr, IsOk, refl, sym, ap, ◌∙◌, subst, arith}
use Rattle.std.specs.Prelude.{slice_index_or, slice_set, is_some}
use Rattle.std.specs.List.{insert, remove}
use Rattle.std.proofs.Math.Seq.{map-set_same}
use Rattle.std.proofs.lemmas.List.{append-nil, append_assoc, map-set}
use Rattle.std.proofs.lemmas.List.Elements.{filter-append as filter_append}
use Rattle.std.proofs.Math.ListN.{get_or-map}
use Rattle.st_text.specs.Texts.{Text, same, in_order}
use Rattle.st_text.proofs.Same.{same-eq, same-refl}
use Rattle.st_key.specs.declared.period.Period.{Period}
use Rattle.st_dir.specs.Sorted.{Rises, ComesFirst}
use Rattle.st_dir.specs.inner.Places.{IsAlone, IsPlace, NoneOf, NoneBefore}
use Rattle.st_dir.proofs.Sorted.{changed, found, none_found, none_from_find, put_in, taken_out, back, rises_changed, rises_filter, rises_in}
use Rattle.st_dir.proofs.Keys.{own_name}
use Rattle.st_index.specs.declared.row.Row.{Row}
use Rattle.st_index.specs.Order.{InScanOrder, scan_key}
use Rattle.st_table.specs.Rows.{Held, full_name, put_row, rows_in_table, without_row, without_table}
use Rattle.st_table.specs.inner.Joined.{all_held}
use Rattle.st_table.specs.Table.{rows_by_label, with_row, without_named}
use Rattle.st_table.specs.inner.Once.{HasEachOnce}
use Rattle.st_table.proofs.Storing.{elsewhere, table_put, table_delete, table_dropped, resorted}
use Rattle.st_table.proofs.Reading.{seen_is}
use Rattle.st_table.proofs.Getting.{got_is}
use Rattle.st_core.specs.inner.Tables.{Heading, heading_key, heading_named, headings_with, headings_without, is_of, tables_without}
use Rattle.st_core.specs.inner.Shelves.{heading_of, headings_in, rows_in, tables_in}
use Rattle.st_core.specs.declared.store.tables.Shelf.{Shelf}

clash : false ≡ true → ⊥
clash p = cc

map_insert : {X Y : Type 0} (f : X → Y) (xs : List X) (i : ℕ) (x : X) → map f (insert xs i x) ≡ insert (map f xs) i (f x)
map_insert f xs zero x = refl
map_insert f [] (suc i) x = refl
map_insert f (y ∷ ys) (suc i) x = ap (λ zs. f y ∷ zs) (map_insert f ys i x)

map_remove : {X Y : Type 0} (f : X → Y) (xs : List X) (i : ℕ) → map f (remove xs i) ≡ remove (map f xs) i
map_remove f [] zero = refl
map_remove f [] (suc i) = refl
map_remove f (x ∷ xs) zero = refl
map_remove f (x ∷ xs) (suc i) = ap (λ zs. f x ∷ zs) (map_remove f xs i)

-- what follows from a change and from none
pub either_way : {X E P Q Z : Type 0} (r : Result X E) → OnOk r P → OnErr r Q → (P → Z) → (Q → Z) → Z
either_way (Ok x) p q f g = f p
either_way (Err e) p q f g = g q

-- what follows where there is surely a value
pub surely : {X E P : Type 0} (r : Result X E) → IsOk r → OnOk r P → P
surely (Ok x) is p = p
surely (Err e) is p = absurd (clash is)

-- ---- the order of tables is that of their headings

module _ {A : Type 0} where
  abbrev key : Shelf A → List Text
  key shelf = heading_key (heading_of shelf)

  first_shelf : (t : Shelf A) (ts : List (Shelf A)) → ComesFirst heading_key (heading_of t) (headings_in ts) → ComesFirst key t ts
  first_shelf t [] h = tt
  first_shelf t (u ∷ us) h = (h.0, first_shelf t us h.1)

  pub rises_shelves : (ts : List (Shelf A)) → Rises heading_key (headings_in ts) → Rises key ts
  rises_shelves [] h = tt
  rises_shelves (t ∷ ts) h = (first_shelf t ts h.0, rises_shelves ts h.1)

  none_headings : (wanted : List Text) (ts : List (Shelf A)) → NoneBefore key wanted ts → NoneBefore heading_key wanted (headings_in ts)
  none_headings wanted [] h = tt
  none_headings wanted (t ∷ ts) h = (h.0, none_headings wanted ts h.1)

  pub place_headings : (wanted : List Text) (ts : List (Shelf A)) (i : ℕ) → IsPlace key wanted ts i → IsPlace heading_key wanted (headings_in ts) i
  place_headings wanted ts zero h = none_headings wanted ts h
  place_headings wanted [] (suc i) h = h
  place_headings wanted (t ∷ ts) (suc i) h = (h.0, place_headings wanted ts i h.1)

module _ {A : Type 0} (name : Text) where
  abbrev mine : Held A → Bool
  mine held = same held.table name

  others : (own : Text) → same own name ≡ false → (rows : List (Row A)) → filter mine (all_held own rows) ≡ []
  others own apart [] = refl
  others own apart (r ∷ rs) = let ih = others own apart rs in simp (apart, ih)

  all_mine : (rows : List (Row A)) → filter mine (all_held name rows) ≡ all_held name rows
  all_mine [] = refl
  all_mine (r ∷ rs) = let t = same-refl name in let ih = all_mine rs in simp (t, ih)

  none_held : (ts : List (Shelf A)) → NoneOf (is_of name) (headings_in ts) → filter mine (rows_in ts) ≡ []
  none_held [] none = refl
  none_held (t ∷ ts) none =
      filter_append mine (all_held t.name t.table.rows) (rows_in ts) ∙ ap (λ xs. xs ++ filter mine (rows_in ts)) (others t.name none.0 t.table.rows)
      ∙ none_held ts none.1

  -- ---- the place of a table that is there

  pub is_there : (ts : List (Shelf A)) (i : ℕ) → IsAlone (is_of name) (headings_in ts) i → is_some (heading_named name (headings_in ts)) ≡ true
      → (i < length ts) × ((d : Shelf A) → is_of name (heading_of (slice_index_or ts i d)) ≡ true)
  is_there [] i alone there = absurd (clash there)
  is_there (t ∷ ts) zero alone there = (omega arith, λ d. at (is_of name (heading_of t)) refl)
    where
      at : (b : Bool) → is_of name (heading_of t) ≡ b → is_of name (heading_of t) ≡ true
      at true e = e
      at false e =
          let none : heading_named name (headings_in (t ∷ ts)) ≡ None = none_found heading_key (is_of name) (headings_in (t ∷ ts)) (e, alone) in
          absurd (clash (ap is_some (sym none) ∙ there))
  is_there (t ∷ ts) (suc i) alone there =
      let e = alone.0 in
      let rest : is_some (heading_named name (headings_in ts)) ≡ true = simp e at there in
      let ih = is_there ts i alone.1 rest in
      (omega (arith, ih.0), ih.1)

  -- ---- the rows of one table among those of all

  pub record Cut (ts : List (Shelf A)) (i : ℕ) (t : Shelf A) : Type 0 where
    pub front : List (Held A)
    pub back : List (Held A)
    pub none_ahead : filter mine front ≡ []
    pub none_behind : filter mine back ≡ []
    pub here : rows_in ts ≡ front ++ (all_held name t.table.rows ++ back)
    pub set : (u : Shelf A) → u.name ≡ name → rows_in (slice_set ts i u) ≡ front ++ (all_held name u.table.rows ++ back)
    pub taken : rows_in (remove ts i) ≡ front ++ back

  pub cut : (ts : List (Shelf A)) (i : ℕ) (d : Shelf A) → IsAlone (is_of name) (headings_in ts) i → i < length ts
      → is_of name (heading_of (slice_index_or ts i d)) ≡ true → Cut ts i (slice_index_or ts i d)
  cut [] i d alone less e = absurd (omega arith)
  cut (t ∷ ts) zero d alone less e = record {
    front = [];
    back = rows_in ts;
    none_ahead = refl;
    none_behind = none_held ts alone;
    here = ap (λ n. all_held n t.table.rows ++ rows_in ts) (same-eq t.name name e);
    set = λ u own. ap (λ n. all_held n u.table.rows ++ rows_in ts) own;
    taken = refl;
  }
  cut (t ∷ ts) (suc i) d alone less e =
      let c = cut ts i d alone.1 (omega arith) e in
      let own : List (Held A) = all_held t.name t.table.rows in
      let at = slice_index_or ts i d in
      record {
        front = own ++ c.front;
        back = c.back;
        none_ahead = filter_append mine own c.front ∙ ap (λ xs. xs ++ filter mine c.front) (others t.name alone.0 t.table.rows) ∙ c.none_ahead;
        none_behind = c.none_behind;
        here = ap (λ xs. own ++ xs) c.here ∙ sym (append_assoc own c.front (all_held name at.table.rows ++ c.back));
        set = λ u is. ap (λ xs. own ++ xs) (c.set u is) ∙ sym (append_assoc own c.front (all_held name u.table.rows ++ c.back));
        taken = ap (λ xs. own ++ xs) c.taken ∙ sym (append_assoc own c.front c.back);
      }

  -- one table, where it stands
  pub record Stands (ts : List (Shelf A)) (i : ℕ) (t : Shelf A) : Type 0 where
    pub named : t.name ≡ name
    pub is : t ≡ slice_index_or ts i t
    pub inside : i < length ts
    pub alone : IsAlone (is_of name) (headings_in ts) i
    pub parts : Cut ts i t

  pub stands : (ts : List (Shelf A)) (i : ℕ) (t : Shelf A) → IsAlone (is_of name) (headings_in ts) i → i < length ts
      → ((d : Shelf A) → is_of name (heading_of (slice_index_or ts i d)) ≡ true) → t ≡ slice_index_or ts i t → Stands ts i t
  stands ts i t alone less e is = record {
    named = ap (λ u. u.name) is ∙ same-eq (slice_index_or ts i t).name name (e t);
    is = is;
    inside = less;
    alone = alone;
    parts = subst (Cut ts i) (sym is) (cut ts i t alone less (e t));
  }

  module _ (ts : List (Shelf A)) (i : ℕ) (t : Shelf A) (s : Stands ts i t) where
    same_headings : (u : Shelf A) → heading_of u ≡ heading_of t → headings_in (slice_set ts i u) ≡ headings_in ts
    same_headings u e = map-set_same heading_of ts i u t (e ∙ ap heading_of s.is)

    pub put_is : (u : Shelf A) (row : Row A) → InScanOrder t.table.period t.table.rows
        → u ≡ record t { table = record t.table { rows = with_row t.table.period row t.table.rows } }
        → tables_in (slice_set ts i u) ≡ record (tables_in ts) { rows = put_row (record { table = name; row = row }) (tables_in ts).rows }
    put_is u row sorted is =
        let p = s.parts in
        let rows = ap (in_order full_name) (p.set u (ap (λ v. v.name) is ∙ s.named) ∙ ap (λ v. p.front ++ (all_held name v.table.rows ++ p.back)) is)
        ∙ table_put name t.table.period row t.table.rows p.front p.back sorted (elsewhere name p.front p.none_ahead) (elsewhere name p.back p.none_behind)
        ∙ ap (λ xs. put_row (record { table = name; row = row }) (in_order full_name xs)) (sym p.here) in
        let headings = same_headings u (ap heading_of is) in
        λ k. record { headings = headings k; rows = rows k }

    pub delete_is : (u : Shelf A) (id label : Text) → u ≡ record t { table = record t.table { rows = without_named id label t.table.rows } }
        → tables_in (slice_set ts i u) ≡ record (tables_in ts) { rows = without_row name id label (tables_in ts).rows }
    delete_is u id label is =
        let p = s.parts in
        let rows = ap (in_order full_name) (p.set u (ap (λ v. v.name) is ∙ s.named) ∙ ap (λ v. p.front ++ (all_held name v.table.rows ++ p.back)) is)
        ∙ table_delete name id label t.table.rows p.front p.back (elsewhere name p.front p.none_ahead) (elsewhere name p.back p.none_behind)
        ∙ ap (λ xs. without_row name id label (in_order full_name xs)) (sym p.here) in
        let headings = same_headings u (ap heading_of is) in
        λ k. record { headings = headings k; rows = rows k }

    pub left : (u : Shelf A) → u ≡ t → tables_in (slice_set ts i u) ≡ tables_in ts
    left u is =
        let p = s.parts in
        let rows = ap (in_order full_name) (p.set u (ap (λ v. v.name) is ∙ s.named) ∙ ap (λ v. p.front ++ (all_held name v.table.rows ++ p.back)) is ∙ sym p.here) in
        let headings = same_headings u (ap heading_of is) in
        λ k. record { headings = headings k; rows = rows k }

    pub same_rises : (u : Shelf A) → heading_of u ≡ heading_of t → Rises heading_key (headings_in ts) → Rises heading_key (headings_in (slice_set ts i u))
    same_rises u e rises = subst (Rises heading_key) (sym (same_headings u e)) rises

    there : is_of name (heading_of (slice_index_or ts i t)) ≡ true
    there = subst (λ v. same v.name name ≡ true) s.is (subst (λ n. same n name ≡ true) (sym s.named) (same-refl name))

    heading_at : slice_index_or (headings_in ts) i (heading_of t) ≡ heading_of (slice_index_or ts i t)
    heading_at = get_or-map heading_of ts i t

    length_in : (us : List (Shelf A)) → length (headings_in us) ≡ length us
    length_in [] = refl
    length_in (v ∷ us) = ap suc (length_in us)

    inside_headings : i < length (headings_in ts)
    inside_headings = omega (arith, length_in ts, s.inside)

    there_heading : is_of name (slice_index_or (headings_in ts) i (heading_of t)) ≡ true
    there_heading = ap (is_of name) heading_at ∙ there

    rebuilt_headings : (u : Shelf A) (period : Period) → heading_of u ≡ record (heading_of t) { period = period }
        → headings_in (slice_set ts i u) ≡ headings_with name period (headings_in ts)
    rebuilt_headings u period e =
        let f : Heading → Heading = λ h. record h { period = period } in
        map-set heading_of ts i u
        ∙ ap (slice_set (headings_in ts) i) (e ∙ ap f (ap heading_of s.is ∙ sym heading_at))
        ∙ changed heading_key (is_of name) f (headings_in ts) i (heading_of t) s.alone inside_headings there_heading

    pub rebuild_is : (u : Shelf A) (period : Period) → HasEachOnce t.table.rows
        → u ≡ record t { table = record { period = period; rows = in_order (scan_key period) t.table.rows } }
        → tables_in (slice_set ts i u) ≡ record (tables_in ts) { headings = headings_with name period (headings_in ts) }
    rebuild_is u period once is =
        let p = s.parts in
        let rows = ap (in_order full_name) (p.set u (ap (λ v. v.name) is ∙ s.named) ∙ ap (λ v. p.front ++ (all_held name v.table.rows ++ p.back)) is)
        ∙ resorted name (scan_key period) t.table.rows p.front p.back (elsewhere name p.front p.none_ahead) once
        ∙ ap (in_order full_name) (sym p.here) in
        let headings = rebuilt_headings u period (ap heading_of is) in
        λ k. record { headings = headings k; rows = rows k }

    pub rebuilt_rises : (u : Shelf A) (period : Period) → u ≡ record t { table = record { period = period; rows = in_order (scan_key period) t.table.rows } }
        → Rises heading_key (headings_in ts) → Rises heading_key (headings_in (slice_set ts i u))
    rebuilt_rises u period is rises =
        subst (Rises heading_key) (sym (rebuilt_headings u period (ap heading_of is)))
        (rises_changed heading_key (is_of name) (λ h. record h { period = period }) (λ h. refl) (headings_in ts) rises)

    removed_headings : headings_in (remove ts i) ≡ headings_without name (headings_in ts)
    removed_headings =
        map_remove heading_of ts i ∙ taken_out heading_key (is_of name) (headings_in ts) i (heading_of t) s.alone inside_headings there_heading

    pub remove_is : tables_in (remove ts i) ≡ tables_without name (tables_in ts)
    remove_is =
        let p = s.parts in
        let rows = ap (in_order full_name) p.taken
        ∙ table_dropped name t.table.rows p.front p.back (elsewhere name p.front p.none_ahead) (elsewhere name p.back p.none_behind)
        ∙ ap (λ xs. without_table name (in_order full_name xs)) (sym p.here) in
        let headings = removed_headings in
        λ k. record { headings = headings k; rows = rows k }

    pub removed_rises : Rises heading_key (headings_in ts) → Rises heading_key (headings_in (remove ts i))
    removed_rises rises = subst (Rises heading_key) (sym removed_headings) (rises_filter heading_key (λ h. not (is_of name h)) (headings_in ts) rises)

    -- ---- reading

    own_rows : filter mine (rows_in ts) ≡ all_held name t.table.rows
    own_rows =
        let p = s.parts in
        let rows : List (Held A) = all_held name t.table.rows in
        ap (filter mine) p.here
        ∙ filter_append mine p.front (rows ++ p.back)
        ∙ ap (λ xs. xs ++ filter mine (rows ++ p.back)) p.none_ahead
        ∙ filter_append mine rows p.back
        ∙ ap (λ xs. xs ++ filter mine p.back) (all_mine t.table.rows)
        ∙ ap (λ xs. rows ++ xs) p.none_behind
        ∙ append-nil rows

    pub scans_are : InScanOrder t.table.period t.table.rows → (test : Row A → Bool)
        → in_order (scan_key t.table.period) (filter test (rows_in_table name (tables_in ts).rows)) ≡ filter test t.table.rows
    scans_are sorted test = seen_is t.table.period name test (rows_in ts) t.table.rows own_rows sorted

    pub gets_are : HasEachOnce t.table.rows → (id : Text) (test : Row A → Bool)
        → rows_by_label id test (rows_in_table name (tables_in ts).rows) ≡ rows_by_label id test t.table.rows
    gets_are once id test = got_is id test name (rows_in ts) t.table.rows own_rows once

    pub heading_is : heading_named name (headings_in ts) ≡ Some (record { table = name; period = t.table.period })
    heading_is =
        let named = s.named in
        found heading_key (is_of name) (headings_in ts) i (heading_of t) s.alone inside_headings there_heading
        ∙ ap Some (heading_at ∙ sym (ap heading_of s.is)) ∙ ap (λ n. Some (record { table = n; period = t.table.period })) named

  -- ---- a new table

  module _ (ts : List (Shelf A)) (i : ℕ) (t : Shelf A) (named : t.name ≡ name) (rises : Rises heading_key (headings_in ts))
      (place : IsPlace heading_key (name ∷ []) (headings_in ts) i) (free : heading_named name (headings_in ts) ≡ None) where
    none : NoneOf (is_of name) (headings_in ts)
    none = none_from_find heading_key (is_of name) (headings_in ts) free

    at_place : IsPlace heading_key (heading_key (heading_of t)) (headings_in ts) i
    at_place = subst (λ n. IsPlace heading_key (n ∷ []) (headings_in ts) i) (sym named) place

    pub added_rises : Rises heading_key (headings_in (insert ts i t))
    added_rises =
        subst (Rises heading_key) (sym (map_insert heading_of ts i t))
        (rises_in heading_key (heading_of t) (is_of name) (λ h e. own_name h.table name (e ∙ ap (λ n. n ∷ []) named)) (headings_in ts) i rises at_place none)

    added_rows : (us : List (Shelf A)) (k : ℕ) → t.table.rows ≡ [] → rows_in (insert us k t) ≡ rows_in us
    added_rows us zero e = ap (λ rows. all_held t.name rows ++ rows_in us) e
    added_rows [] (suc k) e = ap (λ rows. all_held t.name rows ++ []) e
    added_rows (u ∷ us) (suc k) e = ap (λ rows. all_held u.name u.table.rows ++ rows) (added_rows us k e)

    pub added_is : t.table.rows ≡ [] → tables_in (insert ts i t) ≡ record (tables_in ts) { headings = in_order heading_key (heading_of t ∷ headings_in ts) }
    added_is e =
        let headings = map_insert heading_of ts i t ∙ put_in heading_key (heading_of t) (headings_in ts) i rises at_place in
        let rows = ap (in_order full_name) (added_rows ts i e) in
        λ k. record { headings = headings k; rows = rows k }

    -- what is added is taken away again
    pub added_back : t.table.rows ≡ [] → tables_without name (tables_in (insert ts i t)) ≡ tables_in ts
    added_back e =
        let is : is_of name (heading_of t) ≡ true = subst (λ n. same n name ≡ true) (sym named) (same-refl name) in
        let headings = ap (headings_without name) (map_insert heading_of ts i t) ∙ back heading_key (is_of name) (heading_of t) (headings_in ts) i none is in
        let dropped = table_dropped name [] (rows_in ts) [] (elsewhere name (rows_in ts) (none_held ts none)) tt in
        let rows = ap (λ xs. without_table name (in_order full_name xs)) (added_rows ts i e ∙ sym (append-nil (rows_in ts)))
        ∙ sym dropped ∙ ap (in_order full_name) (append-nil (rows_in ts)) in
        λ k. record { headings = headings k; rows = rows k }
