-- A page that takes a row, and a page that is cut in two.
use Rattle.std.proofs.Common.{◌≡◌, ℕ, ◌+◌, ◌<◌, ◌≤◌, List, [], ◌∷◌, ◌++◌, length, get_or, take, drop, refl, sym, ap, subst, ◌∙◌, suc, arith}
use Rattle.std.proofs.Common.{drop-cons, take-append-drop, length-take-le, Option, Some, None, Vec, vec_len}
use Rattle.std.proofs.lemmas.List.{append-nil, length-drop}
use Rattle.std.proofs.lemmas.List.Elements.{All-head, All-cons}
use Rattle.st_index.specs.inner.Entries.{name_of, EntryValue, EntriesRise, rank_of, rows_of}
use Rattle.st_index.specs.inner.Index.{Adds, IsAbsent}
use Rattle.st_index.proofs.Putting.{split_read}
use Rattle.st_index.proofs.Rising.{rises_bounds, rises_around}
use Rattle.st_tally.specs.inner.Pages.{PageValue, NodeValue, IsFilled, rows_of_pages}
use Rattle.st_ubtree.specs.inner.Kids.{Spans, GrowsBy, AreWide, IsKid}
use Rattle.st_ubtree.specs.inner.Growing.{PageGrows, Grows}
use Rattle.st_tally.specs.inner.Pages.{page_node}
use Rattle.st_key.specs.declared.period.Period.{Period}
use Rattle.st_index.specs.declared.row.Row.{Row}

-- a page that takes one more than 32 holds 33
pub held_full : {X Z : Type 0} (old new : Vec X Z) → length old.items ≤ 32 → vec_len new ≤ vec_len old + 1 → 32 < vec_len new → length new.items ≡ 33
held_full old new fits most more = omega (arith, old.ok.0, new.ok.0, fits, most, more)

module _ {A : Type 0} where
  abbrev pub page : ℕ → List (EntryValue A) → PageValue A
  page first entries = record { first = first; entries = entries }

  pub one_rows : (first : ℕ) (es : List (EntryValue A)) → rows_of_pages (page first es ∷ []) ≡ rows_of es
  one_rows first es = ap rows_of (append-nil es)

  pub two_rows : (first second n : ℕ) (es : List (EntryValue A)) → rows_of_pages (page first (take n es) ∷ page second (drop n es) ∷ []) ≡ rows_of es
  two_rows first second n es = ap rows_of (ap (λ t. take n es ++ t) (append-nil (drop n es)) ∙ take-append-drop n es)

module _ {A : Type 0} (period : Period) where
  pub rises_wide : (lo hi : ℕ) (es : List (EntryValue A)) → EntriesRise period lo hi es → 0 < length es → lo < hi
  rises_wide lo hi [] h l = absurd (omega (arith, l))
  rises_wide lo hi (e ∷ es) h l = omega (arith, h.0, rises_bounds period (e.at + 1) hi es h.2)

  pub split_spans : (lo hi : ℕ) (es : List (EntryValue A)) (n : ℕ) (e : EntryValue A) → 0 < n → n < length es → e ≡ get_or es n e
      → EntriesRise period lo hi es → Spans period lo hi (page lo (take n es) ∷ page e.at (drop n es) ∷ [])
  split_spans lo hi es n e p l read h =
      let a = rises_around period lo hi (take n es) e (drop (suc n) es) (subst (EntriesRise period lo hi) (split_read es n e l read) h) in
      let rest : drop n es ≡ e ∷ drop (suc n) es = drop-cons es n e l ∙ ap (λ (x : EntryValue A). x ∷ drop (suc n) es) (sym read) in
      let low = rises_wide lo e.at (take n es) a.front (let q = length-take-le n es (omega (arith, l)) in omega (arith, q, p)) in
      let high : EntriesRise period e.at hi (drop n es) = subst (EntriesRise period e.at hi) (sym rest) (omega arith, a.entry, a.back) in
      (refl, (e.at, low, a.front, (refl, (hi, omega (arith, rises_bounds period (e.at + 1) hi (drop (suc n) es) a.back), high, refl))))

module _ {A : Type 0} where
  module _ (key : ℕ) (row : Row A) (old new : List (EntryValue A)) (added : Adds row (rows_of old) (rows_of new))
      (rising : (period : Period) (lo hi : ℕ) → key ≡ rank_of period row → EntriesRise period lo hi old → lo ≤ key → key < hi
      → IsAbsent period key (name_of row) (rows_of old) → EntriesRise period lo hi new) where
    pub page_grows : (first : ℕ) → GrowsBy key row (page first old ∷ []) (page first new ∷ [])
    page_grows first = record {
      adds = subst (λ t. Adds row t (rows_of_pages (page first new ∷ []))) (sym (one_rows first old)) (subst (λ t. Adds row (rows_of old) t) (sym (one_rows first new)) added);
      spans = λ period lo hi at s a b absent.
          let mid = s.1.0 in
          (s.0, (mid, s.1.1, rising period lo mid at s.1.2 a (omega (arith, b, s.1.3)) (subst (IsAbsent period key (name_of row)) (one_rows first old) absent), s.1.3));
    }

    pub page_splits : (first n : ℕ) (e : EntryValue A) → 0 < n → n < length new → e ≡ get_or new n e → GrowsBy key row (page first old ∷ []) (page first (take n new) ∷ page e.at (drop n new) ∷ [])
    page_splits first n e p l read = record {
      adds = subst (λ t. Adds row t (rows_of_pages (page first (take n new) ∷ page e.at (drop n new) ∷ []))) (sym (one_rows first old))
          (subst (λ t. Adds row (rows_of old) t) (sym (two_rows first e.at n new)) added);
      spans = λ period lo hi at s a b absent.
          let mid = s.1.0 in
          let r = rising period lo hi at (subst (λ m. EntriesRise period lo m old) s.1.3 s.1.2) a b (subst (IsAbsent period key (name_of row)) (one_rows first old) absent) in
          subst (λ f. Spans period lo hi (page f (take n new) ∷ page e.at (drop n new) ∷ [])) (sym s.0) (split_spans period lo hi new n e p l read r);
    }

  pub page_fits : (key : ℕ) (row : Row A) (old new : List (EntryValue A)) (r : Option (NodeValue A)) → PageGrows key row old new r → length new ≤ 32
  page_fits key row old new None h = h.1
  page_fits key row old new (Some s) h = omega (arith, h.0)

  pub wide_page : (first : ℕ) (es : List (EntryValue A)) → 16 ≤ length es → length es ≤ 32 → AreWide (page first es ∷ []) []
  wide_page first es a b =
      record {
        keys = All-cons IsFilled (page first es) [] (record { not_less = a; not_more = b }) (λ k d l. absurd (omega (arith, l)));
        nodes = λ k d l. absurd (omega (arith, l));
      }

  pub wider_page : (first : ℕ) (old new : List (EntryValue A)) → length old ≤ length new → length new ≤ 32 → AreWide (page first old ∷ []) [] → AreWide (page first new ∷ []) []
  wider_page first old new a b h = wide_page first new (omega (arith, a, (All-head IsFilled (page first old) [] h.keys).not_less)) b

  pub page_node_grows : (key : ℕ) (row : Row A) (first height : ℕ) (old new : List (EntryValue A)) (r : Option (NodeValue A)) → height ≡ 0
      → PageGrows key row old new r → Grows key row (page_node first height old) (page_node first height new) r
  page_node_grows key row first height old new None z h = record { first = refl; height = refl; starts = λ s. s; widths = (h.0, h.1, wider_page first old new h.0 h.1); by = h.2 first }
  page_node_grows key row first height old new (Some s) z h = record {
    first = refl;
    height = refl;
    starts = λ t. t;
    widths = (
      record {
        same_height = refl;
        not_less = omega (arith, h.0);
        not_more = omega (arith, h.0);
        starts = (refl, refl);
        filled = let a = h.0 in wide_page first new (omega (arith, a)) (omega (arith, a));
      },
      subst (λ n. IsKid n s) (sym z) h.2,
    );
    by = h.3 first;
  }

  module _ (key : ℕ) (row : Row A) (old new : List (EntryValue A)) (added : Adds row (rows_of old) (rows_of new))
      (rising : (period : Period) (lo hi : ℕ) → key ≡ rank_of period row → EntriesRise period lo hi old → lo ≤ key → key < hi
      → IsAbsent period key (name_of row) (rows_of old) → EntriesRise period lo hi new) where
    pub page_cut : (e : EntryValue A) → length new ≡ 33 → e ≡ get_or new 16 e → PageGrows key row old (take 16 new) (Some (page_node e.at 0 (drop 16 new)))
    page_cut e all read =
        let low : length (take 16 new) ≡ 16 = length-take-le 16 new (omega (arith, all)) in
        let high : length (drop 16 new) ≡ 17 = omega (arith, all, length-drop 16 new) in (
          low,
          high,
          record {
            same_height = refl;
            not_less = omega (arith, high);
            not_more = omega (arith, high);
            starts = (refl, refl);
            filled = wide_page e.at (drop 16 new) (omega (arith, high)) (omega (arith, high));
          },
          λ first. page_splits key row old new added rising first 16 e (omega arith) (omega (arith, all)) read,
        )
