-- What summaries say of rows.
use Rattle.std.proofs.Common.{◌≡◌, ℕ, ◌+◌, ◌<◌, List, [], ◌∷◌, ◌++◌, Bool, cond, length, get_or, take, append_assoc, IsTrue, sym, ap, subst, ◌∙◌, arith}
use Rattle.std.proofs.lemmas.List.Elements.{All-append, All-cons, All-head, All-tail}
use Rattle.std.proofs.lemmas.List.{append-nil, take_more}
use Rattle.std.proofs.lemmas.List.Concat.{flat_map-append}
use Rattle.std.proofs.lemmas.List.Sums.{sum_by-append}
use Rattle.std.specs.List.{All, flat_map}
use Rattle.st_key.specs.declared.point.Point.{Point}
use Rattle.st_text.specs.Texts.{Text}
use Rattle.st_index.specs.declared.row.Row.{Row}
use Rattle.st_index.specs.inner.Index.{Adds, Swaps}
use Rattle.st_index.proofs.Climbing.{all_left, all_right}
use Rattle.st_tally.specs.declared.bounds.Bounds.{Bounds}
use Rattle.st_tally.specs.declared.summary.Summary.{Summary}
use Rattle.st_tally.specs.inner.Sums.{CountsLess, CountsMore, IsWithin, Sums, labelled, total}

pub wider : {A : Type 0} (a b : Bounds) → ((p : Point) → IsWithin a p → IsWithin b p) → (rows : List (Row A))
    → All (λ (r : Row A). IsWithin a r.point) rows → All (λ (r : Row A). IsWithin b r.point) rows
wider a b more rows all = λ k d l. more _ (all k d l)

pub next_rows : {X : Type 0} (rows xs : List X) (i : ℕ) (x : X) → i < length xs → x ≡ get_or xs i x → (rows ++ take i xs) ++ x ∷ [] ≡ rows ++ take (i + 1) xs
next_rows rows xs i x below read =
    append_assoc rows (take i xs) (x ∷ [])
    ∙ ap (λ ys. rows ++ ys) (ap (λ y. take i xs ++ y ∷ []) read ∙ sym (take_more xs i x below))

pub next_lists : {X Y : Type 0} (f : X → List Y) (rows : List Y) (xs : List X) (i : ℕ) (x : X) → i < length xs → x ≡ get_or xs i x
    → (rows ++ flat_map f (take i xs)) ++ f x ≡ rows ++ flat_map f (take (i + 1) xs)
next_lists f rows xs i x below read =
    append_assoc rows (flat_map f (take i xs)) (f x)
    ∙ ap (λ ys. rows ++ ys)
    (ap (λ ys. flat_map f (take i xs) ++ ys) (sym (append-nil (f x)))
    ∙ sym (flat_map-append f (take i xs) (x ∷ []))
    ∙ ap (flat_map f) (ap (λ y. take i xs ++ y ∷ []) read ∙ sym (take_more xs i x below)))

module _ {A : Type 0} where
  pub labelled-append : (judges : Text → Bool) (rows more : List (Row A)) → labelled judges (rows ++ more) ≡ labelled judges rows + labelled judges more
  labelled-append judges rows more = sum_by-append (λ (r : Row A). cond (judges r.label) 1 0) rows more

  -- the summary of some rows becomes that of these and more
  pub sums_more : (old new : Summary A) (rows more : List (Row A)) → Sums old rows
      → ((p : Point) → IsWithin old.bounds p → IsWithin new.bounds p)
      → All (λ (r : Row A). IsWithin new.bounds r.point) more
      → CountsMore old.labels new.labels (λ judges. labelled judges more)
      → Sums new (rows ++ more)
  sums_more old new rows more sums wide within puts = record {
    within = All-append (λ (r : Row A). IsWithin new.bounds r.point) rows more (wider old.bounds new.bounds wide rows sums.within) within;
    counted = λ h judges.
        let put = puts h in
        omega (arith, put.1 judges, sums.counted put.0 judges, labelled-append judges rows more);
  }

  pub sums_one : (old new : Summary A) (rows : List (Row A)) (row : Row A) → Sums old rows
      → ((p : Point) → IsWithin old.bounds p → IsWithin new.bounds p) → IsWithin new.bounds row.point
      → CountsMore old.labels new.labels (λ judges. cond (judges row.label) 1 0)
      → Sums new (rows ++ row ∷ [])
  sums_one old new rows row sums wide inside puts =
      sums_more old new rows (row ∷ []) sums wide
      (All-cons (λ (r : Row A). IsWithin new.bounds r.point) row [] inside (λ k d l. absurd (omega (arith, l))))
      (λ h. let put = puts h in (put.0, λ judges. omega (arith, put.1 judges)))

  pub sums_all : (old new other : Summary A) (rows more : List (Row A)) → Sums old rows → Sums other more
      → ((p : Point) → IsWithin old.bounds p → IsWithin new.bounds p) → ((p : Point) → IsWithin other.bounds p → IsWithin new.bounds p)
      → CountsMore old.labels new.labels (λ judges. total judges other.labels.counts.items)
      → (IsTrue new.labels.are_all → IsTrue other.labels.are_all)
      → Sums new (rows ++ more)
  sums_all old new other rows more sums others wide wide_too puts all =
      sums_more old new rows more sums wide (wider other.bounds new.bounds wide_too more others.within)
      (λ h. let put = puts h in (put.0, λ judges. omega (arith, put.1 judges, others.counted (all h) judges)))

  -- and the summary of some rows that of the first of them
  pub sums_fewer : (old new : Summary A) (rows more : List (Row A)) → Sums old (rows ++ more) → new.bounds ≡ old.bounds
      → CountsLess old.labels new.labels (λ judges. labelled judges more)
      → Sums new rows
  sums_fewer old new rows more sums same takes = record {
    within = subst (λ b. All (λ (r : Row A). IsWithin b r.point) rows) (sym same) (all_left (λ (r : Row A). IsWithin old.bounds r.point) rows more sums.within);
    counted = λ h judges.
        let taken = takes h in
        omega (arith, sums.counted taken.0 judges, labelled-append judges rows more, taken.1 judges);
  }

  pub sums_less : (old new : Summary A) (rows : List (Row A)) (row : Row A) → Sums old (rows ++ row ∷ []) → new.bounds ≡ old.bounds
      → CountsLess old.labels new.labels (λ judges. cond (judges row.label) 1 0)
      → Sums new rows
  sums_less old new rows row sums same takes =
      sums_fewer old new rows (row ∷ []) sums same
      (λ h. let taken = takes h in (taken.0, λ judges. omega (arith, taken.1 judges)))

  pub sums_all_less : (old new other : Summary A) (rows more : List (Row A)) → Sums old (rows ++ more) → Sums other more → new.bounds ≡ old.bounds
      → CountsLess old.labels new.labels (λ judges. total judges other.labels.counts.items)
      → (IsTrue new.labels.are_all → IsTrue other.labels.are_all)
      → Sums new rows
  sums_all_less old new other rows more sums others same takes all =
      sums_fewer old new rows more sums same
      (λ h. let taken = takes h in (taken.0, λ judges. omega (arith, taken.1 judges, others.counted (all h) judges)))

  -- rows may be summed up in any order
  pub sums_added : (s : Summary A) (row : Row A) (old new : List (Row A)) → Adds row old new → Sums s (old ++ row ∷ []) → Sums s new
  sums_added s row old new a sums =
      let P = λ (r : Row A). IsWithin s.bounds r.point in
      let each = all_left P old (row ∷ []) sums.within in
      let split = subst (All P) a.old_is each in
      let one = all_right P old (row ∷ []) sums.within in
      let tail = All-cons P row a.back (All-head P row [] one) (all_right P a.front a.back split) in
      record {
        within = subst (All P) (sym a.new_is) (All-append P a.front (row ∷ a.back) (all_left P a.front a.back split) tail);
        counted = λ h judges.
            let before = ap (labelled judges) a.old_is ∙ labelled-append judges a.front a.back in
            let after = ap (labelled judges) a.new_is ∙ labelled-append judges a.front (row ∷ a.back) in
            omega (arith, sums.counted h judges, labelled-append judges old (row ∷ []), before, after, labelled-append judges (row ∷ []) a.back);
      }

  pub sums_taken : (s : Summary A) (row : Row A) (old new : List (Row A)) → Adds row new old → Sums s old → Sums s (new ++ row ∷ [])
  sums_taken s row old new a sums =
      let P = λ (r : Row A). IsWithin s.bounds r.point in
      let split = subst (All P) a.new_is sums.within in
      let tail = all_right P a.front (row ∷ a.back) split in
      let kept = subst (All P) (sym a.old_is) (All-append P a.front a.back (all_left P a.front (row ∷ a.back) split) (All-tail P row a.back tail)) in
      record {
        within = All-append P new (row ∷ []) kept (All-cons P row [] (All-head P row a.back tail) (λ k d l. absurd (omega (arith, l))));
        counted = λ h judges.
            let before = ap (labelled judges) a.old_is ∙ labelled-append judges a.front a.back in
            let after = ap (labelled judges) a.new_is ∙ labelled-append judges a.front (row ∷ a.back) in
            omega (arith, sums.counted h judges, labelled-append judges new (row ∷ []), before, after, labelled-append judges (row ∷ []) a.back);
      }

  -- a row in the place of one with an equal label
  pub sums_swapped : (s : Summary A) (out row : Row A) (old new : List (Row A)) → Swaps out row old new → row.label ≡ out.label → IsWithin s.bounds row.point → Sums s old → Sums s new
  sums_swapped s out row old new w same inside sums =
      let P = λ (r : Row A). IsWithin s.bounds r.point in
      let split = subst (All P) w.old_is sums.within in
      let tail = All-cons P row w.back inside (All-tail P out w.back (all_right P w.front (out ∷ w.back) split)) in
      record {
        within = subst (All P) (sym w.new_is) (All-append P w.front (row ∷ w.back) (all_left P w.front (out ∷ w.back) split) tail);
        counted = λ h judges.
            let before = ap (labelled judges) w.old_is ∙ labelled-append judges w.front (out ∷ w.back) in
            let after = ap (labelled judges) w.new_is ∙ labelled-append judges w.front (row ∷ w.back) in
            let other = labelled-append judges (row ∷ []) w.back in
            let label : ◌≡◌ {A = ℕ} (cond (judges row.label) 1 0) (cond (judges out.label) 1 0) = ap {B = ℕ} (λ l. cond (judges l) 1 0) same in
            omega (arith, sums.counted h judges, before, after, labelled-append judges (out ∷ []) w.back, other, label);
      }
