-- Rows that are all in one field.
use Rattle.std.proofs.Common.{◌≡◌, ℕ, ◌+◌, ◌<◌, ◌&&◌, List, [], Bool, true, false, Option, Some, None, IsTrue, cond, nat_eq, length, get_or, sym, ap, subst, arith}
use Rattle.std.specs.Prelude.{IfSome}
use Rattle.std.proofs.lemmas.Bool.{and_parts}
use Rattle.std.proofs.lemmas.List.Sums.{sum_by-cons}
use Rattle.std.specs.List.{All}
use Rattle.st_key.specs.declared.point.Point.{Point}
use Rattle.st_box.specs.declared.query.Query.{Query}
use Rattle.st_box.specs.Query.{is_inside}
use Rattle.st_text.specs.Texts.{Text}
use Rattle.st_index.specs.declared.row.Row.{Row}
use Rattle.st_index.specs.inner.Counting.{is_counted}
use Rattle.st_index.specs.inner.Fields.{CanAdd, Counts, IsBetween}
use Rattle.st_index.proofs.Tallying.{counts_not}
use Rattle.st_tally.specs.declared.bounds.Bounds.{Bounds}
use Rattle.st_index.specs.inner.Entries.{EntryValue}
use Rattle.st_tally.specs.inner.Marks.{IsMark, verdict_on}
use Rattle.st_tally.specs.declared.spots.Spot.{Spot}
use Rattle.st_tally.specs.inner.Spots.{IsSpotOf}
use Rattle.st_tally.specs.inner.Sums.{IsWithin}
use Rattle.st_tally.proofs.Tallied.{verdict_here}

-- what holds of what is found holds of what follows from it
pub some_then : {X : Type 0} (P Q : X → Type 0) (r : Option X) → ((x : X) → P x → Q x) → IfSome r P → IfSome r Q
some_then P Q None f h = h
some_then P Q (Some x) f h = f x h

pub field_within : (q : Query) (field_of : Point → ℕ) (b : Bounds) (r : Option ℕ)
    → IfSome r (λ field. (p : Point) → IsTrue (is_inside q p) → IsBetween b.x0 b.x1 b.y0 b.y1 p → field_of p ≡ field)
    → IfSome r (λ field. (p : Point) → IsTrue (is_inside q p) → IsWithin b p → field_of p ≡ field)
field_within q field_of b r = some_then (λ field. (p : Point) → IsTrue (is_inside q p) → IsBetween b.x0 b.x1 b.y0 b.y1 p → field_of p ≡ field)
    (λ field. (p : Point) → IsTrue (is_inside q p) → IsWithin b p → field_of p ≡ field) r
    (λ field is p inside w. is p inside (w.x_from, w.x_to, w.y_from, w.y_to))

module _ {A : Type 0} (q : Query) (field_of : Point → ℕ) (rows : List (Row A)) where
  pub field_of_rows : (b : Bounds) (r : Option ℕ) → All (λ (row : Row A). IsWithin b row.point) rows
      → IfSome r (λ field. (p : Point) → IsTrue (is_inside q p) → IsWithin b p → field_of p ≡ field)
      → IfSome r (λ field. All (λ (row : Row A). IsTrue (is_inside q row.point) → field_of row.point ≡ field) rows)
  field_of_rows b r within = some_then (λ field. (p : Point) → IsTrue (is_inside q p) → IsWithin b p → field_of p ≡ field)
      (λ field. All (λ (row : Row A). IsTrue (is_inside q row.point) → field_of row.point ≡ field) rows) r
      (λ field is k d l inside. is _ inside (within k d l))

  pub all_in_one : (judges : Text → Bool) (one : ℕ) → All (λ (row : Row A). IsTrue (is_inside q row.point) → field_of row.point ≡ one) rows
      → All (λ (row : Row A). is_counted q judges row ≡ true → field_of row.point ≡ one) rows
  all_in_one judges one all = λ k d l counted. all k d l (and_parts _ _ counted).0

module _ {A : Type 0} (labels : List Text) (e : EntryValue A) (number week : ℕ) (spot : Spot) (mark : IsMark labels e number week spot) (few : number < 65535) where
  -- an entry's row by its mark: as many can be added
  pub marked_fits : (counts : List ℕ) → CanAdd (length e.rows) counts → CanAdd 1 counts
  marked_fits counts can = subst (λ (rows : List (Row A)). CanAdd (length rows) counts) (mark few).1 can

  -- there is a point at the spot
  pub marked_spot : (p : Point) × IsSpotOf week spot p
  marked_spot = ((mark few).0.point, (mark few).2)

module _ {A : Type 0} (q : Query) (judges : Text → Bool) (field_of : Point → ℕ) (labels : List Text) (e : EntryValue A) (number week : ℕ) (spot : Spot)
    (mark : IsMark labels e number week spot) where
  -- what was counted of an entry of one row by its mark
  pub marked_counts : (old new : List ℕ) → number < 512
      → ((p : Point) (at : ℕ) → IsSpotOf week spot p → get_or new at 0 ≡ get_or old at 0
      + cond (is_inside q p && verdict_on judges labels number && nat_eq (field_of p) at) 1 0)
      → Counts q judges field_of e.rows old new
  marked_counts old new low added =
      let is = mark (omega (arith, low)) in
      let row = is.0 in
      subst (λ rows. Counts q judges field_of rows old new) (sym is.1)
      (λ field.
      let one = sum_by-cons (λ (r : Row A). cond (is_counted q judges r && nat_eq (field_of r.point) field) 1 0) row [] in
      let same : cond (is_counted q judges row && nat_eq (field_of row.point) field) 1 0 ≡ cond (is_inside q row.point && verdict_on judges labels number && nat_eq (field_of row.point) field) 1 0 =
      ap {B = ℕ} (λ b. cond (is_inside q row.point && b && nat_eq (field_of row.point) field) 1 0) (sym (verdict_here judges labels number row.label (is.3 low))) in
      omega (arith, one, same, added row.point field is.2))

  -- and where it is outside
  pub outside_counts : (counts : List ℕ) → number < 65535 → ((p : Point) → IsSpotOf week spot p → is_inside q p ≡ false) → Counts q judges field_of e.rows counts counts
  outside_counts counts few outside =
      let is = mark few in
      subst (λ rows. Counts q judges field_of rows counts counts) (sym is.1)
      (counts_not q judges field_of is.0 counts (ap {B = Bool} (λ b. b && judges is.0.label) (outside is.0.point is.2)))

-- what was counted of rows, by another name for the judgement and for the rows
pub counts_by : {A : Type 0} (q : Query) (field_of : Point → ℕ) (old new : List ℕ) (j k : Text → Bool) (rows others : List (Row A)) → j ≡ k → rows ≡ others
    → Counts q j field_of rows old new → Counts q k field_of others old new
counts_by q field_of old new j k rows others same are counts =
    subst (λ rs. Counts q k field_of rs old new) are (subst (λ i. Counts q i field_of rows old new) same counts)
