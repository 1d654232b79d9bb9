-- Steps of a walk.
use Rattle.std.proofs.Common.{◌≡◌, ◌↔◌, ℕ, ◌+◌, ◌^◌, ◌<◌, ◌≤◌, List, [], ◌∷◌, ◌++◌, length, filter, get_or, inl, inr, refl, sym, ap, subst, ◌∙◌}
use Rattle.std.proofs.Common.{arith, append_assoc, true, false, Bool, ◌&&◌, IsTrue, nat_le}
use Rattle.std.proofs.Math.Bool.{true≢false}
use Rattle.std.proofs.lemmas.Bool.{cases_lt, leb-true, le-leb}
use Rattle.std.proofs.lemmas.List.Elements.{All-head, All-nil, All-tail, filter-append}
use Rattle.std.specs.List.{All}
use Rattle.st_key.specs.declared.key.Key.{Key}
use Rattle.st_key.specs.declared.period.Period.{Period}
use Rattle.st_key.specs.Key.{rank}
use Rattle.st_box.specs.declared.query.Query.{Query}
use Rattle.st_box.specs.Query.{HasKey, is_inside}
use Rattle.st_index.specs.declared.row.Row.{Row}
use Rattle.st_index.specs.inner.Index.{Follow, Region}
use Rattle.st_index.specs.inner.Entries.{EntryValue, IsEntry, EntriesRise, key_end, rank_of, rows_of}
use Rattle.st_scan.specs.inner.Regions.{Count, Meets}
use Rattle.st_scan.specs.inner.Rows.{has_row, has_row_from}
use Rattle.st_scan.specs.inner.Walks.{MeetsUpTo}
use Rattle.st_scan.specs.inner.Steps.{IsAt, IsNextEntry, MeetsBefore, Opens, left_at}
use Rattle.st_scan.proofs.Filters.{filter_all, filter_none, filter_same}
use Rattle.st_scan.proofs.Keys.{row_has, row_key}
use Rattle.st_index.proofs.Putting.{rows-append}
use Rattle.st_index.proofs.Rising.{rises_all}
use Rattle.st_scan.proofs.Entries.{all_left, all_right, entries_below, keyed, rises_right, rows_all, rows_around}
use Rattle.st_scan.proofs.Regions.{apart, count_iff, count_le, count_more, count_none, lies}

pub from_parts : (b c : Bool) → (b && c) ≡ true → (b ≡ true) × (c ≡ true)
from_parts true c h = (refl, h)
from_parts false c h = absurd (true≢false (sym h))

module _ {A : Type 0} (period : Period) (q : Query) where
  -- a row inside the query from a place on has such a key
  from_row : (start : ℕ) (row : Row A) → IsTrue (has_row_from period q start row) → (start ≤ rank_of period row) × IsTrue (has_row q row)
  from_row start row h =
      let p = from_parts (nat_le start (rank_of period row)) (is_inside q row.point) h in (leb-true start (rank_of period row) p.0, p.1)

  pub from_low : (start : ℕ) (row : Row A) → rank_of period row < start → IsTrue (has_row_from period q start row) → ⊥
  from_low start row low h = let p = from_row start row h in absurd (omega (arith, p.0, low))

  pub from_high : (start : ℕ) (row : Row A) → start ≤ rank_of period row → has_row_from period q start row ≡ has_row q row
  from_high start row high = ap (λ b. b && is_inside q row.point) (le-leb start (rank_of period row) high)

  module _ (content : List (Row A)) (regions : List Region) (start next : ℕ) (entries : List (EntryValue A)) (o : Opens period q content regions start entries next) where
    rising : EntriesRise period o.region.first (o.region.last + 1) entries
    rising = rises_right period o.region.first (o.region.last + 1) o.skipped entries o.leaf.rising

    -- a row of the region is in its bounds
    in_region : All (λ row. (o.region.first ≤ rank_of period row) × (rank_of period row < o.region.last + 1)) (rows_of entries)
    in_region = rows_all period (λ n. (o.region.first ≤ n) × (n < o.region.last + 1)) entries (keyed period _ _ entries rising)
        (λ k d l. (rises_all period _ _ entries rising k d l, entries_below period _ _ entries rising k d l))

    at_start : (row : Row A) → IsTrue (has_row_from period q start row) → rank o.key ≤ rank_of period row
    at_start row h =
        let p = from_row start row h in
        let r = row_key period row in
        let le = o.first r.key (row_has period q row p.1) (subst (λ n. start ≤ n) (sym r.by_rank) p.0) in
        subst (λ n. rank o.key ≤ n) r.by_rank le

    none_before : filter (has_row_from period q start) o.leaf.before ≡ []
    none_before = filter_none (has_row_from period q start) o.leaf.before
        (λ k d l h. let a = at_start _ h in let b = o.leaf.earlier k d l in absurd (omega (arith, a, b, o.leaf.from)))

    keyed_all : All (IsEntry period) (o.skipped ++ entries)
    keyed_all = keyed period _ _ (o.skipped ++ entries) o.leaf.rising

    none_skipped : filter (has_row_from period q start) (rows_of o.skipped) ≡ []
    none_skipped =
        let low = rows_all period (λ n. n < rank o.key) o.skipped (all_left (IsEntry period) o.skipped entries keyed_all) o.before in
        filter_none (has_row_from period q start) (rows_of o.skipped) (λ k d l h. let a = at_start _ h in let b = low k d l in absurd (omega (arith, a, b)))

    here_same : filter (has_row_from period q start) (rows_of entries) ≡ filter (has_row q) (rows_of entries)
    here_same =
        let high = rows_all period (λ n. rank o.key ≤ n) entries (all_right (IsEntry period) o.skipped entries keyed_all) o.after in
        filter_same (has_row_from period q start) (has_row q) (rows_of entries) (λ k d l. from_high start _ (let b = high k d l in omega (arith, b, o.from_start)))

    after_same : filter (has_row_from period q start) o.leaf.after ≡ filter (has_row_from period q next) o.leaf.after
    after_same = filter_same (has_row_from period q start) (has_row_from period q next) o.leaf.after
        (λ k d l.
        let b = o.leaf.later k d l in
        from_high start _ (omega (arith, b, o.from_start, o.leaf.to)) ∙ sym (from_high next _ (omega (arith, b, o.next_is))))

    cut : (start : ℕ) → filter (has_row_from period q start) content ≡ filter (has_row_from period q start) o.leaf.before
        ++ (filter (has_row_from period q start) (rows_of (o.skipped ++ entries)) ++ filter (has_row_from period q start) o.leaf.after)
    cut s =
        ap (filter (has_row_from period q s)) o.leaf.parts
        ∙ filter-append (has_row_from period q s) o.leaf.before (rows_of (o.skipped ++ entries) ++ o.leaf.after)
        ∙ ap (λ xs. filter (has_row_from period q s) o.leaf.before ++ xs) (filter-append (has_row_from period q s) (rows_of (o.skipped ++ entries)) o.leaf.after)

    after_next : filter (has_row_from period q next) content ≡ filter (has_row_from period q next) o.leaf.after
    after_next =
        let low = rows_all period (λ n. n < next) (o.skipped ++ entries) keyed_all
        (λ k d l. let b = entries_below period _ _ (o.skipped ++ entries) o.leaf.rising k d l in omega (arith, b, o.next_is)) in
        let before = filter_none (has_row_from period q next) o.leaf.before
        (λ k d l. from_low next _ (let b = o.leaf.earlier k d l in omega (arith, b, o.next_is, o.leaf.from, o.leaf.to))) in
        let middle = filter_none (has_row_from period q next) (rows_of (o.skipped ++ entries)) (λ k d l. from_low next _ (low k d l)) in
        cut next
        ∙ ap (λ xs. xs ++ (filter (has_row_from period q next) (rows_of (o.skipped ++ entries)) ++ filter (has_row_from period q next) o.leaf.after)) before
        ∙ ap (λ xs. xs ++ filter (has_row_from period q next) o.leaf.after) middle

    -- the rows from a place on are those of the region opened and those after it
    pub opened_left : filter (has_row_from period q start) content ≡ filter (has_row q) (rows_of entries) ++ filter (has_row_from period q next) content
    opened_left =
        cut start
        ∙ ap (λ xs. xs ++ (filter (has_row_from period q start) (rows_of (o.skipped ++ entries)) ++ filter (has_row_from period q start) o.leaf.after)) none_before
        ∙ ap (λ xs. filter (has_row_from period q start) xs ++ filter (has_row_from period q start) o.leaf.after) (rows-append o.skipped entries)
        ∙ ap (λ xs. xs ++ filter (has_row_from period q start) o.leaf.after) (filter-append (has_row_from period q start) (rows_of o.skipped) (rows_of entries))
        ∙ ap (λ xs. (xs ++ filter (has_row_from period q start) (rows_of entries)) ++ filter (has_row_from period q start) o.leaf.after) none_skipped
        ∙ ap (λ xs. xs ++ filter (has_row_from period q start) o.leaf.after) here_same
        ∙ ap (λ xs. filter (has_row q) (rows_of entries) ++ xs) (after_same ∙ sym after_next)

module _ {A : Type 0} (period : Period) (q : Query) where
  -- no row is left where the query has no key from a place on
  pub over_left : (content : List (Row A)) (next : ℕ) → ((k : Key) → HasKey q period k → rank k < next) → filter (has_row_from period q next) content ≡ []
  over_left content next none = filter_none (has_row_from period q next) content (λ k d l h.
      let row : Row A = get_or content k d in
      let p = from_row period q next row h in
      let r = row_key period row in
      let low = none r.key (row_has period q row p.1) in
      absurd (omega (arith, low, r.by_rank, p.0)))

  pub over_count : (regions : List Region) (start : ℕ) (rows : List (Row A)) (entries : List (EntryValue A)) (next opened : ℕ) → IsAt period q regions start rows entries next opened
      → ((k : Key) → HasKey q period k → rank k < next) → Count (Meets period q start) regions opened
  over_count regions start rows entries next opened at none =
      count_iff (MeetsBefore period q start next) (Meets period q start) regions opened
      (λ r there. (λ m. m.1, λ m. (at.whole r (rank m.key) there m.from_start m.from_first (none m.key m.inside), m)))
      at.counted

  -- an entry is entered
  pub enter : (regions : List Region) (start : ℕ) (entries : List (EntryValue A)) (next opened : ℕ) (rows : List (Row A)) (rest : List (EntryValue A))
      → IsAt period q regions start [] entries next opened
      → IsNextEntry q entries rows rest → IsAt period q regions start rows rest next opened
  enter regions start entries next opened rows rest at n =
      let keys = subst (All (IsEntry period)) n.is at.keyed in
      record {
        entry_rows = subst (All (λ row. IsTrue (has_row q row))) (sym n.rows_are) n.inside;
        keyed = All-tail (IsEntry period) n.entry rest (all_right (IsEntry period) n.passed (n.entry ∷ rest) keys);
        started = at.started;
        counted = at.counted;
        whole = at.whole;
        here = λ r there.
            let P : Row A → Type 0 = λ row. (r.first ≤ rank_of period row) ↔ (r.last < next) in
            let all = subst (All P) (ap rows_of n.is ∙ rows_around n.passed n.entry rest) (at.here r there) in
            subst (λ xs. All P (xs ++ rows_of rest)) (sym n.rows_are) (all_right P (rows_of n.passed) (n.entry.rows ++ rows_of rest) all);
        to_end = at.to_end;
      }

  pub enter_left : (content : List (Row A)) (entries : List (EntryValue A)) (next : ℕ) (rows : List (Row A)) (rest : List (EntryValue A)) → IsNextEntry q entries rows rest
      → left_at period q content rows rest next ≡ left_at period q content [] entries next
  enter_left content entries next rows rest n =
      let more = filter (has_row_from period q next) content in
      let inner : filter (has_row q) (rows_of entries) ≡ rows ++ filter (has_row q) (rows_of rest) =
      ap (λ es. filter (has_row q) (rows_of es)) n.is
      ∙ ap (filter (has_row q)) (rows_around n.passed n.entry rest)
      ∙ filter-append (has_row q) (rows_of n.passed) (n.entry.rows ++ rows_of rest)
      ∙ ap (λ xs. xs ++ filter (has_row q) (n.entry.rows ++ rows_of rest)) n.outside
      ∙ filter-append (has_row q) n.entry.rows (rows_of rest)
      ∙ ap (λ xs. xs ++ filter (has_row q) (rows_of rest)) (filter_all (has_row q) n.entry.rows n.inside ∙ sym n.rows_are) in
      sym (ap (λ xs. xs ++ more) inner ∙ append_assoc rows (filter (has_row q) (rows_of rest)) more)

  -- a row is given
  pub give : (regions : List Region) (start : ℕ) (row : Row A) (rest : List (Row A)) (entries : List (EntryValue A)) (next opened : ℕ) → IsAt period q regions start (row ∷ rest) entries next opened
      → IsAt period q regions start rest entries next opened
  give regions start row rest entries next opened at = record {
    entry_rows = All-tail (λ r. IsTrue (has_row q r)) row rest at.entry_rows;
    keyed = at.keyed;
    started = at.started;
    counted = at.counted;
    whole = at.whole;
    here = λ r there. All-tail (λ (s : Row A). (r.first ≤ rank_of period s) ↔ (r.last < next)) row (rest ++ rows_of entries) (at.here r there);
    to_end = at.to_end;
  }

  pub give_opened : (regions : List Region) (start : ℕ) (row : Row A) (rest : List (Row A)) (entries : List (EntryValue A)) (next opened : ℕ)
      → IsAt period q regions start (row ∷ rest) entries next opened
      → Count (MeetsUpTo period q start (rank_of period row)) regions opened
  give_opened regions start row rest entries next opened at =
      count_iff (MeetsBefore period q start next) (MeetsUpTo period q start (rank_of period row)) regions opened
      (λ r there.
      let iff = All-head (λ (s : Row A). (r.first ≤ rank_of period s) ↔ (r.last < next)) row (rest ++ rows_of entries) (at.here r there) in
      (λ m. (iff.1 m.0, m.1), λ m. (iff.0 m.0, m.1)))
      at.counted

  -- a walk begins
  pub begin : (regions : List Region) (start : ℕ) → start ≤ key_end period → IsAt {A = A} period q regions start [] [] start 0
  begin regions start le = record {
    entry_rows = All-nil _;
    keyed = All-nil _;
    started = omega arith;
    counted = count_none (MeetsBefore period q start start) regions (λ r there m. omega (arith, m.0, m.1.from_start, m.1.to_last));
    whole = λ r k there high first low. absurd (omega (arith, high, low));
    here = λ r there. All-nil _;
    to_end = le;
  }

  pub from_first : (content : List (Row A)) → filter (has_row_from period q 0) content ≡ filter (has_row q) content
  from_first content = filter_same (has_row_from period q 0) (has_row q) content (λ k d l. from_high period q 0 _ (omega arith))

  module _ (content : List (Row A)) (regions : List Region) (begun start next opened : ℕ) (old entries : List (EntryValue A)) (o : Opens period q content regions start entries next)
      (follow : Follow 0 (key_end period) regions) (at : IsAt period q regions begun [] old start opened) where
    counted_more : Count (MeetsBefore period q begun next) regions (opened + 1)
    counted_more =
        count_more (MeetsBefore period q begun start) (MeetsBefore period q begun next) 0 (key_end period) regions opened o.region follow o.one
        (λ m. omega (arith, m.0, o.from_start, o.leaf.to))
        (omega (arith, o.next_is), record { key = o.key; inside = o.inside; from_start = omega (arith, at.started, o.from_start); from_first = o.leaf.from; to_last = o.leaf.to })
        (λ r there m. (omega (arith, m.0, o.next_is, o.from_start, o.leaf.to), m.1))
        (λ r there m. elim (apart 0 (key_end period) regions o.region r follow o.one there) [
          | inl same ↦ inr (ap (λ t. t.first) (sym same))
          | inr other ↦ elim other [
            | inl beyond ↦ absurd (omega (arith, m.0, o.next_is, beyond, (lies 0 (key_end period) regions r follow there).ordered))
            | inr earlier ↦ elim (cases_lt (rank m.1.key) start) [
              | inl low ↦ inl (at.whole r (rank m.1.key) there m.1.from_start m.1.from_first low, m.1)
              | inr high ↦ absurd (omega (arith, o.first m.1.key m.1.inside high, m.1.to_last, earlier, o.leaf.from))
            ]
          ]
        ])
        at.counted

    -- the next region is opened
    pub opened_at : IsAt {A = A} period q regions begun [] entries next (opened + 1)
    opened_at =
        let rises = rising period q content regions start next entries o in
        record {
          entry_rows = All-nil _;
          keyed = keyed period _ _ entries rises;
          started = omega (arith, at.started, o.from_start, o.leaf.to, o.next_is);
          counted = counted_more;
          whole = λ r k there high first low. elim (apart 0 (key_end period) regions o.region r follow o.one there) [
            | inl same ↦ omega (arith, ap (λ t. t.last) same, o.next_is)
            | inr other ↦ elim other [
              | inl beyond ↦ absurd (omega (arith, first, low, beyond, o.next_is))
              | inr earlier ↦ omega (arith, earlier, o.next_is, o.leaf.from, o.leaf.to)
            ]
          ];
          here = λ r there k d l.
              let inside = in_region period q content regions start next entries o k d l in
              let low = inside.0 in
              let high = inside.1 in
              elim (apart 0 (key_end period) regions o.region r follow o.one there) [
                | inl same ↦ (λ h. omega (arith, ap (λ t. t.last) same, o.next_is), λ h. omega (arith, ap (λ t. t.first) same, low))
                | inr other ↦ elim other [
                  | inl beyond ↦ (
                    λ h. absurd (omega (arith, h, beyond, high)),
                    λ h. absurd (omega (arith, h, beyond, o.next_is, (lies 0 (key_end period) regions r follow there).ordered)),
                  )
                  | inr earlier ↦ (
                    λ h. omega (arith, earlier, o.next_is, o.leaf.from, o.leaf.to),
                    λ h. omega (arith, earlier, low, (lies 0 (key_end period) regions r follow there).ordered),
                  )
                ]
              ];
          to_end = omega (arith, o.next_is, o.leaf.within);
        }

    pub opened_fits : length regions < 2 ^ 64 → opened + 1 < 2 ^ 64
    opened_fits few = omega (arith, few, count_le (MeetsBefore period q begun next) regions (opened + 1) counted_more)

    pub opened_on : start < next
    opened_on = omega (arith, o.next_is, o.from_start, o.leaf.to)
