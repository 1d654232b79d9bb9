-- Rows tallied by the numbers of their labels, and the verdicts on these.
use Rattle.std.proofs.Common.{◌≡◌, ℕ, ◌+◌, ◌<◌, ◌≤◌, List, [], ◌∷◌, Bool, true, false, ◌&&◌, cond, length, min, get_or, replicate, take, suc, zero, refl, sym, ap, subst, ◌∙◌, arith, Bor, Option}
use Rattle.std.proofs.Math.ListN.{set}
use Rattle.std.proofs.lemmas.List.{get_or-map}
use Rattle.std.proofs.lemmas.List.Concat.{length-flat_map}
use Rattle.std.proofs.lemmas.List.Elements.{All-head}
use Rattle.std.proofs.lemmas.List.Sums.{count_by-le-length, sum_by-cons, sum_by-take-le}
use Rattle.std.specs.List.{All, flat_map, sum, sum_by}
use Rattle.st_key.specs.declared.point.Point.{Point}
use Rattle.st_box.specs.declared.query.Query.{Query}
use Rattle.st_box.specs.Query.{is_inside}
use Rattle.st_text.specs.Texts.{Text}
use Rattle.st_index.specs.declared.row.Row.{Row}
use Rattle.st_index.specs.inner.Counting.{count_of, is_counted}
use Rattle.st_index.specs.inner.Entries.{EntryValue}
use Rattle.st_index.proofs.Sums.{sum_all, sum_by-flat_map, sum_one_more}
use Rattle.st_tally.specs.declared.marks.Marks.{Marks}
use Rattle.st_tally.specs.declared.page_marks.PageMarks.{PageMarks}
use Rattle.st_tally.specs.inner.Marks.{AreKnown, AreMarks, HasAt, IsMark, IsTested, MakeUp, tallied, verdict_on}
use Rattle.st_tally.specs.declared.spots.Spot.{Spot}
use Rattle.st_tally.specs.inner.Spots.{IsSpotOf}
use Rattle.st_tally.specs.inner.Sums.{AreInside}
use Rattle.st_tally.proofs.ByMarks.{one_row}
use Rattle.st_tally.proofs.Labels.{found_more}
use Rattle.st_tally.proofs.Placing.{any_default, read_at}
use Rattle.st_tally.proofs.Spotting.{same_point}

pub verdict_here : (judges : Text → Bool) (labels : List Text) (n : ℕ) (l : Text) → HasAt labels n l → verdict_on judges labels n ≡ judges l
verdict_here judges labels n l h = get_or-map judges labels n l false h.0 ∙ ap judges (sym h.1)

sum_more : (n : ℕ) (ns : List ℕ) → sum (n ∷ ns) ≡ n + sum ns
sum_more n ns = sum_by-cons (λ k. k) n ns

pub sum_set : (ns : List ℕ) (n k : ℕ) → n < length ns → sum (set ns n (get_or ns n 0 + k)) ≡ sum ns + k
sum_set [] n k low = absurd (omega (arith, low))
sum_set (m ∷ ms) zero k low =
    omega (arith, sum_more m ms, sum_more (m + k) ms)
sum_set (m ∷ ms) (suc n) k low =
    let h = sum_set ms n k (omega (arith, low)) in
    omega (arith, h, sum_more m ms, sum_more m (set ms n (get_or ms n 0 + k)))

pub below_sum : (ns : List ℕ) (n : ℕ) → n < length ns → get_or ns n 0 ≤ sum ns
below_sum [] n low = absurd (omega (arith, low))
below_sum (m ∷ ms) zero low = omega (arith, sum_more m ms)
below_sum (m ∷ ms) (suc n) low =
    let h = below_sum ms n (omega (arith, low)) in
    omega (arith, h, sum_more m ms)

pub at_most : (b : Bool) (n : ℕ) → cond b n 0 ≤ n
at_most true n = omega arith
at_most false n = omega arith

module _ (judges : Text → Bool) where
  pub tallied_below : (ls : List Text) (ns : List ℕ) → tallied judges ls ns ≤ sum ns
  unfolding tallied
  tallied_below [] ns = omega arith
  tallied_below (l ∷ ls) [] = omega arith
  tallied_below (l ∷ ls) (n ∷ ns) =
      omega (arith, tallied_below ls ns, at_most (judges l) n, sum_more n ns)

  pub tallied_set : (ls : List Text) (ns : List ℕ) (n k : ℕ) → n < length ns
      → tallied judges ls (set ns n (get_or ns n 0 + k)) ≡ tallied judges ls ns + cond (verdict_on judges ls n) k 0
  unfolding tallied
  tallied_set [] ns n k low = refl
  tallied_set (l ∷ ls) [] n k low = absurd (omega (arith, low))
  tallied_set (l ∷ ls) (m ∷ ms) zero k low = omega (arith, found_more (judges l) m k)
  tallied_set (l ∷ ls) (m ∷ ms) (suc n) k low = let h = tallied_set ls ms n k (omega (arith, low)) in omega (arith, h)

  pub tallied_none : (ls : List Text) → tallied judges ls [] ≡ 0
  unfolding tallied
  tallied_none [] = refl
  tallied_none (l ∷ ls) = refl

  tallied_suc : (ls : List Text) (ns : List ℕ) (n : ℕ) → n < length ns
      → tallied judges ls (take (suc n) ns) ≡ tallied judges ls (take n ns) + cond (verdict_on judges ls n) (get_or ns n 0) 0
  unfolding tallied
  tallied_suc [] ns n low = refl
  tallied_suc (l ∷ ls) [] n low = absurd (omega (arith, low))
  tallied_suc (l ∷ ls) (m ∷ ms) zero low = omega (arith, tallied_none ls)
  tallied_suc (l ∷ ls) (m ∷ ms) (suc n) low = let h = tallied_suc ls ms n (omega (arith, low)) in omega (arith, h)

  pub tallied_next : (ls : List Text) (ns : List ℕ) (n : ℕ) → n < length ns
      → tallied judges ls (take (n + 1) ns) ≡ tallied judges ls (take n ns) + cond (verdict_on judges ls n) (get_or ns n 0) 0
  tallied_next ls ns n low =
      let more : n + 1 ≡ suc n = omega arith in
      ap (λ k. tallied judges ls (take k ns)) more ∙ tallied_suc ls ns n low

  pub tallied_within : (ls : List Text) (ns : List ℕ) (n : ℕ) → tallied judges ls (take n ns) ≤ tallied judges ls ns
  unfolding tallied
  tallied_within [] ns n = omega arith
  tallied_within (l ∷ ls) ns zero = omega arith
  tallied_within (l ∷ ls) [] (suc n) = omega arith
  tallied_within (l ∷ ls) (m ∷ ms) (suc n) = omega (arith, tallied_within ls ms n)

  -- what is tallied by numbers of which there is no label is not found
  pub tallied_all : (ls : List Text) (ns : List ℕ) (n : ℕ) → min (length ls) (length ns) ≤ n → tallied judges ls (take n ns) ≡ tallied judges ls ns
  unfolding tallied
  tallied_all [] ns n all = refl
  tallied_all (l ∷ ls) [] zero all = refl
  tallied_all (l ∷ ls) [] (suc n) all = refl
  tallied_all (l ∷ ls) (m ∷ ms) zero all = absurd (omega (arith, all))
  tallied_all (l ∷ ls) (m ∷ ms) (suc n) all = let h = tallied_all ls ms n (omega (arith, all)) in omega (arith, h)

  -- what was found besides the tally and what is found by it
  pub whole : (after : Text → Bool) (ls : List Text) (rest count : ℕ) (old new : List ℕ) → sum old ≡ 0 → after ≡ judges → MakeUp judges ls rest count old new
      → rest + tallied after ls new ≡ count
  whole after ls rest count old new none same made =
      let is = ap (λ j. tallied j ls new) same in
      omega (arith, none, tallied_below ls old, is, made)

-- no verdict is known at first
pub none_read : (absent : Option Bool) (n i : ℕ) → get_or (replicate n absent) i absent ≡ absent
none_read absent zero i = refl
none_read absent (suc n) zero = refl
none_read absent (suc n) (suc i) = none_read absent n i

-- nothing is tallied at first
pub no_sum : (n : ℕ) → sum (replicate n 0) ≡ 0
no_sum zero = refl
no_sum (suc n) = omega (arith, sum_more 0 (replicate n 0), no_sum n)

one_of_both : (a b : Bool) → cond b (cond {A = ℕ} a 1 0) 0 ≡ cond {A = ℕ} (a && b) 1 0
one_of_both true true = refl
one_of_both true false = refl
one_of_both false true = refl
one_of_both false false = refl

-- the spot at a place of a page's marks
abbrev pub spot_in : PageMarks → ℕ → Spot
spot_in p i = get_or p.spots i (record { low = 0; high = 0 })

-- a page's marks have 32 places
abbrev pub HasPlaces : PageMarks → Type 0
HasPlaces p = (length p.numbers ≡ 32) × (length p.spots ≡ 32)

-- this number stands at a place of a page's marks, where there is a spot too
pub record IsRead (p : PageMarks) (i number : ℕ) : Type 0 where
  pub number_at : HasAt p.numbers i number
  pub spot_at : HasAt p.spots i (spot_in p i)

pub is_read : (p : PageMarks) (i number count : ℕ) → HasPlaces p → i < count → count ≤ 32 → number ≡ get_or p.numbers i 0 → IsRead p i number
is_read p i number count places within few is =
    let numbers : i < length p.numbers = omega (arith, within, few, places.0) in
    let spots : i < length p.spots = omega (arith, within, few, places.1) in
    record { number_at = read_at p.numbers i 0 number numbers is; spot_at = (spots, any_default p.spots i _ (spot_in p i) spots) }

module _ {A : Type 0} (labels : List Text) where
  -- the entry of a mark has one row
  pub one_in : (e : EntryValue A) (number week : ℕ) (spot : Spot) → IsMark labels e number week spot → number < 65535 → length e.rows ≡ 1
  one_in e number week spot is few = ap length (is few).1

  -- where all rows of its entry are inside, so is the point of its spot
  pub spot_inside : (q : Query) (e : EntryValue A) (number week : ℕ) (spot : Spot) → IsMark labels e number week spot → number < 65535 → AreInside q e.rows
      → (p : Point) → IsSpotOf week spot p → true ≡ is_inside q p
  spot_inside q e number week spot is few inside p at =
      let one = is few in
      let P = λ (r : Row A). is_inside q r.point ≡ true in
      sym (ap (is_inside q) (same_point week spot p one.0.point at one.2) ∙ All-head P one.0 [] (subst (All P) one.1 inside))

module _ {A : Type 0} (q : Query) (labels : List Text) (e : EntryValue A) (number week : ℕ) (spot : Spot) (is : IsMark labels e number week spot) (inside : Bool)
    (tested : (p : Point) → IsSpotOf week spot p → inside ≡ is_inside q p) where
  counted_at : (judges : Text → Bool) → number < 512 → count_of q judges e.rows ≡ cond (inside && verdict_on judges labels number) 1 0
  counted_at judges low =
      let one = is (omega (arith, low)) in
      ap (count_of q judges) one.1
      ∙ one_row q judges one.0
      ∙ ap {B = ℕ} (λ b. cond (b && judges one.0.label) 1 0) (sym (tested one.0.point one.2))
      ∙ ap {B = ℕ} (λ b. cond (inside && b) 1 0) (sym (verdict_here judges labels number one.0.label (one.3 low)))

  -- the row of an entry is tallied by its mark
  pub tallied_at : (judges : Text → Bool) (tally : List ℕ) (more : ℕ) → number < 512 → number < length tally → more ≡ cond inside 1 0
      → MakeUp judges labels 0 (count_of q judges e.rows) tally (set tally number (get_or tally number 0 + more))
  tallied_at judges tally more low fits one =
      let here : cond (verdict_on judges labels number) more 0 ≡ cond (inside && verdict_on judges labels number) 1 0 =
      ap (λ n. cond (verdict_on judges labels number) n 0) one ∙ one_of_both inside (verdict_on judges labels number) in
      omega (arith, counted_at judges low, tallied_set judges labels tally number more fits, here)

  -- and where its point is outside
  pub outside_at : (judges : Text → Bool) → number < 65535 → inside ≡ false → count_of q judges e.rows ≡ 0
  outside_at judges few outside =
      let one = is few in
      ap (count_of q judges) one.1
      ∙ one_row q judges one.0
      ∙ ap {B = ℕ} (λ b. cond (b && judges one.0.label) 1 0) (sym (tested one.0.point one.2) ∙ outside)

-- an entry whose mark was read, with a number that is tallied by
module _ {A : Type 0} (labels : List Text) (es : List (EntryValue A)) (p : PageMarks) (i number : ℕ) (r : IsRead p i number) (e : EntryValue A)
    (are : AreMarks labels es p) (h : HasAt es i e) (tally : List ℕ) (few : length tally ≤ 512) (low : number < length tally) where
  mark_by : IsMark labels e number p.week (spot_in p i)
  mark_by = are i e h number (spot_in p i) r.number_at r.spot_at

  -- has one row
  pub one_by : length e.rows ≡ 1
  one_by = one_in labels e number p.week (spot_in p i) mark_by (omega (arith, low, few))

  -- which is tallied
  pub tallied_by : (q : Query) (judges : Text → Bool) (inside : Bool) → IsTested q p i inside → (more : ℕ) → more ≡ cond inside 1 0
      → MakeUp judges labels 0 (count_of q judges e.rows) tally (set tally number (get_or tally number 0 + more))
  tallied_by q judges inside is_tested more one =
      let tested = is_tested number (spot_in p i) r.number_at r.spot_at in
      tallied_at q labels e number p.week (spot_in p i) mark_by inside (tested.1 (omega (arith, low, few))) judges tally more (omega (arith, low, few)) low one

-- rows that some things have, as they are counted one after another
module _ {A X : Type 0} (rows : X → List (Row A)) (xs : List X) (at : ℕ) where
  pub most_next : (x : X) (a b c : ℕ) → at < length xs → x ≡ get_or xs at x → b ≤ a + sum_by (λ y. length (rows y)) (take at xs) → c ≤ b + length (rows x)
      → c ≤ a + sum_by (λ y. length (rows y)) (take (at + 1) xs)
  most_next x a b c below is before more = let one = sum_one_more (λ y. length (rows y)) xs at x below is in omega (arith, one, before, more)

  pub most_fits : (x : X) (a b n : ℕ) → at < length xs → x ≡ get_or xs at x → b ≤ a + sum_by (λ y. length (rows y)) (take at xs)
      → a + length (flat_map rows xs) < n → b + length (rows x) < n
  most_fits x a b n below is before fits =
      let one = sum_one_more (λ y. length (rows y)) xs at x below is in
      let most = sum_by-take-le (λ y. length (rows y)) xs (at + 1) in
      omega (arith, one, most, length-flat_map rows xs, before, fits)

  pub most_all : (a b : ℕ) → length xs ≤ at → b ≤ a + sum_by (λ y. length (rows y)) (take at xs) → b ≤ a + length (flat_map rows xs)
  most_all a b over before =
      let last = sum_all (λ y. length (rows y)) xs at over in
      omega (arith, last, length-flat_map rows xs, before)

  module _ (q : Query) (judges : Text → Bool) (labels : List Text) where
    pub counted_next : (x : X) (n more : ℕ) (old mid new : List ℕ) → at < length xs → x ≡ get_or xs at x
        → MakeUp judges labels n (sum_by (λ y. count_of q judges (rows y)) (take at xs)) old mid → MakeUp judges labels more (count_of q judges (rows x)) mid new
        → MakeUp judges labels (n + more) (sum_by (λ y. count_of q judges (rows y)) (take (at + 1) xs)) old new
    counted_next x n more old mid new below is before now =
        let one = sum_one_more (λ y. count_of q judges (rows y)) xs at x below is in
        omega (arith, one, before, now)

    pub counted_fits : (n m : ℕ) (old new : List ℕ) → MakeUp judges labels n (sum_by (λ y. count_of q judges (rows y)) (take at xs)) old new
        → sum old + length (flat_map rows xs) < m → n < m
    counted_fits n m old new made fits =
        let most = sum_by-take-le (λ y. count_of q judges (rows y)) xs at in
        let all = sum_by-flat_map (λ (r : Row A). cond (is_counted q judges r) 1 0) rows xs in
        omega (arith, made, most, all, count_by-le-length (is_counted q judges) (flat_map rows xs), tallied_below judges labels old, fits)

    pub counted_all : (n : ℕ) (old new : List ℕ) → length xs ≤ at → MakeUp judges labels n (sum_by (λ y. count_of q judges (rows y)) (take at xs)) old new
        → MakeUp judges labels n (count_of q judges (flat_map rows xs)) old new
    counted_all n old new over made =
        let last = sum_all (λ y. count_of q judges (rows y)) xs at over in
        let all = sum_by-flat_map (λ (r : Row A). cond (is_counted q judges r) 1 0) rows xs in
        omega (arith, made, last, all)

-- what is known, by other names for the judgement and the marks
pub known_by : {A : Type 0} (judges after : Text → Bool) (m n : Bor (Marks A)) (found : List (Option Bool)) → after ≡ judges → m ≡ n
    → AreKnown after m.now.labels.items found → AreKnown judges n.now.labels.items found
known_by {A = A} judges after m n found same is known =
    subst (λ (k : Bor (Marks A)). AreKnown judges k.now.labels.items found) is (subst (λ j. AreKnown j m.now.labels.items found) same known)
