-- Lists of labels with numbers of rows, as they change.
use Rattle.std.proofs.Common.{◌≡◌, ℕ, ◌+◌, ◌<◌, ◌≤◌, List, [], ◌∷◌, Bool, true, false, cond, length, get_or, take, suc, zero, refl, sym, ap, subst, ◌∙◌, arith}
use Rattle.std.proofs.Math.ListN.{set}
use Rattle.std.proofs.lemmas.List.Sums.{sum_by-set}
use Rattle.std.specs.List.{sum_by}
use Rattle.st_index.proofs.Sums.{sum_all, sum_one_more}
use Rattle.st_text.specs.Texts.{Text}
use Rattle.st_tally.specs.declared.label_counts.LabelCount.{LabelCount}
use Rattle.st_tally.specs.declared.label_counts.LabelCounts.{LabelCounts}
use Rattle.st_tally.specs.inner.Sums.{CountsLess, CountsMore, found, total}

pub same_read : {X : Type 0} (xs : List X) (i : ℕ) (x y : X) → i < length xs → x ≡ get_or xs i x → y ≡ get_or xs i y → x ≡ y
same_read [] i x y l a b = absurd (omega (arith, l))
same_read (z ∷ zs) zero x y l a b = a ∙ sym b
same_read (z ∷ zs) (suc i) x y l a b = same_read zs i x y (omega (arith, l)) a b

-- what a search found in a slice, where it stands in the list
pub found_here : {X : Type 0} (xs slice : List X) (i : ℕ) (held x : X) → slice ≡ xs → i < length slice → held ≡ get_or slice i held → x ≡ get_or xs i x
    → (i < length xs) × (x ≡ held)
found_here xs slice i held x is low there read =
    let below = subst (λ ys. i < length ys) is low in
    (below, same_read xs i x held below read (subst (λ ys. held ≡ get_or ys i held) is there))

pub found_more : (b : Bool) (m n : ℕ) → cond b (m + n) 0 ≡ cond b m 0 + cond b n 0
found_more true m n = refl
found_more false m n = refl

nothing_found : (b : Bool) → cond {A = ℕ} b 0 0 ≡ 0
nothing_found true = refl
nothing_found false = refl

-- no row is found under a label without rows
found_none : {A : Type 0} (judges : Text → Bool) (c : LabelCount A) → c.rows ≡ 0 → found judges c ≡ 0
found_none judges c none = ap (λ k. cond (judges c.label) k 0) none ∙ nothing_found (judges c.label)

module _ {A : Type 0} (judges : Text → Bool) (counts : List (LabelCount A)) (at : ℕ) (c new : LabelCount A) (below : at < length counts) (read : c ≡ get_or counts at c) where
  set_total : total judges (set counts at new) + found judges c ≡ total judges counts + found judges new
  set_total =
      omega (arith, sum_by-set (found judges) counts at new c below, ap (found judges) read)

  -- some rows more under a label that is there
  pub put_there : (rows : ℕ) → new.label ≡ c.label → new.rows ≡ c.rows + rows → total judges (set counts at new) ≡ total judges counts + cond (judges c.label) rows 0
  put_there rows same more =
      let n : found judges new ≡ cond (judges c.label) (c.rows + rows) 0 = ap (λ l. cond (judges l) new.rows 0) same ∙ ap (λ k. cond (judges c.label) k 0) more in
      omega (arith, set_total, n, found_more (judges c.label) c.rows rows)

  -- some rows less
  pub take_there : (rows : ℕ) → new.label ≡ c.label → c.rows ≡ new.rows + rows → total judges (set counts at new) + cond (judges c.label) rows 0 ≡ total judges counts
  take_there rows same less =
      let n : found judges new ≡ cond (judges c.label) new.rows 0 = ap (λ l. cond (judges l) new.rows 0) same in
      let m : found judges c ≡ cond (judges c.label) new.rows 0 + cond (judges c.label) rows 0 = ap (λ k. cond (judges c.label) k 0) less ∙ found_more (judges c.label) new.rows rows in
      omega (arith, set_total, n, m)

  -- a label in the place of one without rows
  pub put_spare : c.rows ≡ 0 → total judges (set counts at new) ≡ total judges counts + found judges new
  put_spare none =
      omega (arith, set_total, found_none judges c none)

-- a label without rows counts for nothing
module _ {A : Type 0} (all : LabelCounts A) (c : LabelCount A) (none : c.rows ≡ 0) where
  pub none_more : CountsMore all all (λ judges. found judges c)
  none_more = λ h. (h, λ judges. omega (arith, found_none judges c none))

  pub none_less : CountsLess all all (λ judges. found judges c)
  none_less = λ h. (h, λ judges. omega (arith, found_none judges c none))

-- one item's rows, after those of the items before it
module _ {A X : Type 0} (f : (Text → Bool) → X → ℕ) (xs : List X) (i : ℕ) (x : X) (below : i < length xs) (read : x ≡ get_or xs i x) (first old new : LabelCounts A) where
  pub more_next : CountsMore first old (λ judges. sum_by (f judges) (take i xs)) → CountsMore old new (λ judges. f judges x)
      → CountsMore first new (λ judges. sum_by (f judges) (take (i + 1) xs))
  more_next before one = λ h.
      let n = one h in
      let was = before n.0 in
      (was.0, λ judges. omega (arith, was.1 judges, n.1 judges, sum_one_more (f judges) xs i x below read))

  pub less_next : CountsLess first old (λ judges. sum_by (f judges) (take i xs)) → CountsLess old new (λ judges. f judges x)
      → CountsLess first new (λ judges. sum_by (f judges) (take (i + 1) xs))
  less_next before one = λ h.
      let n = one h in
      let was = before n.0 in
      (was.0, λ judges. omega (arith, was.1 judges, n.1 judges, sum_one_more (f judges) xs i x below read))

-- and those of all items, once there is none behind them
module _ {A X : Type 0} (f : (Text → Bool) → X → ℕ) (xs : List X) (i : ℕ) (over : length xs ≤ i) (first new : LabelCounts A) where
  pub more_all : CountsMore first new (λ judges. sum_by (f judges) (take i xs)) → CountsMore first new (λ judges. sum_by (f judges) xs)
  more_all counted = λ h. let n = counted h in (n.0, λ judges. omega (arith, n.1 judges, sum_all (f judges) xs i over))

  pub less_all : CountsLess first new (λ judges. sum_by (f judges) (take i xs)) → CountsLess first new (λ judges. sum_by (f judges) xs)
  less_all counted = λ h. let n = counted h in (n.0, λ judges. omega (arith, n.1 judges, sum_all (f judges) xs i over))
