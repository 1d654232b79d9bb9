-- Fields of a grid, and the rows that are counted in them.
use Rattle.std.proofs.Common.{◌≡◌, ℕ, suc, ◌+◌, ◌-◌, ◌*◌, ◌/◌, ◌^◌, ◌<◌, ◌≤◌, max, min, List, [], ◌∷◌, length, map, count_by, Bool, nat_eq, get_or, refl, ap, ◌∙◌, arith}
use Rattle.std.proofs.Math.Nat.{div-lt_iff_lt-mul, div-mul-le_self, mul-le-mul_right, mul-lt-mul_of_pos_right}
use Rattle.std.proofs.lemmas.Nat.{le-div, mul-lt}
use Rattle.std.specs.List.{All, range_with_len}
use Rattle.st_label.specs.Reading.{is_true}
use Rattle.st_text.specs.Texts.{Text, is_among}
use Rattle.st_box.specs.declared.query.Query.{Query}
use Rattle.st_index.specs.declared.row.Row.{Row}
use Rattle.st_index.specs.inner.Fields.{Counts}
use Rattle.st_index.proofs.Tallying.{zero_at}
use Rattle.st_scan.specs.Grids.{field_of, grid_of}
use Rattle.st_scan.specs.Visible.{is_visible_inside, visible_rows}
use Rattle.st_scan.proofs.Visible.{count_kept}

pub share_below : (a w s : ℕ) → a < w → 1 ≤ s → a * s / w < s
share_below a w s l some =
    let pos : 0 < w = omega (arith, l) in
    let less : a * s < w * s = mul-lt-mul_of_pos_right l (omega (arith, some)) in
    (div-lt_iff_lt-mul {k = w} {x = a * s} {y = s} pos).1 (omega (arith, less))

pub share_fits : (a s : ℕ) → a < 2 ^ 21 → s ≤ 32 → a * s < 2 ^ 32
share_fits a s l few = let p = mul-lt a s (2 ^ 21) 33 l (omega (arith, few)) in omega (arith, p)

div_mono : (a b w : ℕ) → a ≤ b → 0 < w → a / w ≤ b / w
div_mono a b w le some = le-div (a / w) b w some (omega (arith, le, div-mul-le_self a w))

-- numbers between two that share one are in the same
pub share_between : (first w shares low high number share : ℕ) → 0 < w → low ≤ number → number ≤ high
    → share ≡ (low - first) * shares / w → (high - first) * shares / w ≡ share → (number - first) * shares / w ≡ share
share_between first w shares low high number share some from to is same =
    let below = div_mono ((low - first) * shares) ((number - first) * shares) w (mul-le-mul_right shares (omega (arith, from))) some in
    let above = div_mono ((number - first) * shares) ((high - first) * shares) w (mul-le-mul_right shares (omega (arith, to))) some in
    omega (arith, below, above, is, same)

pub max_at_most : (a b n m : ℕ) → m ≡ max a b → a ≤ n → b ≤ n → m ≤ n
max_at_most a b n m is le more = omega (arith, is, le, more)

pub min_at_least : (a b n m : ℕ) → m ≡ min a b → n ≤ a → n ≤ b → n ≤ m
min_at_least a b n m is le more = omega (arith, is, le, more)

-- a list of the values of a function at the numbers from one on
pub counted : (f : ℕ → ℕ) (counts : List ℕ) (from : ℕ) → ((k : ℕ) → k < length counts → get_or counts k 0 ≡ f (from + k)) → counts ≡ map f (range_with_len from (length counts))
counted f [] from h = refl
counted f (x ∷ xs) from h =
    let z : from + 0 ≡ from = omega arith in
    let first : x ≡ f from = h 0 (omega arith) ∙ ap f z in
    let rest : xs ≡ map f (range_with_len (from + 1) (length xs)) = counted f xs (from + 1) (λ k l. h (suc k) (omega (arith, l)) ∙ (let e : from + suc k ≡ from + 1 + k = omega arith in ap f e)) in
    ap (λ y. y ∷ xs) first ∙ ap (λ ys. f from ∷ ys) rest

-- where as many were added to zeros as there are rows in each field, that is the grid of those that are seen
pub are_grid : {A : Type 0} (q : Query) (nx ny : ℕ) (auths : List Text) (content : List (Row A)) (old new : List ℕ) → All (λ n. n ≡ 0) old
    → Counts q (λ label. is_true (is_among auths) label) (field_of q nx ny) content old new → length new ≡ nx * ny
    → new ≡ grid_of q nx ny (visible_rows q auths content)
are_grid {A = A} q nx ny auths content old new zeros counts size =
    let in_field : ℕ → Row A → Bool = λ field row. nat_eq (field_of q nx ny row.point) field in
    let f : ℕ → ℕ = λ field. count_by (in_field field) (visible_rows q auths content) in
    let at : (k : ℕ) → get_or new k 0 ≡ f k = λ k.
    (let z = zero_at old zeros k in
    let c = counts k in
    let kept = count_kept (in_field k) (is_visible_inside q auths) content in
    omega (arith, z, c, kept)) in
    counted f new 0 (λ k l. at k ∙ (let e : k ≡ 0 + k = omega arith in ap f e)) ∙ ap (λ n. map f (range_with_len 0 n)) size
