-- The last row of the table, and what is read behind it.
use Rattle.std.proofs.Common.{◌≡◌, ◌<◌, ◌+◌, ◌-◌, ℕ, zero, suc, pos, true, false, Bool, List, [], ◌∷◌, length, reverse, get_or, Some, refl, sym, ap, ◌∙◌, arith}
use Rattle.std.proofs.lemmas.List.{length-reverse, get_or-reverse}
use Rattle.sqlite_value.specs.declared.value.Value.TheVariants.{Int}
use Rattle.sqlite_value.specs.declared.keys.Order.{Order}
use Rattle.sqlite_value.specs.Order.{Row, column}
use Rattle.sqlite_trees.specs.Tree.{up_to_key}
use Rattle.sqlite_trees.specs.View.{View, with_cursor, Advances}
use Rattle.st_journal.specs.declared.record.Record.{Record}
use Rattle.st_journal_rows.specs.Table.{table_tree, numbered_rows}

all_up : (o : Order) (rows : List Row) → up_to_key o [] rows ≡ rows
all_up o [] = refl
all_up o (row ∷ rows) = ap (λ l. row ∷ l) (all_up o rows)

as_long : (n : ℕ) (records : List Record) → length (numbered_rows n records) ≡ length records
as_long n [] = refl
as_long n (r ∷ records) = ap suc (as_long (n + 1) records)

at_place : (n : ℕ) (records : List Record) (k : ℕ) → k < length records → column (get_or (numbered_rows n records) k []) 0 ≡ Int (pos (n + k))
at_place n [] k low = absurd (omega (arith, low))
at_place n (r ∷ records) zero low = let same : n ≡ n + 0 = omega arith in ap (λ m. Int (pos m)) same
at_place n (r ∷ records) (suc k) low =
    let same : n + 1 + k ≡ n + suc k = omega arith in
    at_place (n + 1) records k (omega (arith, low)) ∙ ap (λ m. Int (pos m)) same

-- what a cursor behind the last row gives first, if there is a row
pub gives_last : (o : Order) (old mid new : View) (row : Row) (found : Bool) (records : List Record)
    → mid ≡ with_cursor old 0 (reverse (up_to_key o [] (old.trees table_tree))) → Advances mid new 0 row found
    → old.trees table_tree ≡ numbered_rows 0 records → found ≡ true → column row 0 ≡ Int (pos (length records - 1))
gives_last o old mid new row false records placed moves are is = absurd (let e = is in cc)
gives_last o old mid new row true records placed moves are is =
    let rows = numbered_rows 0 records in
    let cursor : Some (reverse (up_to_key o [] (old.trees table_tree))) ≡ Some (row ∷ moves.0) =
    ap (λ (v : View). v.cursors 0) (sym placed) ∙ moves.1 in
    let left : reverse (up_to_key o [] (old.trees table_tree)) ≡ row ∷ moves.0 = cc in
    let list : reverse rows ≡ row ∷ moves.0 = ap reverse (sym (all_up o (old.trees table_tree) ∙ are)) ∙ left in
    let long = as_long 0 records in
    let some : 0 < length records = omega (arith, long, length-reverse rows, ap length list) in
    let first : row ≡ get_or rows (length rows - 1 - 0) [] =
    ap (λ l. get_or l 0 []) (sym list) ∙ get_or-reverse rows 0 [] (omega (arith, long, some)) in
    let place : length rows - 1 - 0 ≡ length records - 1 = omega (arith, long) in
    let at : 0 + (length records - 1) ≡ length records - 1 = omega arith in
    ap (λ r. column r 0) (first ∙ ap (λ k. get_or rows k []) place) ∙ at_place 0 records (length records - 1) (omega (arith, some))
    ∙ ap (λ m. Int (pos m)) at

-- and if it gives none, there is no record
pub gives_none : (o : Order) (old mid new : View) (row : Row) (found : Bool) (records : List Record)
    → mid ≡ with_cursor old 0 (reverse (up_to_key o [] (old.trees table_tree))) → Advances mid new 0 row found
    → old.trees table_tree ≡ numbered_rows 0 records → found ≡ false → 0 ≡ length records - 1
gives_none o old mid new row true records placed stops are is = absurd (let e = is in cc)
gives_none o old mid new row false records placed stops are is =
    let cursor : Some (reverse (up_to_key o [] (old.trees table_tree))) ≡ Some [] =
    ap (λ (v : View). v.cursors 0) (sym placed) ∙ stops.0 in
    let left : reverse (up_to_key o [] (old.trees table_tree)) ≡ [] = cc in
    let list : reverse (numbered_rows 0 records) ≡ [] = ap reverse (sym (all_up o (old.trees table_tree) ∙ are)) ∙ left in
    omega (arith, as_long 0 records, length-reverse (numbered_rows 0 records), ap length list)

-- a cursor that was placed, and then moved
pub only_cursors : (old mid new : View) (rows : List Row) → mid ≡ with_cursor old 0 rows → new ≡ record mid { cursors = new.cursors }
    → new ≡ record old { cursors = new.cursors }
only_cursors old mid new rows placed moves = moves ∙ ap (λ (v : View). record v { cursors = new.cursors }) placed
