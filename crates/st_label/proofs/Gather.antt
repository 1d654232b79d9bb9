-- Operands at their places, by their printed forms.
use lib.Dec.{ltb}
use Rattle.std.proofs.Common.{◌≡◌, ◌≢◌, ◌+◌, ◌<◌, ◌≤◌, ℕ, zero, suc, List, [], ◌∷◌, ◌++◌, Bool, true, false, not, cond, Option, Some, None, length}
use Rattle.std.proofs.Common.{map, take, get_or, refl, sym, ap, ap₂, ◌∙◌, arith, string_bytes}
use Rattle.std.specs.Prelude.{String, Vec}
use Rattle.std.specs.Cmp.{Equal-is}
use Rattle.std.specs.Cmp.Lexicographic.{slice_cmp}
use Rattle.std.specs.List.{position, prefix_len, insert}
use Rattle.std.specs.Ordering.{nat_cmp, is_le, is_eq}
use Rattle.std.specs.declared.cmp.Ordering.{Ordering}
use Rattle.std.specs.declared.cmp.Ordering.TheVariants.{Less, Equal, Greater}
use Rattle.std.proofs.lemmas.Bool.{ltb-true, ltb-false}
use Rattle.std.proofs.lemmas.List.{append_assoc, get_or-map, length-map, map-append, take_more}
use Rattle.std.proofs.lemmas.Simd.{map-map}
use Rattle.std.proofs.lemmas.Map.Text.{is_eq-slice_cmp}
use Rattle.std.proofs.lemmas.Slice.Eq.{bytes_eq-Decides}
use Rattle.st_label.specs.Tree as label
use Rattle.st_label.specs.Tree.{operands}
use Rattle.st_label.specs.Grammar.{Op, All, Any}
use Rattle.st_label.specs.Normal.{operand_text, insert_operand, insert_all, parts, normal, normal_operands}
use Rattle.st_label.specs.inner.Gathered.{gathered}
use Rattle.st_label.specs.inner.Views.{tree_view, op_view}
use Rattle.st_label.specs.declared.tree.Operator.{Operator}
use Rattle.st_label.specs.declared.tree.Tree.{Tree, Empty, Term, And, Or}
use Rattle.st_label.proofs.Seen.{view-Empty, view-And, view-Or, view-Term}
use Rattle.st_label.proofs.Normals.{listed_operands}

-- ---- the place of an operand

abbrev before : label.Tree → label.Tree → Bool
before r x = not (is_le (slice_cmp nat_cmp (operand_text r) (operand_text x)))

texts_equal : (a b : List ℕ) → slice_cmp nat_cmp a b ≡ Equal → a ≡ b
texts_equal a b e = (bytes_eq-Decides a b).0 (sym (is_eq-slice_cmp a b) ∙ ap is_eq e)

equal_texts : (a b : List ℕ) → a ≡ b → slice_cmp nat_cmp a b ≡ Equal
equal_texts a b e = (Equal-is (slice_cmp nat_cmp a b)).0 (is_eq-slice_cmp a b ∙ (bytes_eq-Decides a b).1 e)

at_end_by : (r x : label.Tree) (xs : List label.Tree) (c : Ordering) → slice_cmp nat_cmp (operand_text r) (operand_text x) ≡ c → length (x ∷ xs) ≤ prefix_len (before r) (x ∷ xs) →
    (length xs ≤ prefix_len (before r) xs → insert_operand r xs ≡ xs ++ r ∷ []) → insert_operand r (x ∷ xs) ≡ (x ∷ xs) ++ r ∷ []
at_end_by r x xs Less e h go = let k = rw e at h in absurd (omega arith)
at_end_by r x xs Equal e h go = let k = rw e at h in absurd (omega arith)
at_end_by r x xs Greater e h go = let k = rw e at h in rw e (ap (λ (l : List label.Tree). x ∷ l) (go (omega arith)))

at_end : (r : label.Tree) (xs : List label.Tree) → length xs ≤ prefix_len (before r) xs → insert_operand r xs ≡ xs ++ r ∷ []
at_end r [] h = refl
at_end r (x ∷ xs) h = at_end_by r x xs _ refl h (at_end r xs)

at_place_by : (r x d : label.Tree) (xs : List label.Tree) (k : ℕ) (c : Ordering) → slice_cmp nat_cmp (operand_text r) (operand_text x) ≡ c
    → prefix_len (before r) (x ∷ xs) ≡ k → operand_text r ≢ operand_text (get_or (x ∷ xs) k d) →
    ((j : ℕ) → prefix_len (before r) xs ≡ j → j < length xs → operand_text r ≢ operand_text (get_or xs j d) → insert_operand r xs ≡ insert xs j r)
    → k < length (x ∷ xs) → insert_operand r (x ∷ xs) ≡ insert (x ∷ xs) k r
at_place_by r x d xs zero Less e p h go less = rw e refl
at_place_by r x d xs zero Equal e p h go less = absurd (h (texts_equal (operand_text r) (operand_text x) e))
at_place_by r x d xs zero Greater e p h go less = let k = rw e at p in absurd (omega arith)
at_place_by r x d xs (suc j) Less e p h go less = let k = rw e at p in absurd (omega arith)
at_place_by r x d xs (suc j) Equal e p h go less = let k = rw e at p in absurd (omega arith)
at_place_by r x d xs (suc j) Greater e p h go less = let k = rw e at p in rw e (ap (λ (l : List label.Tree). x ∷ l) (go j (omega arith) (omega arith) h))

at_place : (r d : label.Tree) (xs : List label.Tree) (k : ℕ) → prefix_len (before r) xs ≡ k → k < length xs → operand_text r ≢ operand_text (get_or xs k d) → insert_operand r xs ≡ insert xs k r
at_place r d [] k p less h = absurd (omega arith)
at_place r d (x ∷ xs) k p less h = at_place_by r x d xs k _ refl p h (λ j. at_place r d xs j) less

at_same_by : (r x d : label.Tree) (xs : List label.Tree) (k : ℕ) (c : Ordering) → slice_cmp nat_cmp (operand_text r) (operand_text x) ≡ c
    → prefix_len (before r) (x ∷ xs) ≡ k → operand_text r ≡ operand_text (get_or (x ∷ xs) k d) →
    ((j : ℕ) → prefix_len (before r) xs ≡ j → j < length xs → operand_text r ≡ operand_text (get_or xs j d) → insert_operand r xs ≡ xs) → k < length (x ∷ xs) → insert_operand r (x ∷ xs) ≡ x ∷ xs
at_same_by r x d xs zero Less e p h go less = let both : Less ≡ Equal = sym e ∙ equal_texts (operand_text r) (operand_text x) h in cc
at_same_by r x d xs zero Equal e p h go less = rw e refl
at_same_by r x d xs zero Greater e p h go less = let k = rw e at p in absurd (omega arith)
at_same_by r x d xs (suc j) Less e p h go less = let k = rw e at p in absurd (omega arith)
at_same_by r x d xs (suc j) Equal e p h go less = let k = rw e at p in absurd (omega arith)
at_same_by r x d xs (suc j) Greater e p h go less = let k = rw e at p in rw e (ap (λ (l : List label.Tree). x ∷ l) (go j (omega arith) (omega arith) h))

at_same : (r d : label.Tree) (xs : List label.Tree) (k : ℕ) → prefix_len (before r) xs ≡ k → k < length xs → operand_text r ≡ operand_text (get_or xs k d) → insert_operand r xs ≡ xs
at_same r d [] k p less h = absurd (omega arith)
at_same r d (x ∷ xs) k p less h = at_same_by r x d xs k _ refl p h (λ j. at_same r d xs j) less

-- ---- what a position says

pub some_by : (n len i : ℕ) (v : Bool) → ltb n len ≡ v → cond v (Some n) None ≡ Some i → (n ≡ i) × (i < len)
some_by n len i true e h = let is : n ≡ i = cc in (is, rw (sym is) (ltb-true n len e))
some_by n len i false e h = cc

none_by : (n len : ℕ) (v : Bool) → ltb n len ≡ v → cond v (Some n) None ≡ None → len ≤ n
none_by n len true e h = cc
none_by n len false e h = ltb-false n len e

prefix_map : {X Y : Type 0} (p : Y → Bool) (f : X → Y) (xs : List X) → prefix_len p (map f xs) ≡ prefix_len (λ x. p (f x)) xs
prefix_map p f [] = refl
prefix_map p f (x ∷ xs) = ap (λ (n : ℕ). cond (p (f x)) (1 + n) 0) (prefix_map p f xs)

-- ---- texts and trees side by side

abbrev pub Printed : {A : Type 0} → List (String A) → List (Tree A) → Type 0
Printed texts trees = map string_bytes texts ≡ map (λ tree. operand_text (tree_view tree)) trees

same_prefix : {A : Type 0} (texts : List (String A)) (trees : List (Tree A)) (r : label.Tree) → Printed texts trees →
    prefix_len (λ other. not (is_le (slice_cmp nat_cmp (operand_text r) (string_bytes other)))) texts ≡ prefix_len (before r) (map tree_view trees)
same_prefix texts trees r printed =
    sym (prefix_map (λ (t : List ℕ). not (is_le (slice_cmp nat_cmp (operand_text r) t))) string_bytes texts)
    ∙ ap (prefix_len (λ (t : List ℕ). not (is_le (slice_cmp nat_cmp (operand_text r) t)))) printed
    ∙ prefix_map (λ (t : List ℕ). not (is_le (slice_cmp nat_cmp (operand_text r) t))) (λ tree. operand_text (tree_view tree)) trees
    ∙ sym (prefix_map (before r) tree_view trees)

pub same_length : {A : Type 0} (texts : List (String A)) (trees : List (Tree A)) → Printed texts trees → length texts ≡ length trees
same_length texts trees printed = sym (length-map texts string_bytes) ∙ ap length printed ∙ length-map trees (λ tree. operand_text (tree_view tree))

map-insert : {X Y : Type 0} (f : X → Y) (xs : List X) (i : ℕ) (x : X) → map f (insert xs i x) ≡ insert (map f xs) i (f x)
map-insert f [] zero x = refl
map-insert f [] (suc i) x = refl
map-insert f (y ∷ ys) zero x = refl
map-insert f (y ∷ ys) (suc i) x = ap (λ l. f y ∷ l) (map-insert f ys i x)

pub printed_end : {A : Type 0} (texts : List (String A)) (trees : List (Tree A)) (text : String A) (tree : Tree A) → Printed texts trees
    → string_bytes text ≡ operand_text (tree_view tree) → Printed (texts ++ text ∷ []) (trees ++ tree ∷ [])
printed_end texts trees text tree printed is =
    map-append string_bytes texts (text ∷ [])
    ∙ ap₂ (λ (l : List (List ℕ)) (t : List ℕ). l ++ t ∷ []) printed is
    ∙ sym (map-append (λ tree. operand_text (tree_view tree)) trees (tree ∷ []))

pub printed_place : {A : Type 0} (texts : List (String A)) (trees : List (Tree A)) (text : String A) (tree : Tree A) (i : ℕ) → Printed texts trees
    → string_bytes text ≡ operand_text (tree_view tree) → Printed (insert texts i text) (insert trees i tree)
printed_place texts trees text tree i printed is =
    map-insert string_bytes texts i text
    ∙ ap₂ (λ (l : List (List ℕ)) (t : List ℕ). insert l i t) printed is
    ∙ sym (map-insert (λ tree. operand_text (tree_view tree)) trees i tree)

abbrev pub PlaceOf : {A : Type 0} → List (String A) → List ℕ → Option ℕ → Type 0
PlaceOf texts text place = place ≡ position (λ other. is_le (slice_cmp nat_cmp text (string_bytes other))) texts

pub place_is : {A : Type 0} (texts : List (String A)) (t u : List ℕ) (place found : Option ℕ) → found ≡ place → PlaceOf texts t found → t ≡ u → PlaceOf texts u place
place_is texts t u place found e h k = sym e ∙ h ∙ ap (λ (x : List ℕ). position (λ other. is_le (slice_cmp nat_cmp x (string_bytes other))) texts) k

pub more_at_end : {A : Type 0} (texts : List (String A)) (trees : List (Tree A)) (tree : Tree A) → Printed texts trees → PlaceOf texts (operand_text (tree_view tree)) None →
    map tree_view (trees ++ tree ∷ []) ≡ insert_operand (tree_view tree) (map tree_view trees)
more_at_end texts trees tree printed place =
    let n = prefix_len (λ other. not (is_le (slice_cmp nat_cmp (operand_text (tree_view tree)) (string_bytes other)))) texts in
    let past : length texts ≤ n = none_by n (length texts) (ltb n (length texts)) refl (sym place) in
    map-append tree_view trees (tree ∷ [])
    ∙ sym (at_end (tree_view tree) (map tree_view trees) (omega (arith, past, same_prefix texts trees (tree_view tree) printed, same_length texts trees printed, length-map trees tree_view)))

pub place_inside : {A : Type 0} (texts : List (String A)) (trees : List (Tree A)) (text : List ℕ) (i : ℕ) → Printed texts trees → PlaceOf texts text (Some i) → i < length trees
place_inside texts trees text i printed place =
    let n = prefix_len (λ other. not (is_le (slice_cmp nat_cmp text (string_bytes other)))) texts in
    let found = some_by n (length texts) i (ltb n (length texts)) refl (sym place) in
    omega (arith, found.1, same_length texts trees printed)

-- the text at a place is its tree's
text_at : {A : Type 0} (texts : List (String A)) (trees : List (Tree A)) (i : ℕ) (d : String A) → Printed texts trees → i < length texts
    → string_bytes (get_or texts i d) ≡ operand_text (get_or (map tree_view trees) i label.Empty)
text_at texts trees i d printed less =
    sym (get_or-map string_bytes texts i d (string_bytes d) less)
    ∙ ap (λ (l : List (List ℕ)). get_or l i (string_bytes d)) (printed ∙ sym (map-map operand_text tree_view trees))
    ∙ get_or-map operand_text (map tree_view trees) i label.Empty (string_bytes d) (omega (arith, less, same_length texts trees printed, length-map trees tree_view))

pub more_at_place : {A : Type 0} (texts : List (String A)) (trees : List (Tree A)) (tree : Tree A) (i : ℕ) (d : String A) → Printed texts trees
    → PlaceOf texts (operand_text (tree_view tree)) (Some i) →
    string_bytes (get_or texts i d) ≢ operand_text (tree_view tree) → map tree_view (insert trees i tree) ≡ insert_operand (tree_view tree) (map tree_view trees)
more_at_place texts trees tree i d printed place other =
    let n = prefix_len (λ other. not (is_le (slice_cmp nat_cmp (operand_text (tree_view tree)) (string_bytes other)))) texts in
    let found = some_by n (length texts) i (ltb n (length texts)) refl (sym place) in
    let at = text_at texts trees i d printed found.1 in
    map-insert tree_view trees i tree
    ∙ sym (at_place (tree_view tree) label.Empty (map tree_view trees) i (sym (same_prefix texts trees (tree_view tree) printed) ∙ found.0)
    (omega (arith, found.1, same_length texts trees printed, length-map trees tree_view)) (λ e. other (at ∙ sym e)))

pub more_at_same : {A : Type 0} (texts : List (String A)) (trees : List (Tree A)) (tree : Tree A) (i : ℕ) (d : String A) → Printed texts trees
    → PlaceOf texts (operand_text (tree_view tree)) (Some i) →
    string_bytes (get_or texts i d) ≡ operand_text (tree_view tree) → map tree_view trees ≡ insert_operand (tree_view tree) (map tree_view trees)
more_at_same texts trees tree i d printed place same =
    let n = prefix_len (λ other. not (is_le (slice_cmp nat_cmp (operand_text (tree_view tree)) (string_bytes other)))) texts in
    let found = some_by n (length texts) i (ltb n (length texts)) refl (sym place) in
    let at = text_at texts trees i d printed found.1 in
    sym (at_same (tree_view tree) label.Empty (map tree_view trees) i (sym (same_prefix texts trees (tree_view tree) printed) ∙ found.0)
    (omega (arith, found.1, same_length texts trees printed, length-map trees tree_view)) (sym same ∙ at))

-- ---- a level

pub one_less : {A : Type 0} (old new : List (Tree A)) (tree : Tree A) (done whole : List label.Tree) → old ≡ new ++ tree ∷ []
    → whole ≡ map tree_view old ++ done → whole ≡ map tree_view new ++ tree_view tree ∷ done
one_less old new tree done whole e h =
    h ∙ ap (λ (l : List label.Tree). l ++ done) (ap (map tree_view) e ∙ map-append tree_view new (tree ∷ [])) ∙ append_assoc (map tree_view new) (tree_view tree ∷ []) done

pub level_gathered : (op : Op) (rs : List label.Tree) → gathered op (map normal rs) ≡ normal_operands op (operands rs)
level_gathered op [] = refl
level_gathered op (r ∷ rs) = ap (insert_all (parts op (normal r))) (level_gathered op rs)

pub one_more_normal : {A : Type 0} (done all : List (Tree A)) (i : ℕ) (item other : Tree A) → i < length all → item ≡ get_or all i item
    → map tree_view done ≡ map (λ tree. normal (tree_view tree)) (take i all) →
    tree_view other ≡ normal (tree_view item) → map tree_view (done ++ other ∷ []) ≡ map (λ tree. normal (tree_view tree)) (take (i + 1) all)
one_more_normal done all i item other h is before same =
    map-append tree_view done (other ∷ [])
    ∙ ap₂ (λ (l : List label.Tree) (r : label.Tree). l ++ r ∷ []) before (same ∙ ap (λ tree. normal (tree_view tree)) is)
    ∙ sym (map-append (λ tree. normal (tree_view tree)) (take i all) (get_or all i item ∷ []))
    ∙ ap (map (λ tree. normal (tree_view tree))) (sym (take_more all i item h))

-- an operand's parts
pub parts_all : {A : Type 0} (op : Operator) (tree : Tree A) (trees : Vec (Tree A) A) → op ≡ Operator.All → tree ≡ And trees → parts (op_view op) (tree_view tree) ≡ map tree_view trees.items
parts_all op tree trees h e = rw (h, e, view-And trees) (listed_operands (map tree_view trees.items))

pub parts_any : {A : Type 0} (op : Operator) (tree : Tree A) (trees : Vec (Tree A) A) → op ≡ Operator.Any → tree ≡ Or trees → parts (op_view op) (tree_view tree) ≡ map tree_view trees.items
parts_any op tree trees h e = rw (h, e, view-Or trees) (listed_operands (map tree_view trees.items))

pub keeps_and : {A : Type 0} (op : Operator) (tree : Tree A) (trees : Vec (Tree A) A) → op ≡ Operator.Any → tree ≡ And trees → parts (op_view op) (tree_view tree) ≡ tree_view (And trees) ∷ []
keeps_and op tree trees h e = rw (h, e, view-And trees) refl

pub keeps_or : {A : Type 0} (op : Operator) (tree : Tree A) (trees : Vec (Tree A) A) → op ≡ Operator.All → tree ≡ Or trees → parts (op_view op) (tree_view tree) ≡ tree_view (Or trees) ∷ []
keeps_or op tree trees h e = rw (h, e, view-Or trees) refl

keeps_name : (op : Op) (name : List ℕ) → parts op (label.Term name) ≡ label.Term name ∷ []
keeps_name All name = refl
keeps_name Any name = refl

pub keeps_term : {A : Type 0} (op : Operator) (tree : Tree A) (name : String A) → tree ≡ Term name → parts (op_view op) (tree_view tree) ≡ tree_view (Term name) ∷ []
keeps_term op tree name e = rw (e, view-Term name) (keeps_name (op_view op) (string_bytes name))

pub keeps_empty : {A : Type 0} (op : Operator) (tree : Tree A) → tree ≡ Empty → parts (op_view op) (tree_view tree) ≡ tree_view {A = A} Empty ∷ []
keeps_empty {A} op tree e = rw (e, view-Empty A) (keeps_nothing (op_view op))
  where
    keeps_nothing : (op : Op) → parts op label.Empty ≡ label.Empty ∷ []
    keeps_nothing All = refl
    keeps_nothing Any = refl
