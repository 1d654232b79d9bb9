-- Operands taken from the end of a list, one by one.
use Rattle.std.proofs.Common.{◌≡◌, ℕ, ◌<◌, ◌≤◌, List, [], ◌∷◌, ◌++◌, length, map, refl, ap, sym, ◌∙◌, arith, length-append, true, false}
use Rattle.std.specs.Prelude.{Vec}
use Rattle.std.proofs.lemmas.List.{append_assoc, map-append, length-map}
use Rattle.st_label.specs.Tree as label
use Rattle.st_label.specs.Grammar.{Op, node}
use Rattle.st_label.specs.Normal.{whole_of}
use Rattle.st_label.specs.inner.Views.{tree_view, op_view}
use Rattle.st_label.specs.declared.tree.Operator.{Operator}
use Rattle.st_label.specs.declared.tree.Tree.{Tree, Empty, And, Or}
use Rattle.st_label.proofs.Seen.{view-And, view-Or, view-Empty}

pub one_popped : {A : Type 0} (whole xs ys : List (Tree A)) (tree : Tree A) (done : List label.Tree) → map tree_view whole ≡ map tree_view xs ++ done → xs ≡ ys ++ tree ∷ []
    → map tree_view whole ≡ map tree_view ys ++ (tree_view tree ∷ done)
one_popped whole xs ys tree done e p =
    e ∙ ap (λ l. map tree_view l ++ done) p ∙ ap (λ l. l ++ done) (map-append tree_view ys (tree ∷ [])) ∙ append_assoc (map tree_view ys) (tree_view tree ∷ []) done

pub all_popped : {A : Type 0} (whole xs : List (Tree A)) (done : List label.Tree) → map tree_view whole ≡ map tree_view xs ++ done → xs ≡ []
    → map tree_view whole ≡ done
all_popped whole xs done e p = e ∙ ap (λ l. map tree_view l ++ done) p

two_or_more : (op : Op) (trees : List label.Tree) → 2 ≤ length trees → whole_of op trees ≡ node op trees
two_or_more op [] le = absurd (omega arith)
two_or_more op (a ∷ []) le = absurd (omega arith)
two_or_more op (a ∷ b ∷ trees) le = refl

pub whole_all : {A : Type 0} (op : Operator) (trees : Vec (Tree A) A) → op ≡ Operator.All → 2 ≤ length trees.items → tree_view (And trees) ≡ whole_of (op_view op) (map tree_view trees.items)
whole_all op trees e le = rw e (view-And trees ∙ sym (two_or_more (op_view Operator.All) (map tree_view trees.items) (omega (arith, length-map trees.items tree_view, le))))

pub whole_any : {A : Type 0} (op : Operator) (trees : Vec (Tree A) A) → op ≡ Operator.Any → 2 ≤ length trees.items → tree_view (Or trees) ≡ whole_of (op_view op) (map tree_view trees.items)
whole_any op trees e le = rw e (view-Or trees ∙ sym (two_or_more (op_view Operator.Any) (map tree_view trees.items) (omega (arith, length-map trees.items tree_view, le))))

pub one_left : {A : Type 0} (op : Op) (trees front : List (Tree A)) (tree : Tree A) → trees ≡ front ++ tree ∷ [] → length trees < 2 → tree_view tree ≡ whole_of op (map tree_view trees)
one_left op trees [] tree e lt = rw e refl
one_left op trees (x ∷ front) tree e lt = absurd (let n = ap length e in omega (arith, n, lt, length-append front (tree ∷ [])))

pub none_left : {A : Type 0} (op : Op) (trees : List (Tree A)) → trees ≡ [] → tree_view {A = A} Empty ≡ whole_of op (map tree_view trees)
none_left {A} op trees e = rw e (view-Empty A)

pub nothing_left : {T : Type 0} (xs : List T) (n : ℕ) → n ≡ length xs → (0 < n → false ≡ true) → xs ≡ []
nothing_left [] n e h = refl
nothing_left (x ∷ xs) n e h = absurd (let k = h (omega (arith, e)) in cc)
