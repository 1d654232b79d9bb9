-- The normal form of a normal form is itself.
use Rattle.std.proofs.Common.{◌≡◌, ◌≢◌, ℕ, List, [], ◌∷◌, refl, sym, subst, ◌∙◌, ap, ap₂}
use Rattle.std.specs.Ordering.{nat_cmp, ordering_reverse}
use Rattle.std.specs.Cmp.Lexicographic.{slice_cmp, nat_list_cmp_total}
use Rattle.std.specs.declared.cmp.Ordering.{Ordering}
use Rattle.std.specs.declared.cmp.Ordering.TheVariants.{Less, Equal, Greater}
use Rattle.st_label.specs.Tree.{Tree, Empty, Term, And, Or, Operands, none, more, operands}
use Rattle.st_label.specs.Grammar.{Op, All, Any, node, Reads, level, nothing}
use Rattle.st_label.specs.Normal.{operand_text, operand_list, parts, insert_operand, insert_all, whole_of, normal, normal_operands}
use Rattle.st_label.proofs.Placed.{placed}
use Rattle.st_label.proofs.Normals.{Two, IsProper, AreProper, operands_listed, listed_operands, two_some, normal_operands_proper}
use Rattle.st_label.proofs.Limits.{level_fits}

abbrev pub cmp : Tree → Tree → Ordering
cmp r s = slice_cmp nat_cmp (operand_text r) (operand_text s)

-- r isn't joined by the operator itself
abbrev pub Apart : Op → Tree → Type 0
Apart All (And rs) = ⊥
Apart Any (Or rs) = ⊥
Apart _ r = Unit {0}

-- r comes before the first of the list
abbrev pub First : Tree → List Tree → Type 0
First r [] = Unit {0}
First r (s ∷ rs) = cmp r s ≡ Less

abbrev pub Rising : List Tree → Type 0
Rising [] = Unit {0}
Rising (r ∷ rs) = First r rs × Rising rs

abbrev mutual
  pub Stable : Tree → Type 0
  Stable Empty = ⊥
  Stable (Term name) = Unit {0}
  Stable (And rs) = AreStable rs All × Two rs × Rising (operand_list rs)
  Stable (Or rs) = AreStable rs Any × Two rs × Rising (operand_list rs)

  pub AreStable : Operands → Op → Type 0
  AreStable none op = Unit {0}
  AreStable (more r rs) op = Stable r × Apart op r × AreStable rs op

abbrev pub AllStable : Op → List Tree → Type 0
AllStable op [] = Unit {0}
AllStable op (r ∷ rs) = Stable r × Apart op r × AllStable op rs

parts_apart : (op : Op) (r : Tree) → Apart op r → parts op r ≡ r ∷ []
parts_apart All Empty h = refl
parts_apart All (Term n) h = refl
parts_apart All (And rs) h = absurd h
parts_apart All (Or rs) h = refl
parts_apart Any Empty h = refl
parts_apart Any (Term n) h = refl
parts_apart Any (And rs) h = refl
parts_apart Any (Or rs) h = absurd h

insert_first : (r : Tree) (rs : List Tree) → First r rs → insert_operand r rs ≡ r ∷ rs
insert_first r [] h = refl
insert_first r (s ∷ rs) h = ap (λ (o : Ordering). placed o r s rs (insert_operand r rs)) h

whole_two : (op : Op) (rs : Operands) → Two rs → whole_of op (operand_list rs) ≡ node op (operand_list rs)
whole_two op none h = absurd h
whole_two op (more r none) h = absurd h
whole_two op (more r (more s rs)) h = refl

-- What is stable is its own normal form.
mutual
  pub stable_normal : (r : Tree) → Stable r → normal r ≡ r
  stable_normal Empty h = refl
  stable_normal (Term n) h = refl
  stable_normal (And rs) h = ap (whole_of All) (stable_operands rs All h.0 h.2) ∙ whole_two All rs h.1 ∙ ap And (operands_listed rs)
  stable_normal (Or rs) h = ap (whole_of Any) (stable_operands rs Any h.0 h.2) ∙ whole_two Any rs h.1 ∙ ap Or (operands_listed rs)

  stable_operands : (rs : Operands) (op : Op) → AreStable rs op → Rising (operand_list rs) → normal_operands op rs ≡ operand_list rs
  stable_operands none op h k = refl
  stable_operands (more r rs) op h k =
      ap₂ insert_all (ap (parts op) (stable_normal r h.0) ∙ parts_apart op r h.1) (stable_operands rs op h.2 k.1)
      ∙ insert_first r (operand_list rs) k.0

-- An insertion keeps the list stable and rising.
turned : (r s : Tree) → cmp r s ≡ Greater → cmp s r ≡ Less
turned r s h = nat_list_cmp_total.antisymm (operand_text s) (operand_text r) ∙ ap ordering_reverse h

placed_first : (o : Ordering) (q r x : Tree) (xs with_r : List Tree) → cmp q r ≡ Less → cmp q x ≡ Less → First q (placed o r x xs with_r)
placed_first Less q r x xs with_r h k = h
placed_first Equal q r x xs with_r h k = k
placed_first Greater q r x xs with_r h k = k

insert_after : (q r : Tree) (xs : List Tree) → cmp q r ≡ Less → First q xs → First q (insert_operand r xs)
insert_after q r [] h k = h
insert_after q r (x ∷ xs) h k = placed_first (cmp r x) q r x xs (insert_operand r xs) h k

placed_rising : (o : Ordering) (r x : Tree) (xs with_r : List Tree) → cmp r x ≡ o → Rising (x ∷ xs) → Rising with_r → (cmp x r ≡ Less → First x with_r) → Rising (placed o r x xs with_r)
placed_rising Less r x xs with_r is h k first = (is, h)
placed_rising Equal r x xs with_r is h k first = h
placed_rising Greater r x xs with_r is h k first = (first (turned r x is), k)

insert_rising : (rs : List Tree) (r : Tree) → Rising rs → Rising (insert_operand r rs)
insert_rising [] r h = (tt, tt)
insert_rising (x ∷ xs) r h = placed_rising (cmp r x) r x xs (insert_operand r xs) refl h (insert_rising xs r h.1) (λ before. insert_after x r xs before h.0)

insert_all_rising : (qs rs : List Tree) → Rising rs → Rising (insert_all qs rs)
insert_all_rising [] rs h = h
insert_all_rising (q ∷ qs) rs h = insert_rising (insert_all qs rs) q (insert_all_rising qs rs h)

placed_stable : (op : Op) (o : Ordering) (r x : Tree) (xs with_r : List Tree) → Stable r → Apart op r → AllStable op (x ∷ xs) → AllStable op with_r → AllStable op (placed o r x xs with_r)
placed_stable op Less r x xs with_r h a k w = (h, a, k)
placed_stable op Equal r x xs with_r h a k w = k
placed_stable op Greater r x xs with_r h a k w = (k.0, k.1, w)

insert_stable : (rs : List Tree) (op : Op) (r : Tree) → Stable r → Apart op r → AllStable op rs → AllStable op (insert_operand r rs)
insert_stable [] op r h a k = (h, a, tt)
insert_stable (x ∷ xs) op r h a k = placed_stable op (cmp r x) r x xs (insert_operand r xs) h a k (insert_stable xs op r h a k.2)

insert_all_stable : (qs rs : List Tree) (op : Op) → AllStable op qs → AllStable op rs → AllStable op (insert_all qs rs)
insert_all_stable [] rs op h k = k
insert_all_stable (q ∷ qs) rs op h k = insert_stable (insert_all qs rs) op q h.0 h.1 (insert_all_stable qs rs op h.2 k)

listed_stable : (rs : Operands) (op : Op) → AreStable rs op → AllStable op (operand_list rs)
listed_stable none op h = tt
listed_stable (more r rs) op h = (h.0, h.1, listed_stable rs op h.2)

operands_stable : (rs : List Tree) (op : Op) → AllStable op rs → AreStable (operands rs) op
operands_stable [] op h = tt
operands_stable (r ∷ rs) op h = (h.0, h.1, operands_stable rs op h.2)

parts_stable : (op : Op) (r : Tree) → Stable r → AllStable op (parts op r)
parts_stable All Empty h = absurd h
parts_stable All (Term n) h = (h, tt, tt)
parts_stable All (And rs) h = listed_stable rs All h.0
parts_stable All (Or rs) h = (h, tt, tt)
parts_stable Any Empty h = absurd h
parts_stable Any (Term n) h = (h, tt, tt)
parts_stable Any (And rs) h = (h, tt, tt)
parts_stable Any (Or rs) h = listed_stable rs Any h.0

whole_stable : (op : Op) (rs : List Tree) → rs ≢ [] → AllStable op rs → Rising rs → Stable (whole_of op rs)
whole_stable op [] some h k = absurd (some refl)
whole_stable op (r ∷ []) some h k = h.0
whole_stable All (r ∷ s ∷ rs) some h k = (operands_stable (r ∷ s ∷ rs) All h, tt, subst Rising (sym (listed_operands (r ∷ s ∷ rs))) k)
whole_stable Any (r ∷ s ∷ rs) some h k = (operands_stable (r ∷ s ∷ rs) Any h, tt, subst Rising (sym (listed_operands (r ∷ s ∷ rs))) k)

mutual
  pub normal_stable : (r : Tree) → IsProper r → Stable (normal r)
  normal_stable Empty h = absurd h
  normal_stable (Term n) h = tt
  normal_stable (And rs) h =
      let all = normal_operands_stable rs All h.0 in
      whole_stable All (normal_operands All rs) ((normal_operands_proper rs All h.0).1 (two_some rs h.1)) all.0 all.1
  normal_stable (Or rs) h =
      let all = normal_operands_stable rs Any h.0 in
      whole_stable Any (normal_operands Any rs) ((normal_operands_proper rs Any h.0).1 (two_some rs h.1)) all.0 all.1

  normal_operands_stable : (rs : Operands) (op : Op) → AreProper rs → AllStable op (normal_operands op rs) × Rising (normal_operands op rs)
  normal_operands_stable none op h = (tt, tt)
  normal_operands_stable (more r rs) op h =
      let rest = normal_operands_stable rs op h.1 in (
        insert_all_stable (parts op (normal r)) (normal_operands op rs) op (parts_stable op (normal r) (normal_stable r h.0)) rest.0,
        insert_all_rising (parts op (normal r)) (normal_operands op rs) rest.1,
      )

pub normal_again : (d : ℕ) (t : List ℕ) (r : Tree) → Reads d t r → normal (normal r) ≡ normal r
normal_again d t r nothing = refl
normal_again d t r (level l) = stable_normal (normal r) (normal_stable r (level_fits l).proper)
