-- The tree at the end of a text.
use Rattle.std.proofs.Common.{◌≡◌, ℕ, true, false, length, List, [], ◌∷◌, None, Result, refl, arith}
use Rattle.std.specs.Prelude.{◌==◌}
use Rattle.std.proofs.lemmas.Grind.{common_steps}
use Rattle.st_label.specs.inner.Machine.{Frame, Mode, whole}
use Rattle.st_label.specs.inner.Views.{tree_view, outer_view}
use Rattle.st_label.specs.inner.Gives.{Gives}
use Rattle.st_label.specs.declared.tree.Tree.{Tree}
use Rattle.st_label.specs.declared.reader.Level.{Level}
use Rattle.st_label.specs.declared.reader.ReadFault.{ReadFault}

pub empty_by : {T : Type 0} (xs : List T) (n : ℕ) → n ≡ length xs → true ≡ (n == 0) → xs ≡ []
empty_by xs n e h = grind (arith, common_steps)

pub some_by : {T : Type 0} (xs : List T) (n : ℕ) → n ≡ length xs → false ≡ (n == 0) → length xs ≡ 0 → ⊥
some_by xs n e h none = grind (arith, common_steps)

pub ends_empty : {A : Type 0} (outer : List (Level A)) (f : Frame) (u : Mode) (r : Result (Tree A) ReadFault) → outer ≡ []
    → Gives tree_view (whole [] f u) r → Gives tree_view (whole (outer_view outer) f u) r
ends_empty outer f u r e h = rw e h

pub ends_open : (outer : List Frame) (f : Frame) (u : Mode) → (length outer ≡ 0 → ⊥) → whole outer f u ≡ None
ends_open [] f u h = absurd (h refl)
ends_open (g ∷ st) f u h = refl
