-- Labels stay true for more names.
use Rattle.std.proofs.Common.{◌≡◌, Bool, true, false, ◌||◌, refl, sym, ◌∙◌, ap}
use Rattle.st_text.specs.Texts.{Text}
use Rattle.st_label.specs.Tree.{Tree, Empty, Term, And, Or, Operands, none, more, holds, all_hold, one_holds}
use Rattle.st_label.specs.Reading.{reading, is_true}
use Rattle.st_core.proofs.Sieves.{and_true, and_intro, or_left, or_right}

module _ (f g : Text → Bool) (more_names : (a : Text) → f a ≡ true → g a ≡ true) where
  mutual
    holds_more : (r : Tree) → holds f r ≡ true → holds g r ≡ true
    holds_more Empty h = refl
    holds_more (Term name) h = more_names name h
    holds_more (And rs) h = all_more rs h
    holds_more (Or rs) h = one_more rs h

    all_more : (rs : Operands) → all_hold f rs ≡ true → all_hold g rs ≡ true
    all_more none h = refl
    all_more (more r rs) h = and_intro (holds_more r (and_true (holds f r) (all_hold f rs) h).0) (all_more rs (and_true (holds f r) (all_hold f rs) h).1)

    one_more : (rs : Operands) → one_holds f rs ≡ true → one_holds g rs ≡ true
    one_more none h = h
    one_more (more r rs) h = one_by (holds f r) refl h (holds_more r) (one_more rs)
      where
        one_by : (b : Bool) → holds f r ≡ b → one_holds f (more r rs) ≡ true → (holds f r ≡ true → holds g r ≡ true) → (one_holds f rs ≡ true → one_holds g rs ≡ true) → one_holds g (more r rs) ≡ true
        one_by true e h first others = or_left (holds g r) (one_holds g rs) (first e)
        one_by false e h first others = or_right (holds g r) (others (sym (ap (λ b. b || one_holds f rs) e) ∙ h))

  -- a label that is true for some names is true for more
  pub is_true_more : (label : Text) → is_true f label ≡ true → is_true g label ≡ true
  is_true_more label = holds_more (reading label)
