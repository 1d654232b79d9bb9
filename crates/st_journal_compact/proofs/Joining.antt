-- Names of rows as one text.
use Rattle.std.proofs.Common.{◌≡◌, ℕ, suc, [], ◌∷◌, ◌++◌, length, Bool, true, false, cond, ◌&&◌, ◌||◌, bytes_eq, refl, sym, ap, subst, ◌∙◌}
use Rattle.st_text.specs.Texts.{Text, same}
use Rattle.st_text.proofs.Same.{same-eq, same-refl}
use Rattle.st_table.specs.Rows.{Held, is_held}
use Rattle.st_journal_compact.specs.inner.Stages.{joined}
use Rattle.st_journal_compact.proofs.RowChanges.{clash}

-- texts of one length, cut off
split_at : (xs ys vs ws : Text) → length xs ≡ length ys → xs ++ vs ≡ ys ++ ws → (xs ≡ ys) × (vs ≡ ws)
split_at [] [] vs ws e h = (refl, h)
split_at [] (y ∷ ys) vs ws e h = absurd (zero_suc e)
  where
    zero_suc : 0 ≡ suc (length ys) → ⊥
    zero_suc p = cc
split_at (x ∷ xs) [] vs ws e h = absurd (suc_zero e)
  where
    suc_zero : suc (length xs) ≡ 0 → ⊥
    suc_zero p = cc
split_at (x ∷ xs) (y ∷ ys) vs ws e h = at (cons_parts h) (split_at xs ys vs ws (less e) (cons_parts h).1)
  where
    less : suc (length xs) ≡ suc (length ys) → length xs ≡ length ys
    less p = cc

    cons_parts : x ∷ (xs ++ vs) ≡ y ∷ (ys ++ ws) → (x ≡ y) × (xs ++ vs ≡ ys ++ ws)
    cons_parts p = (cc, cc)

    at : (x ≡ y) × (xs ++ vs ≡ ys ++ ws) → (xs ≡ ys) × (vs ≡ ws) → (x ∷ xs ≡ y ∷ ys) × (vs ≡ ws)
    at heads tails = (λ i. heads.0 i ∷ tails.0 i, tails.1)

-- the three texts of a joined one
parts : (t i l u j k : Text) → joined t i l ≡ joined u j k → (t ≡ u) × ((i ≡ j) × (l ≡ k))
parts t i l u j k h = at (heads (length t) (length u) (length i) (length j) (t ++ (i ++ l)) (u ++ (j ++ k)) h)
  where
    heads : (a b c d : ℕ) (xs ys : Text) → a ∷ c ∷ xs ≡ b ∷ d ∷ ys → (a ≡ b) × ((c ≡ d) × (xs ≡ ys))
    heads a b c d xs ys p = (cc, (cc, cc))

    at : (length t ≡ length u) × ((length i ≡ length j) × (t ++ (i ++ l) ≡ u ++ (j ++ k))) → (t ≡ u) × ((i ≡ j) × (l ≡ k))
    at e =
        let first = split_at t u (i ++ l) (j ++ k) e.0 e.1.1 in
        let second = split_at i j l k e.1.0 first.1 in
        (first.0, (second.0, second.1))

bools : (a b : Bool) → (a ≡ true → b ≡ true) → (b ≡ true → a ≡ true) → a ≡ b
bools true b f g = sym (f refl)
bools false true f g = absurd (clash (sym (g refl)))
bools false false f g = refl

three : (a b c : Bool) → a && b && c ≡ true → (a ≡ true) × ((b ≡ true) × (c ≡ true))
three true true c e = (refl, (refl, e))
three true false c e = absurd (clash (sym e))
three false b c e = absurd (clash (sym e))

all_three : (a b c : Bool) → a ≡ true → b ≡ true → c ≡ true → a && b && c ≡ true
all_three a b c e f g = rw (e, f, g) refl

module _ {A : Type 0} (table id label : Text) (held : Held A) where
  -- names joined are the same where the rows' names are
  pub joined_same : bytes_eq (joined table id label) (joined held.table held.row.id held.row.label) ≡ is_held table id label held
  joined_same = bools _ _ forth back
    where
      forth : bytes_eq (joined table id label) (joined held.table held.row.id held.row.label) ≡ true → is_held table id label held ≡ true
      forth e =
          let p = parts table id label held.table held.row.id held.row.label (same-eq _ _ e) in
          all_three (same held.table table) (same held.row.id id) (same held.row.label label)
          (subst (λ x. same held.table x ≡ true) (sym p.0) (same-refl held.table))
          (subst (λ x. same held.row.id x ≡ true) (sym p.1.0) (same-refl held.row.id))
          (subst (λ x. same held.row.label x ≡ true) (sym p.1.1) (same-refl held.row.label))

      back : is_held table id label held ≡ true → bytes_eq (joined table id label) (joined held.table held.row.id held.row.label) ≡ true
      back e =
          let p = three (same held.table table) (same held.row.id id) (same held.row.label label) e in
          let t : held.table ≡ table = same-eq _ _ p.0 in
          let i : held.row.id ≡ id = same-eq _ _ p.1.0 in
          let l : held.row.label ≡ label = same-eq _ _ p.1.1 in
          let whole : joined held.table held.row.id held.row.label ≡ joined table id label = λ k. joined (t k) (i k) (l k) in
          subst (λ x. bytes_eq (joined table id label) x ≡ true) (sym whole) (same-refl (joined table id label))

either : (x e o : Bool) → x || cond e true o ≡ e || (x || o)
either true true o = refl
either true false o = refl
either false true o = refl
either false false o = refl

-- one row more
pub knows_row_more : {A : Type 0} (table id label key : Text) (held : Held A) (tables old new : Bool) → key ≡ joined table id label
    → new ≡ cond (bytes_eq key (joined held.table held.row.id held.row.label)) true old
    → tables || new ≡ is_held table id label held || (tables || old)
knows_row_more table id label key held tables old new is more =
    ap (λ b. tables || b) more
    ∙ ap (λ x. tables || cond (bytes_eq x (joined held.table held.row.id held.row.label)) true old) is
    ∙ ap (λ b. tables || cond b true old) (joined_same table id label held)
    ∙ either tables (is_held table id label held) old

turned : (a b : Text) → bytes_eq a b ≡ same b a
turned a b = bools _ _ (λ e. subst (λ x. same x a ≡ true) (same-eq a b e) (same-refl a)) (λ e. subst (λ x. same x b ≡ true) (same-eq b a e) (same-refl b))

before : (e o x : Bool) → cond e true o || x ≡ e || (o || x)
before true o x = refl
before false o x = refl

-- one table more
pub knows_table_more : (table key own : Text) (old new rows : Bool) → key ≡ table → new ≡ cond (bytes_eq key own) true old
    → new || rows ≡ same own table || (old || rows)
knows_table_more table key own old new rows is more =
    ap (λ b. b || rows) more
    ∙ ap (λ x. cond (bytes_eq x own) true old || rows) is
    ∙ ap (λ b. cond b true old || rows) (turned table own)
    ∙ before (same own table) old rows
