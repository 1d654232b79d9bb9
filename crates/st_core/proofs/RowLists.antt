-- What changes of one table leave of the rows of others.
use Rattle.std.proofs.Common.{◌≡◌, List, [], ◌∷◌, filter, map, Bool, true, false, not, ◌&&◌, Some, refl, sym, ap, ◌∙◌}
use Rattle.st_text.specs.Texts.{Text, same, in_order}
use Rattle.st_text.proofs.Same.{same-eq}
use Rattle.st_text.proofs.Resorting.{filter_in_order}
use Rattle.st_policy.specs.declared.request.Request.{Request}
use Rattle.st_policy.specs.Requests.{table_of}
use Rattle.st_table.specs.Rows.{Held, full_name, is_held, put_row, rows_in_table, without_row}
use Rattle.st_core.specs.Changes.{rows_after}

differ : (own table : Text) → (Some own ≡ Some table → ⊥) → same own table ≡ false
differ own table apart = at (same own table) refl
  where
    at : (b : Bool) → same own table ≡ b → same own table ≡ false
    at true e = absurd (apart (ap Some (same-eq own table e)))
    at false e = e

first_of_three : (a b c : Bool) → a && b && c ≡ true → a ≡ true
first_of_three true b c e = refl
first_of_three false b c e = cc

module _ {A : Type 0} where
  -- rows that are let go are of the table alone
  filter_others : (own table : Text) (p : Held A → Bool) → same own table ≡ false → ((held : Held A) → p held ≡ true → same held.table own ≡ true)
      → (rows : List (Held A)) → filter (λ held. same held.table table) (filter (λ held. not (p held)) rows) ≡ filter (λ held. same held.table table) rows
  filter_others own table p apart own_rows [] = refl
  filter_others own table p apart own_rows (held ∷ rows) = at (p held) refl (filter_others own table p apart own_rows rows)
    where
      at : (b : Bool) → p held ≡ b
          → filter (λ held. same held.table table) (filter (λ held. not (p held)) rows) ≡ filter (λ held. same held.table table) rows
          → filter (λ held. same held.table table) (filter (λ held. not (p held)) (held ∷ rows)) ≡ filter (λ held. same held.table table) (held ∷ rows)
      at true e ih =
          let named : held.table ≡ own = same-eq held.table own (own_rows held e) in
          let other : same held.table table ≡ false = rw named apart in
          simp (e, other, ih)
      at false e ih = last (same held.table table) refl
        where
          last : (c : Bool) → same held.table table ≡ c
              → filter (λ held. same held.table table) (filter (λ held. not (p held)) (held ∷ rows)) ≡ filter (λ held. same held.table table) (held ∷ rows)
          last true f = simp (e, f, ih)
          last false f = simp (e, f, ih)

  others_without_row : (own id label table : Text) → same own table ≡ false → (rows : List (Held A))
      → filter (λ held. same held.table table) (without_row own id label rows) ≡ filter (λ held. same held.table table) rows
  others_without_row own id label table apart =
      filter_others own table (is_held own id label) apart (λ held e. first_of_three (same held.table own) (same held.row.id id) (same held.row.label label) e)

  others_put : (held : Held A) (table : Text) → same held.table table ≡ false → (rows : List (Held A)) → in_order full_name rows ≡ rows
      → filter (λ other. same other.table table) (put_row held rows) ≡ filter (λ other. same other.table table) rows
  others_put held table apart rows listed =
      let mine : Held A → Bool = λ other. same other.table table in
      let keeps : Held A → Bool = λ other. not (is_held held.table held.row.id held.row.label other) in
      let rest = without_row held.table held.row.id held.row.label rows in
      let fails : filter mine (held ∷ rest) ≡ filter mine rest = simp apart in
      filter_in_order full_name mine (held ∷ rest)
      ∙ ap (in_order full_name) fails
      ∙ sym (filter_in_order full_name mine rest)
      ∙ ap (filter mine) (sym (filter_in_order full_name keeps rows) ∙ ap (filter keeps) listed)
      ∙ others_without_row held.table held.row.id held.row.label table apart rows

  pub others_stay : (request : Request A) (rows : List (Held A)) (table : Text) → in_order full_name rows ≡ rows → (table_of request ≡ Some table → ⊥)
      → rows_in_table table (rows_after request rows) ≡ rows_in_table table rows
  others_stay Request.Whoami rows table listed apart = refl
  others_stay Request.Tables rows table listed apart = refl
  others_stay Request.Users rows table listed apart = refl
  others_stay (Request.User user) rows table listed apart = refl
  others_stay (Request.Grants own) rows table listed apart = refl
  others_stay (Request.NamespaceGrants namespace) rows table listed apart = refl
  others_stay (Request.Label label) rows table listed apart = refl
  others_stay Request.Audit rows table listed apart = refl
  others_stay (Request.Get own id auths) rows table listed apart = refl
  others_stay (Request.Scan own query auths limit after) rows table listed apart = refl
  others_stay (Request.Count own query auths) rows table listed apart = refl
  others_stay (Request.Grid own query auths columns lines) rows table listed apart = refl
  others_stay (Request.Plan own query budget) rows table listed apart = refl
  others_stay (Request.Put own row) rows table listed apart = ap (map (λ held. held.row)) (others_put (record { table = own; row = row }) table (differ own table apart) rows listed)
  others_stay (Request.Delete own id label) rows table listed apart = ap (map (λ held. held.row)) (others_without_row own id label table (differ own table apart) rows)
  others_stay (Request.CreateTable own period) rows table listed apart = refl
  others_stay (Request.DropTable own) rows table listed apart = ap (map (λ held. held.row)) (filter_others own table (λ held. same held.table own) (differ own table apart) (λ held e. e) rows)
  others_stay (Request.Constraint own on) rows table listed apart = refl
  others_stay (Request.Period own period) rows table listed apart = refl
  others_stay (Request.CreateUser user digest auths) rows table listed apart = refl
  others_stay (Request.DropUser user) rows table listed apart = refl
  others_stay (Request.Token user digest) rows table listed apart = refl
  others_stay (Request.Auths user auths) rows table listed apart = refl
  others_stay (Request.GrantSystem user permission) rows table listed apart = refl
  others_stay (Request.RevokeSystem user permission) rows table listed apart = refl
  others_stay (Request.GrantTable own user permission) rows table listed apart = refl
  others_stay (Request.RevokeTable own user permission) rows table listed apart = refl
  others_stay (Request.GrantNamespace namespace user permission) rows table listed apart = refl
  others_stay (Request.RevokeNamespace namespace user permission) rows table listed apart = refl
