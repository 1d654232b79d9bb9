-- What changes make of rows of which a later change decides, and of others.
use Rattle.std.proofs.Common.{◌≡◌, List, [], ◌∷◌, filter, Bool, true, false, not, ◌&&◌, ◌||◌, if◌then◌else◌, refl, sym, ap, ◌∙◌}
use Rattle.st_text.specs.Texts.{Text, same, in_order}
use Rattle.st_text.proofs.Resorting.{filter_in_order, in_order_again}
use Rattle.st_policy.specs.declared.request.Request.{Request}
use Rattle.st_index.specs.declared.row.Row.{Row}
use Rattle.st_table.specs.Rows.{Held, full_name, is_held, put_row, without_row, without_table}
use Rattle.st_core.specs.Changes.{rows_after}
use Rattle.st_journal_compact.specs.Shortening.{Noted, decides, is_decided, is_undone}

pub clash : true ≡ false → ⊥
clash p = cc

-- ---- filters

module _ {X : Type 0} where
  pub filter_all : (xs : List X) → filter (λ x. true) xs ≡ xs
  filter_all [] = refl
  filter_all (x ∷ xs) = ap (λ ys. x ∷ ys) (filter_all xs)

  -- what passes both of two tests
  pub filter_both : (p q : X → Bool) (xs : List X) → filter (λ x. not (p x)) (filter (λ x. not (q x)) xs) ≡ filter (λ x. not (q x || p x)) xs
  filter_both p q [] = refl
  filter_both p q (x ∷ xs) = at (q x) refl (p x) refl (filter_both p q xs)
    where
      at : (b : Bool) → q x ≡ b → (c : Bool) → p x ≡ c → filter (λ x. not (p x)) (filter (λ x. not (q x)) xs) ≡ filter (λ x. not (q x || p x)) xs
          → filter (λ x. not (p x)) (filter (λ x. not (q x)) (x ∷ xs)) ≡ filter (λ x. not (q x || p x)) (x ∷ xs)
      at true e c f ih = simp (e, ih)
      at false e true f ih = simp (e, f, ih)
      at false e false f ih = simp (e, f, ih)

  pub filter_alike : (p q : X → Bool) (xs : List X) → ((x : X) → p x ≡ q x) → filter p xs ≡ filter q xs
  filter_alike p q xs each = ap (λ r. filter r xs) (λ i x. each x i)

or_twice : (a b : Bool) → not ((a || b) || a) ≡ not (a || b)
or_twice true b = refl
or_twice false true = refl
or_twice false false = refl

or_own : (a : Bool) → not (a || a) ≡ not a
or_own true = refl
or_own false = refl

-- ---- the kinds of requests

pub data Kind {A : Type 0} : Request A → Type 0 where
  IsPut : (table : Text) → (row : Row A) → Kind (Request.Put table row)
  IsDelete : (table id label : Text) → Kind (Request.Delete table id label)
  IsDrop : (table : Text) → Kind (Request.DropTable table)
  IsOther : (request : Request A) → ((held : Held A) → decides request held ≡ false) → ((rows : List (Held A)) → rows_after request rows ≡ rows)
      → ((decided : Held A → Bool) → is_undone request decided ≡ false) → Kind request

module _ {A : Type 0} where
  abbrev pub Unmoved : Request A → Type 0
  Unmoved request = ((held : Held A) → decides request held ≡ false) × ((rows : List (Held A)) → rows_after request rows ≡ rows)
      × ((decided : Held A → Bool) → is_undone request decided ≡ false)

  other : (request : Request A) → Unmoved request → Kind request
  other request u = IsOther request u.0 u.1 u.2

  pub kind_of : (request : Request A) → Kind request
  kind_of (Request.Put table row) = IsPut table row
  kind_of (Request.Delete table id label) = IsDelete table id label
  kind_of (Request.DropTable table) = IsDrop table
  kind_of Request.Whoami = other Request.Whoami (λ held. refl, λ rows. refl, λ decided. refl)
  kind_of Request.Tables = other Request.Tables (λ held. refl, λ rows. refl, λ decided. refl)
  kind_of Request.Users = other Request.Users (λ held. refl, λ rows. refl, λ decided. refl)
  kind_of (Request.User user) = other (Request.User user) (λ held. refl, λ rows. refl, λ decided. refl)
  kind_of (Request.Grants table) = other (Request.Grants table) (λ held. refl, λ rows. refl, λ decided. refl)
  kind_of (Request.NamespaceGrants namespace) = other (Request.NamespaceGrants namespace) (λ held. refl, λ rows. refl, λ decided. refl)
  kind_of (Request.Label label) = other (Request.Label label) (λ held. refl, λ rows. refl, λ decided. refl)
  kind_of Request.Audit = other Request.Audit (λ held. refl, λ rows. refl, λ decided. refl)
  kind_of (Request.Get table id auths) = other (Request.Get table id auths) (λ held. refl, λ rows. refl, λ decided. refl)
  kind_of (Request.Scan table query auths limit after) = other (Request.Scan table query auths limit after) (λ held. refl, λ rows. refl, λ decided. refl)
  kind_of (Request.Count table query auths) = other (Request.Count table query auths) (λ held. refl, λ rows. refl, λ decided. refl)
  kind_of (Request.Grid table query auths columns lines) = other (Request.Grid table query auths columns lines) (λ held. refl, λ rows. refl, λ decided. refl)
  kind_of (Request.Plan table query budget) = other (Request.Plan table query budget) (λ held. refl, λ rows. refl, λ decided. refl)
  kind_of (Request.CreateTable table period) = other (Request.CreateTable table period) (λ held. refl, λ rows. refl, λ decided. refl)
  kind_of (Request.Constraint table on) = other (Request.Constraint table on) (λ held. refl, λ rows. refl, λ decided. refl)
  kind_of (Request.Period table period) = other (Request.Period table period) (λ held. refl, λ rows. refl, λ decided. refl)
  kind_of (Request.CreateUser user digest auths) = other (Request.CreateUser user digest auths) (λ held. refl, λ rows. refl, λ decided. refl)
  kind_of (Request.DropUser user) = other (Request.DropUser user) (λ held. refl, λ rows. refl, λ decided. refl)
  kind_of (Request.Token user digest) = other (Request.Token user digest) (λ held. refl, λ rows. refl, λ decided. refl)
  kind_of (Request.Auths user auths) = other (Request.Auths user auths) (λ held. refl, λ rows. refl, λ decided. refl)
  kind_of (Request.GrantSystem user permission) = other (Request.GrantSystem user permission) (λ held. refl, λ rows. refl, λ decided. refl)
  kind_of (Request.RevokeSystem user permission) = other (Request.RevokeSystem user permission) (λ held. refl, λ rows. refl, λ decided. refl)
  kind_of (Request.GrantTable table user permission) = other (Request.GrantTable table user permission) (λ held. refl, λ rows. refl, λ decided. refl)
  kind_of (Request.RevokeTable table user permission) = other (Request.RevokeTable table user permission) (λ held. refl, λ rows. refl, λ decided. refl)
  kind_of (Request.GrantNamespace namespace user permission) = other (Request.GrantNamespace namespace user permission) (λ held. refl, λ rows. refl, λ decided. refl)
  kind_of (Request.RevokeNamespace namespace user permission) = other (Request.RevokeNamespace namespace user permission) (λ held. refl, λ rows. refl, λ decided. refl)

  -- the rows after a change that is accepted or not
  abbrev pub rows_with : Bool → Request A → List (Held A) → List (Held A)
  rows_with b request rows = if b then rows_after request rows else rows

  -- whether the change or a later one decides
  abbrev pub own : Bool → Request A → (Held A → Bool) → Held A → Bool
  own b request p held = (b && decides request held) || p held

  -- the rows of which no later change decides
  abbrev pub live : (Held A → Bool) → List (Held A) → List (Held A)
  live p = filter (λ held. not (p held))

  pub live_again : (p : Held A → Bool) (rows : List (Held A)) → live p (live p rows) ≡ live p rows
  live_again p rows = filter_both p p rows ∙ filter_alike _ _ rows (λ held. or_own (p held))

  -- ---- a put

  put_live : (p : Held A → Bool) (held : Held A) (rows : List (Held A)) → p held ≡ false
      → live p (put_row held rows)
      ≡ in_order full_name (held ∷ filter (λ other. not (is_held held.table held.row.id held.row.label other || p other)) rows)
  put_live p held rows e =
      filter_in_order full_name (λ other. not (p other)) (held ∷ without_row held.table held.row.id held.row.label rows)
      ∙ (let passes : live p (held ∷ without_row held.table held.row.id held.row.label rows)
      ≡ held ∷ live p (without_row held.table held.row.id held.row.label rows) = simp e in ap (in_order full_name) passes)
      ∙ ap (λ xs. in_order full_name (held ∷ xs)) (filter_both p (is_held held.table held.row.id held.row.label) rows)

  put_dead : (p : Held A → Bool) (held : Held A) (rows : List (Held A)) → p held ≡ true
      → live p (put_row held rows)
      ≡ in_order full_name (filter (λ other. not (is_held held.table held.row.id held.row.label other || p other)) rows)
  put_dead p held rows e =
      filter_in_order full_name (λ other. not (p other)) (held ∷ without_row held.table held.row.id held.row.label rows)
      ∙ (let fails : live p (held ∷ without_row held.table held.row.id held.row.label rows)
      ≡ live p (without_row held.table held.row.id held.row.label rows) = simp e in ap (in_order full_name) fails)
      ∙ ap (in_order full_name) (filter_both p (is_held held.table held.row.id held.row.label) rows)

  -- ---- the rows stay in order

  pub ordered_with : (b : Bool) (request : Request A) → Kind request → (rows : List (Held A)) → in_order full_name rows ≡ rows
      → in_order full_name (rows_with b request rows) ≡ rows_with b request rows
  ordered_with false request k rows sorted = sorted
  ordered_with true _ (IsPut table row) rows sorted =
      in_order_again full_name (record { table = table; row = row } ∷ without_row table row.id row.label rows)
  ordered_with true _ (IsDelete table id label) rows sorted =
      sym (filter_in_order full_name (λ held. not (is_held table id label held)) rows) ∙ ap (without_row table id label) sorted
  ordered_with true _ (IsDrop table) rows sorted =
      sym (filter_in_order full_name (λ held. not (same held.table table)) rows) ∙ ap (without_table table) sorted
  ordered_with true _ (IsOther request leaves stays unlike) rows sorted = ap (in_order full_name) (stays rows) ∙ sorted ∙ sym (stays rows)

  -- ---- a change that is kept

  -- it makes of the short list's rows what it makes of all, apart from those of which a later change decides
  pub alike_with : (b : Bool) (request : Request A) → Kind request → (p : Held A → Bool) (short rows : List (Held A))
      → live (own b request p) short ≡ live (own b request p) rows
      → live p (rows_with b request short) ≡ live p (rows_with b request rows)
  alike_with false request k p short rows alike = alike
  alike_with true _ (IsPut table row) p short rows alike = at (p (record { table = table; row = row })) refl
    where
      at : (c : Bool) → p (record { table = table; row = row }) ≡ c
          → live p (put_row (record { table = table; row = row }) short) ≡ live p (put_row (record { table = table; row = row }) rows)
      at true e = put_dead p _ short e ∙ ap (in_order full_name) alike ∙ sym (put_dead p _ rows e)
      at false e =
          put_live p _ short e ∙ ap (λ xs. in_order full_name (record { table = table; row = row } ∷ xs)) alike ∙ sym (put_live p _ rows e)
  alike_with true _ (IsDelete table id label) p short rows alike =
      filter_both p (is_held table id label) short ∙ alike ∙ sym (filter_both p (is_held table id label) rows)
  alike_with true _ (IsDrop table) p short rows alike =
      filter_both p (λ held. same held.table table) short ∙ alike ∙ sym (filter_both p (λ held. same held.table table) rows)
  alike_with true _ (IsOther request leaves stays unlike) p short rows alike =
      ap (live p) (stays short)
      ∙ filter_alike _ _ short (λ held. sym (ap (λ b. not (b || p held)) (leaves held)))
      ∙ alike
      ∙ filter_alike _ _ rows (λ held. ap (λ b. not (b || p held)) (leaves held))
      ∙ ap (live p) (sym (stays rows))

  -- where the short list's rows are those of which no later change decides, they stay so
  pub bare_with : (b : Bool) (request : Request A) → Kind request → (rest : List (Noted A)) (rows : List (Held A))
      → (not b || is_undone request (is_decided rest)) ≡ false
      → rows_with b request (live (own b request (is_decided rest)) rows) ≡ live (is_decided rest) (rows_with b request rows)
  bare_with false request k rest rows e = absurd (clash e)
  bare_with true _ (IsPut table row) rest rows e =
      ap (λ xs. in_order full_name (record { table = table; row = row } ∷ xs))
      (filter_both (is_held table row.id row.label) (λ held. is_held table row.id row.label held || is_decided rest held) rows
      ∙ filter_alike _ _ rows (λ held. or_twice (is_held table row.id row.label held) (is_decided rest held)))
      ∙ sym (put_live (is_decided rest) _ rows e)
  bare_with true _ (IsDelete table id label) rest rows e = absurd (clash e)
  bare_with true _ (IsDrop table) rest rows e =
      filter_both (λ held. same held.table table) (λ held. same held.table table || is_decided rest held) rows
      ∙ filter_alike _ _ rows (λ held. or_twice (same held.table table) (is_decided rest held))
      ∙ sym (filter_both (is_decided rest) (λ held. same held.table table) rows)
  bare_with true _ (IsOther request leaves stays unlike) rest rows e =
      stays _
      ∙ filter_alike _ _ rows (λ held. ap (λ b. not (b || is_decided rest held)) (leaves held))
      ∙ ap (live (is_decided rest)) (sym (stays rows))

  -- ---- a change that is left out

  pub bare_without : (b : Bool) (request : Request A) → Kind request → (rest : List (Noted A)) (rows : List (Held A))
      → in_order full_name rows ≡ rows → (not b || is_undone request (is_decided rest)) ≡ true
      → live (own b request (is_decided rest)) rows ≡ live (is_decided rest) (rows_with b request rows)
  bare_without false request k rest rows sorted e = refl
  bare_without true _ (IsPut table row) rest rows sorted e =
      ap (live (own true (Request.Put table row) (is_decided rest))) (sym sorted)
      ∙ filter_in_order full_name (λ held. not (is_held table row.id row.label held || is_decided rest held)) rows
      ∙ sym (put_dead (is_decided rest) _ rows e)
  bare_without true _ (IsDelete table id label) rest rows sorted e = sym (filter_both (is_decided rest) (is_held table id label) rows)
  bare_without true _ (IsDrop table) rest rows sorted e = absurd (clash (sym e))
  bare_without true _ (IsOther request leaves stays unlike) rest rows sorted e = absurd (clash (sym e ∙ unlike (is_decided rest)))
