-- States that are alike to a user: the directory is the same, and so are the rows that the user may ever see.
use Rattle.std.proofs.Common.{◌≡◌, List, [], ◌∷◌, map, filter, length, cond, Bool, true, false, not, ◌&&◌, Option, Some, None, refl, sym, ◌∙◌, ap, subst}
use Rattle.std.proofs.lemmas.Map.Lookups.{exact_bytes}
use Rattle.std.specs.Cmp.Lexicographic.{slice_cmp}
use Rattle.std.specs.Ordering.{nat_cmp, ordering_then, ordering_reverse}
use Rattle.std.specs.declared.cmp.Ordering.{Ordering}
use Rattle.std.specs.declared.cmp.Ordering.TheVariants.{Less, Equal, Greater}
use Rattle.st_text.specs.Texts.{Text, same, is_among, in_order}
use Rattle.st_text.proofs.Resorting.{R, turned, filter_in_order, in_order_again}
use Rattle.st_text.proofs.Same.{same-eq}
use Rattle.st_key.specs.declared.period.Period.{Period}
use Rattle.st_box.specs.declared.query.Query.{Query}
use Rattle.st_box.specs.Query.{is_inside}
use Rattle.st_label.specs.Reading.{is_true}
use Rattle.st_index.specs.declared.row.Row.{Row}
use Rattle.st_index.specs.Order.{scan_key}
use Rattle.st_plan.specs.PlanOf.{plan_of}
use Rattle.st_scan.specs.Grids.{grid_of}
use Rattle.st_scan.specs.Pages.{is_past}
use Rattle.st_table.specs.Rows.{Held, full_name, is_held, rows_in_table, without_row}
use Rattle.st_dir.specs.Directory.{Directory, has_auth, has_digest, has_system, has_table, is_table, period_of}
use Rattle.st_dir.specs.Listings.{users_of, tables_of, grants_on}
use Rattle.st_grant.specs.declared.grant.Scope.TheVariants.{OnTable, OnNamespace}
use Rattle.st_grant.specs.declared.permission.Permission.{Permission}
use Rattle.st_policy.specs.declared.denial.Denial.{Denial}
use Rattle.st_policy.specs.declared.refusal.Refusal.{Refusal}
use Rattle.st_policy.specs.declared.request.Request.{Request}
use Rattle.st_policy.specs.declared.request.Request.TheVariants.{Whoami, Tables, Users, User, Grants, NamespaceGrants, Label, Audit, Get, Scan, Count}
use Rattle.st_policy.specs.declared.request.Request.TheVariants.{Grid, Plan, Put, Delete, CreateTable, DropTable, Constraint, Period as SetPeriod}
use Rattle.st_policy.specs.declared.request.Request.TheVariants.{CreateUser, DropUser, Token as SetToken, Auths, GrantSystem, RevokeSystem}
use Rattle.st_policy.specs.declared.request.Request.TheVariants.{GrantTable, RevokeTable, GrantNamespace, RevokeNamespace}
use Rattle.st_policy.specs.Requests.{Need, need_of, table_of, named_auths}
use Rattle.st_policy.specs.Policy.{meets, auths_are_held, refusal_of}
use Rattle.st_core.specs.declared.asked.Call.{Call}
use Rattle.st_core.specs.declared.asked.Token.{Token}
use Rattle.st_policy.specs.declared.reply.Reply.{Reply}
use Rattle.st_core.specs.State.{State}
use Rattle.st_core.specs.Reads.{rows_inside, page_of, account, shown}
use Rattle.st_core.specs.Changes.{rows_after, directory_after}
use Rattle.st_core.specs.Step.{Judged, Unheard, Heard, asker_of, judge_call, settle}
use Rattle.st_core.specs.Worlds.{Sight, names, may_show, matters}
use Rattle.st_core.proofs.Sieves.{and_true, and_intro, clash, filter_swap, filter_weaker, filter_images, in_order_images, resorted}
use Rattle.st_core.proofs.Truth.{is_true_more}
use Rattle.st_core.proofs.Allowed.{met, allowed_table, allowed_need, allowed_auths, auths_held}

-- the sight has what the user holds at this moment, and that is not SYSTEM
pub record Covers {A : Type 0} (sight : Sight) (user : Text) (d : Directory A) : Type 0 where
  pub reads : (table : Text) → (is_table d table && has_table d user table Permission.Read) ≡ true → sight.reads table ≡ true
  pub holds : (auth : Text) → has_auth d user auth ≡ true → sight.holds auth ≡ true
  pub system : has_system d user Permission.System ≡ false

-- the rows of the table that pass the test and whose label is true for the authorizations
abbrev rows_that : {A : Type 0} → (Row A → Bool) → Text → List Text → List (Held A) → List (Row A)
rows_that test table auths rows = filter (λ row. test row && is_true (is_among auths) row.label) (rows_in_table table rows)

abbrev pub is_visible : {A : Type 0} → Sight → Held A → Bool
is_visible sight held = sight.reads held.table && is_true sight.holds held.row.label

abbrev pub visible : {A : Type 0} → Sight → List (Held A) → List (Held A)
visible sight rows = in_order full_name (filter (is_visible sight) rows)

pub record Alike {A : Type 0} (sight : Sight) (s t : State A) : Type 0 where
  pub directory : s.directory ≡ t.directory
  pub rows : visible sight s.rows ≡ visible sight t.rows

-- ---- keys that name their rows

exact_lists : (a b : List Text) → R a b ≡ Equal → a ≡ b
exact_lists [] [] e = refl
exact_lists [] (y ∷ ys) e = cc
exact_lists (x ∷ xs) [] e = cc
exact_lists (x ∷ xs) (y ∷ ys) e = at (slice_cmp nat_cmp x y) refl e (exact_lists xs ys)
  where
    at : (o : Ordering) → slice_cmp nat_cmp x y ≡ o → ordering_then o (R xs ys) ≡ Equal → (R xs ys ≡ Equal → xs ≡ ys) → x ∷ xs ≡ y ∷ ys
    at Equal f e ih = λ i. exact_bytes x y f i ∷ ih e i
    at Less f e ih = cc
    at Greater f e ih = cc

equal_lists : (a b : List Text) → a ≡ b → R a b ≡ Equal
equal_lists a b e = subst (λ c. R a c ≡ Equal) e (at (R a a) (turned a a))
  where
    at : (o : Ordering) → o ≡ ordering_reverse o → o ≡ Equal
    at Equal e = refl
    at Less e = cc
    at Greater e = cc

-- of rows that pass the test those of the same key have the same id and label
pub record IsNaming {A : Type 0} (key : Row A → List Text) (test : Row A → Bool) : Type 0 where
  pub id : (x y : Row A) → test x ≡ true → test y ≡ true → R (key y) (key x) ≡ Equal → y.id ≡ x.id
  pub label : (x y : Row A) → test x ≡ true → test y ≡ true → R (key y) (key x) ≡ Equal → y.label ≡ x.label

abbrev first_text : List Text → Text
first_text [] = []
first_text (x ∷ xs) = x

abbrev others : List Text → List Text
others [] = []
others (x ∷ xs) = xs

scan_names : {A : Type 0} (period : Period) (test : Row A → Bool) → IsNaming (scan_key period) test
scan_names period test = record {
  id = λ x y p q e. ap (λ k. first_text (others k)) (exact_lists (scan_key period y) (scan_key period x) e);
  label = λ x y p q e. ap (λ k. first_text (others (others k))) (exact_lists (scan_key period y) (scan_key period x) e);
}

-- so do labels, of rows of one id
pub label_names : {A : Type 0} (id : Text) → IsNaming {A = A} (λ row. row.label ∷ []) (λ row. same row.id id)
label_names id = record {
  id = λ x y p q e. same-eq y.id id q ∙ sym (same-eq x.id id p);
  label = λ x y p q e. ap first_text (exact_lists (y.label ∷ []) (x.label ∷ []) e);
}

-- ---- what is shown

module _ {A : Type 0} (sight : Sight) (user : Text) (s t : State A) (alike : Alike sight s t) (covers : Covers sight user s.directory) where
  -- the table is there and may be read, and the authorizations are held
  pub record MayRead (table : Text) (auths : List Text) : Type 0 where
    pub there : is_table s.directory table ≡ true
    pub may_read : has_table s.directory user table Permission.Read ≡ true
    pub held : (auth : Text) → is_among auths auth ≡ true → has_auth s.directory user auth ≡ true

  module _ (key : Row A → List Text) (test : Row A → Bool) (naming : IsNaming key test) (table : Text) (auths : List Text) (may : MayRead table auths) where
    abbrev passes : Held A → Bool
    passes h = same h.table table && (test h.row && is_true (is_among auths) h.row.label)

    -- the rows that an allowed read may show are among those that may be seen
    within : (h : Held A) → passes h ≡ true → is_visible sight h ≡ true
    within h e =
        let in_table = and_true (same h.table table) (test h.row && is_true (is_among auths) h.row.label) e in
        let is_visible_inside = and_true (test h.row) (is_true (is_among auths) h.row.label) in_table.1 in
        and_intro
        (subst (λ k. sight.reads k ≡ true) (sym (same-eq h.table table in_table.0)) (covers.reads table (and_intro may.there may.may_read)))
        (is_true_more (is_among auths) sight.holds (λ a among. covers.holds a (may.held a among)) h.row.label is_visible_inside.1)

    agree : (x y : Held A) → passes x ≡ true → passes y ≡ true → R (key y.row) (key x.row) ≡ Equal → R (full_name y) (full_name x) ≡ Equal
    agree x y p q e =
        let of_x = and_true (same x.table table) (test x.row && is_true (is_among auths) x.row.label) p in
        let of_y = and_true (same y.table table) (test y.row && is_true (is_among auths) y.row.label) q in
        let test_x = (and_true (test x.row) (is_true (is_among auths) x.row.label) of_x.1).0 in
        let test_y = (and_true (test y.row) (is_true (is_among auths) y.row.label) of_y.1).0 in
        let tables = same-eq y.table table of_y.0 ∙ sym (same-eq x.table table of_x.0) in
        let ids = naming.id x.row y.row test_x test_y e in
        let labels = naming.label x.row y.row test_x test_y e in
        equal_lists (full_name y) (full_name x) (λ i. tables i ∷ ids i ∷ labels i ∷ [])

    abbrev row_key : Held A → List Text
    row_key h = key h.row

    abbrev row_of : Held A → Row A
    row_of h = h.row

    of_visible : (rows : List (Held A)) → in_order key (rows_that test table auths rows) ≡ map row_of (in_order row_key (filter passes (visible sight rows)))
    of_visible rows =
        let apart = filter_images row_of (λ h. same h.table table) (λ row. test row && is_true (is_among auths) row.label) rows in
        let enough = filter_in_order full_name passes rows ∙ ap (in_order full_name) (sym (filter_weaker passes (is_visible sight) within rows))
        ∙ sym (filter_in_order full_name passes (filter (is_visible sight) rows)) in
        ap (in_order key) apart
        ∙ in_order_images row_of key (filter passes rows)
        ∙ ap (map row_of) (sym (resorted row_key full_name passes agree rows) ∙ ap (in_order row_key) enough)

    pub sorted_alike : in_order key (rows_that test table auths s.rows) ≡ in_order key (rows_that test table auths t.rows)
    sorted_alike = of_visible s.rows ∙ ap (λ rows. map row_of (in_order row_key (filter passes rows))) alike.rows ∙ sym (of_visible t.rows)

  seen_alike : (table : Text) (query : Query) (auths : List Text) → MayRead table auths → rows_inside s table query auths ≡ rows_inside t table query auths
  seen_alike table query auths may =
      sorted_alike (scan_key (period_of s.directory table)) (λ row. is_inside query row.point) (scan_names (period_of s.directory table) (λ row. is_inside query row.point)) table auths may
      ∙ ap (λ d. in_order (scan_key (period_of d table)) (rows_that (λ row. is_inside query row.point) table auths t.rows)) alike.directory

  -- a read that is allowed is of a table that may be read, by authorizations that are held
  allowed : (request : Request A) (table : Text) (auths : List Text) → refusal_of s.directory user request ≡ None
      → table_of request ≡ Some table → need_of request ≡ Need.Table table Permission.Read → named_auths request ≡ auths → MayRead table auths
  allowed request table auths h of_table needs names = record {
    there = allowed_table s.directory user request h table of_table;
    may_read = met (has_table s.directory user table Permission.Read) (Refusal.Denied (Denial.Permission Permission.Read (Some table)))
        (subst (λ need. meets s.directory user need ≡ None) needs (allowed_need s.directory user request h));
    held = auths_held s.directory user auths (subst (λ own. auths_are_held s.directory user own ≡ None) names (allowed_auths s.directory user request h));
  }

  pub shown_alike : (request : Request A) → refusal_of s.directory user request ≡ None → shown s user request ≡ shown t user request
  shown_alike Whoami h = λ i. account (alike.directory i) user
  shown_alike Tables h = λ i. Reply.Tables (tables_of (alike.directory i))
  shown_alike Users h = λ i. Reply.Users (users_of (alike.directory i))
  shown_alike (User name) h = λ i. account (alike.directory i) name
  shown_alike (Grants table) h = λ i. Reply.Grants (grants_on (alike.directory i) (OnTable table))
  shown_alike (NamespaceGrants namespace) h = λ i. Reply.Grants (grants_on (alike.directory i) (OnNamespace namespace))
  shown_alike (Label label) h = refl
  shown_alike Audit h =
      absurd (clash (met (has_system s.directory user Permission.System) (Refusal.Denied (Denial.Permission Permission.System None)) (allowed_need s.directory user Audit h)) covers.system)
  shown_alike (Get table id auths) h =
      ap Reply.Rows (sorted_alike (λ row. row.label ∷ []) (λ row. same row.id id) (label_names id) table auths
      (allowed (Get table id auths) table auths h refl refl refl))
  shown_alike (Scan table query auths limit after) h =
      λ i. page_of limit (filter (is_past (period_of (alike.directory i) table) after) (seen_alike table query auths (allowed (Scan table query auths limit after) table auths h refl refl refl) i))
  shown_alike (Count table query auths) h = ap (λ rows. Reply.Count (length rows)) (seen_alike table query auths (allowed (Count table query auths) table auths h refl refl refl))
  shown_alike (Grid table query auths columns lines) h =
      ap (λ rows. Reply.Grid (grid_of query columns lines rows))
      (seen_alike table query auths (allowed (Grid table query auths columns lines) table auths h refl refl refl))
  shown_alike (Plan table query budget) h = λ i. Reply.Plan (plan_of (period_of (alike.directory i) table) query budget)
  shown_alike (Put _ _) h = refl
  shown_alike (Delete _ _ _) h = refl
  shown_alike (CreateTable _ _) h = refl
  shown_alike (DropTable _) h = refl
  shown_alike (Constraint _ _) h = refl
  shown_alike (SetPeriod _ _) h = refl
  shown_alike (CreateUser _ _ _) h = refl
  shown_alike (DropUser _) h = refl
  shown_alike (SetToken _ _) h = refl
  shown_alike (Auths _ _) h = refl
  shown_alike (GrantSystem _ _) h = refl
  shown_alike (RevokeSystem _ _) h = refl
  shown_alike (GrantTable _ _ _) h = refl
  shown_alike (RevokeTable _ _ _) h = refl
  shown_alike (GrantNamespace _ _ _) h = refl
  shown_alike (RevokeNamespace _ _ _) h = refl

-- ---- what a step replies

-- what is heard and not refused is the user's own, and allowed
abbrev pub IsOwn : {A : Type 0} → Directory A → Text → Judged A → Type 0
IsOwn d user (Unheard refusal) = Unit {0}
IsOwn d user (Heard asker request (Some refusal)) = Unit {0}
IsOwn d user (Heard asker request None) = (asker ≡ user) × (refusal_of d user request ≡ None)

own_call : {A : Type 0} (d : Directory A) (user asker : Text) (call : Call A) → asker ≡ user → IsOwn d user (judge_call d (Some asker) call)
own_call d user asker (Call.Bad refusal) e = tt
own_call d user asker (Call.Good request) e = at (refusal_of d asker request) refl
  where
    at : (o : Option Refusal) → refusal_of d asker request ≡ o → IsOwn d user (Heard asker request o)
    at (Some refusal) h = tt
    at None h = (e, subst (λ a. refusal_of d a request ≡ None) e h)

pub judged_own : {A : Type 0} (d : Directory A) (user : Text) (token : Option Token) (call : Call A) → names token user ≡ true → IsOwn d user (judge_call d (asker_of d token) call)
judged_own d user None call h = cc
judged_own d user (Some token) call h = at (has_digest d token.name token.digest) refl
  where
    at : (b : Bool) → has_digest d token.name token.digest ≡ b → IsOwn d user (judge_call d (asker_of d (Some token)) call)
    at true e = rw e (own_call d user token.name call (same-eq token.name user h))
    at false e = rw e tt

pub reply_alike : {A : Type 0} (sight : Sight) (user : Text) (s t : State A) → Alike sight s t → Covers sight user s.directory →
    (j : Judged A) → IsOwn s.directory user j → (settle s j).reply ≡ (settle t j).reply
reply_alike sight user s t alike covers (Unheard refusal) own = refl
reply_alike sight user s t alike covers (Heard asker request (Some refusal)) own = refl
reply_alike sight user s t alike covers (Heard asker request None) own =
    ap (λ a. shown s a request) own.0 ∙ shown_alike sight user s t alike covers request own.1 ∙ ap (λ a. shown t a request) (sym own.0)

-- ---- what a step leaves

module _ {A : Type 0} (sight : Sight) where
  abbrev v : Held A → Bool
  v = is_visible sight

  without_alike : (w : Held A → Bool) (xs ys : List (Held A)) → visible sight xs ≡ visible sight ys → visible sight (filter w xs) ≡ visible sight (filter w ys)
  without_alike w xs ys e = turned_round xs ∙ ap (filter w) e ∙ sym (turned_round ys)
    where
      turned_round : (zs : List (Held A)) → visible sight (filter w zs) ≡ filter w (visible sight zs)
      turned_round zs = ap (in_order full_name) (filter_swap v w zs) ∙ sym (filter_in_order full_name w (filter v zs))

  visible_sorted : (rows : List (Held A)) → visible sight (in_order full_name rows) ≡ visible sight rows
  visible_sorted rows = ap (in_order full_name) (filter_in_order full_name v rows) ∙ in_order_again full_name (filter v rows)

  visible_more : (held : Held A) (xs ys : List (Held A)) → visible sight xs ≡ visible sight ys → visible sight (held ∷ xs) ≡ visible sight (held ∷ ys)
  visible_more held xs ys e = at (v held) refl
    where
      at : (b : Bool) → v held ≡ b → visible sight (held ∷ xs) ≡ visible sight (held ∷ ys)
      at true f = simp (f, e)
      at false f = simp (f, e)

  rows_after_alike : (request : Request A) (xs ys : List (Held A)) → visible sight xs ≡ visible sight ys → visible sight (rows_after request xs) ≡ visible sight (rows_after request ys)
  rows_after_alike (Put table row) xs ys e =
      let new : Held A = record { table = table; row = row } in
      visible_sorted (new ∷ without_row table row.id row.label xs)
      ∙ visible_more new (without_row table row.id row.label xs) (without_row table row.id row.label ys) (without_alike (λ held. not (is_held table row.id row.label held)) xs ys e)
      ∙ sym (visible_sorted (new ∷ without_row table row.id row.label ys))
  rows_after_alike (Delete table id label) xs ys e = without_alike (λ held. not (is_held table id label held)) xs ys e
  rows_after_alike (DropTable table) xs ys e = without_alike (λ held. not (same held.table table)) xs ys e
  rows_after_alike _ xs ys e = e

  -- one step in both leaves them alike
  pub settle_alike : (j : Judged A) (s t : State A) → Alike sight s t → Alike sight (settle s j).state (settle t j).state
  settle_alike (Unheard refusal) s t alike = alike
  settle_alike (Heard asker request (Some refusal)) s t alike = record { directory = alike.directory; rows = alike.rows }
  settle_alike (Heard asker request None) s t alike = record {
    directory = ap (directory_after asker request) alike.directory;
    rows = rows_after_alike request s.rows t.rows alike.rows;
  }

  -- a row of a name that may not be seen isn't visible
  named_hidden : (table id label : Text) → (sight.reads table && is_true sight.holds label) ≡ false → (xs : List (Held A)) → visible sight (without_row table id label xs) ≡ visible sight xs
  named_hidden table id label hidden xs = ap (in_order full_name) (filter_weaker v (λ held. not (is_held table id label held)) other xs)
    where
      other : (h : Held A) → is_visible sight h ≡ true → not (is_held table id label h) ≡ true
      other h is = at (is_held table id label h) refl
        where
          at : (b : Bool) → is_held table id label h ≡ b → not (is_held table id label h) ≡ true
          at false e = ap not e
          at true e =
              let in_label = and_true (same h.table table && same h.row.id id) (same h.row.label label) e in
              let in_table = and_true (same h.table table) (same h.row.id id) in_label.0 in
              absurd (clash (
              ap (λ k. sight.reads table && is_true sight.holds k) (sym (same-eq h.row.label label in_label.1))
              ∙ ap (λ k. sight.reads k && is_true sight.holds h.row.label) (sym (same-eq h.table table in_table.0))
              ∙ is) hidden)

  rows_hidden : (request : Request A) → may_show sight request ≡ false → (xs : List (Held A)) → visible sight (rows_after request xs) ≡ visible sight xs
  rows_hidden (Put table row) hidden xs =
      let new : Held A = record { table = table; row = row } in
      let rest = without_row table row.id row.label xs in
      visible_sorted (new ∷ rest)
      ∙ ap (λ b. in_order full_name (cond b (new ∷ filter v rest) (filter v rest))) hidden
      ∙ named_hidden table row.id row.label hidden xs
  rows_hidden (Delete table id label) hidden xs = named_hidden table id label hidden xs
  rows_hidden _ hidden xs = absurd (clash refl hidden)

  -- a request that is left out leaves what the user may see
  pub settle_hidden : (j : Judged A) (s : State A) → matters sight j ≡ false → Alike sight (settle s j).state s
  settle_hidden (Unheard refusal) s h = record { directory = refl; rows = refl }
  settle_hidden (Heard asker request (Some refusal)) s h = record { directory = refl; rows = refl }
  settle_hidden (Heard asker (Put table row) None) s h = record { directory = refl; rows = rows_hidden (Put table row) h s.rows }
  settle_hidden (Heard asker (Delete table id label) None) s h = record { directory = refl; rows = rows_hidden (Delete table id label) h s.rows }
  settle_hidden (Heard asker Whoami None) s h = record { directory = refl; rows = refl }
  settle_hidden (Heard asker Tables None) s h = record { directory = refl; rows = refl }
  settle_hidden (Heard asker Users None) s h = record { directory = refl; rows = refl }
  settle_hidden (Heard asker (User _) None) s h = record { directory = refl; rows = refl }
  settle_hidden (Heard asker (Grants _) None) s h = record { directory = refl; rows = refl }
  settle_hidden (Heard asker (NamespaceGrants _) None) s h = record { directory = refl; rows = refl }
  settle_hidden (Heard asker (Label _) None) s h = record { directory = refl; rows = refl }
  settle_hidden (Heard asker Audit None) s h = record { directory = refl; rows = refl }
  settle_hidden (Heard asker (Get _ _ _) None) s h = record { directory = refl; rows = refl }
  settle_hidden (Heard asker (Scan _ _ _ _ _) None) s h = record { directory = refl; rows = refl }
  settle_hidden (Heard asker (Count _ _ _) None) s h = record { directory = refl; rows = refl }
  settle_hidden (Heard asker (Grid _ _ _ _ _) None) s h = record { directory = refl; rows = refl }
  settle_hidden (Heard asker (Plan _ _ _) None) s h = record { directory = refl; rows = refl }
  settle_hidden (Heard asker _ None) s h = absurd (clash refl h)

-- the directory goes its way by itself
pub settle_directory : {A : Type 0} (j : Judged A) (s t : State A) → s.directory ≡ t.directory → (settle s j).state.directory ≡ (settle t j).state.directory
settle_directory (Unheard refusal) s t e = e
settle_directory (Heard asker request (Some refusal)) s t e = e
settle_directory (Heard asker request None) s t e = ap (directory_after asker request) e
