-- Worked examples of rows: puts, deletes and counts.
use Rattle.std.proofs.Common.{◌≡◌, ℕ, List, [], ◌∷◌, ◌++◌, Bool, true, false, Some, refl, map}
use Rattle.std.specs.Prelude.{codes}
use Prim.Native.String.{String}
use Rattle.st_key.specs.inner.Coordinates.{point_at}
use Rattle.st_key.specs.Order.{bits_below}
use Rattle.st_key.specs.declared.period.Period.{Period}
use Rattle.st_box.specs.inner.Coordinates.{query_of}
use Rattle.st_label.specs.inner.Machine.{class_of}
use Rattle.st_label.specs.Reading.{reading}
use Rattle.st_grant.specs.declared.grant.Scope.TheVariants.{OnTable}
use Rattle.st_grant.specs.declared.permission.Permission.{Permission}
use Rattle.st_policy.specs.declared.denial.Denial.{Denial}
use Rattle.st_policy.specs.declared.refusal.Refusal.{Refusal}
use Rattle.st_policy.specs.declared.request.Request.{Request}
use Rattle.st_policy.specs.declared.reply.Reply.{Reply}
use Rattle.st_core.specs.State.{State}
use Rattle.st_table.specs.Rows.{full_name}
use Rattle.st_core.proofs.Worked.{Said, asks, outcome, after, told, all_told, texts, here, row, put_in, put, count_in, count, fresh, denied, make_table, entry}

-- ---- rows of points, by root

nothing_put : told (fresh ("A" ∷ [])) (count []) ≡ Reply.Count 0
unfolding reading class_of
nothing_put = refl

put_and_counted : all_told (fresh ("A" ∷ [])) (count [] ∷ put "p" "A" ∷ count ("A" ∷ []) ∷ []) ≡ Reply.Count 0 ∷ Reply.Accepted ∷ Reply.Count 1 ∷ []
unfolding reading class_of
put_and_counted = refl

three_terms : map (told (after (fresh ("A" ∷ "B" ∷ "C" ∷ [])) (put "p" "A&(B|C)" ∷ []))) (count ("A" ∷ []) ∷ count ("A" ∷ "C" ∷ []) ∷ count ("B" ∷ "C" ∷ []) ∷ [])
    ≡ Reply.Count 0 ∷ Reply.Count 1 ∷ Reply.Count 0 ∷ []
unfolding reading class_of
three_terms = refl

empty_label : told (after (fresh []) (put "p" "" ∷ [])) (count []) ≡ Reply.Count 1
unfolding reading class_of
empty_label = refl

quoted_label : told (after (fresh ("A" ∷ [])) (put "p" "\"A\"" ∷ [])) (count ("A" ∷ [])) ≡ Reply.Count 1
unfolding reading class_of
quoted_label = refl

-- what root may see is not shown where it is not asked for
not_asked_for : told (after (fresh ("A" ∷ [])) (put "p" "A" ∷ [])) (count []) ≡ Reply.Count 0
unfolding reading class_of
not_asked_for = refl

-- two rows of one id
two_labels : map (told (after (fresh ("A" ∷ "B" ∷ [])) (put "p" "B" ∷ put "p" "A" ∷ []))) (count ("A" ∷ "B" ∷ []) ∷ count ("A" ∷ []) ∷ [])
    ≡ Reply.Count 2 ∷ Reply.Count 1 ∷ []
unfolding reading class_of bits_below
two_labels = refl

-- two texts of one meaning name two rows
two_texts : told (after (fresh ("A" ∷ "B" ∷ [])) (put "p" "A&B" ∷ put "p" "B&A" ∷ [])) (count ("A" ∷ "B" ∷ [])) ≡ Reply.Count 2
unfolding reading class_of bits_below
two_texts = refl

-- a put in place of the row of its name, which was elsewhere
moved : all_told (fresh ("A" ∷ []))
    (asks "root" (Request.Put (codes "points") (row "p" (point_at 0 0 0 refl refl refl) "A"))
    ∷ asks "root" (Request.Put (codes "points") (row "p" (point_at 5 5 5 refl refl refl) "A"))
    ∷ asks "root" (Request.Count (codes "points") (query_of 0 0 0 0 0 0 refl refl refl refl refl refl) (texts ("A" ∷ [])))
    ∷ asks "root" (Request.Count (codes "points") (query_of 5 5 5 5 5 5 refl refl refl refl refl refl) (texts ("A" ∷ []))) ∷ [])
    ≡ Reply.Accepted ∷ Reply.Accepted ∷ Reply.Count 0 ∷ Reply.Count 1 ∷ []
unfolding reading class_of
moved = refl

-- the rows after a put in place of another: the new one alone, with its note
replaced : (after (fresh []) (put "p" "" ∷ asks "root" (Request.Put (codes "points") (record { id = codes "p"; point = here; label = []; note = codes "n" })) ∷ [])).rows
    ≡ record { table = codes "points"; row = record { id = codes "p"; point = here; label = []; note = codes "n" } } ∷ []
unfolding reading class_of
replaced = refl

-- rows stand by their tables' names, their ids and their labels, whatever the order of the puts
stand_by_name : map full_name
    (after (fresh []) (make_table "root" "b" ∷ make_table "root" "a" ∷ put_in "root" "b" "p" "" ∷ put_in "root" "a" "q" "" ∷ put_in "root" "a" "p" "B"
    ∷ put_in "root" "a" "p" "A" ∷ [])).rows
    ≡ texts ("a" ∷ "p" ∷ "A" ∷ []) ∷ texts ("a" ∷ "p" ∷ "B" ∷ []) ∷ texts ("a" ∷ "q" ∷ "" ∷ []) ∷ texts ("b" ∷ "p" ∷ "" ∷ []) ∷ []
unfolding reading class_of
stand_by_name = refl

-- two rows of one id: a delete takes out the one of its label, and a second delete nothing
deleted : map (λ held. held.row.label)
    (after (fresh ("A" ∷ []))
    (put "p" "B" ∷ put "p" "A" ∷ asks "root" (Request.Delete (codes "points") (codes "p") (codes "A")) ∷ asks "root"
    (Request.Delete (codes "points") (codes "p") (codes "A")) ∷ [])).rows ≡ codes "B" ∷ []
unfolding reading class_of
deleted = refl

-- the last point of space and time
last_point : told (after (fresh []) (asks "root" (Request.Put (codes "points") (row "p" (point_at 2097151 2097151 19818086399 refl refl refl) "")) ∷ [])) (count []) ≡ Reply.Count 1
unfolding reading class_of
last_point = refl

-- ---- normal forms

abbrev label : String → String → Said
label user text = asks user (Request.Label (codes text))

normal_forms : map (told (fresh [])) (label "root" "(C|B)&A&A" ∷ label "root" "\"A\"|A" ∷ label "root" "((A|B)|(C&C))" ∷ label "root" "" ∷ [])
    ≡ map (λ (text : String). Reply.Normal (codes text)) ("(B|C)&A" ∷ "A" ∷ "A|B|C" ∷ "" ∷ [])
unfolding reading class_of
normal_forms = refl

-- ---- refusals

no_table : all_told (fresh []) (count_in "root" "t" [] ∷ put_in "root" "t" "p" "" ∷ [])
    ≡ Reply.Refused (Refusal.NoTable (codes "t")) ∷ Reply.Refused (Refusal.NoTable (codes "t")) ∷ []
unfolding reading class_of
no_table = refl

first_lacking : told (fresh ("A" ∷ [])) (count ("A" ∷ "X" ∷ "Y" ∷ [])) ≡ denied (Denial.Authorization (codes "X"))
unfolding reading class_of
first_lacking = refl

-- u beside root, with these authorizations and these permissions on the table points
abbrev with_user : State ℕ → List String → List Permission → State ℕ
with_user s auths permissions = record s {
  directory = record s.directory {
    users = s.directory.users ++ record { name = codes "u"; digest = []; auths = texts auths; permissions = [] } ∷ [];
    grants = s.directory.grants ++ map (λ p. record { user = codes "u"; scope = OnTable (codes "points"); permission = p }) permissions;
  };
}

no_permission : all_told (with_user (fresh []) [] []) (count_in "u" "points" [] ∷ put_in "u" "points" "p" "" ∷ [])
    ≡ denied (Denial.Permission Permission.Read (Some (codes "points"))) ∷ denied (Denial.Permission Permission.Write (Some (codes "points"))) ∷ []
unfolding reading class_of
no_permission = refl

-- that a table is not there comes before the permission, and the permission before the authorization
order_of_refusals : all_told (with_user (fresh []) [] []) (count_in "u" "t" ("X" ∷ []) ∷ count_in "u" "points" ("X" ∷ []) ∷ [])
    ≡ Reply.Refused (Refusal.NoTable (codes "t")) ∷ denied (Denial.Permission Permission.Read (Some (codes "points"))) ∷ []
unfolding reading class_of
order_of_refusals = refl

only_reads : all_told (with_user (fresh []) ("A" ∷ []) (Permission.Read ∷ [])) (count_in "u" "points" ("A" ∷ []) ∷ count_in "u" "points" ("A" ∷ "X" ∷ "Y" ∷ []) ∷ put_in "u" "points" "p" "A" ∷ [])
    ≡ Reply.Count 0 ∷ denied (Denial.Authorization (codes "X")) ∷ denied (Denial.Permission Permission.Write (Some (codes "points"))) ∷ []
unfolding reading class_of
only_reads = refl

-- whoever asks, the normal form is told, and nothing is listed
label_without_permissions : (outcome (with_user (fresh []) [] []) (label "u" "B&A")) ≡ record { reply = Reply.Normal (codes "A&B"); state = with_user (fresh []) [] [] }
unfolding reading class_of
label_without_permissions = refl

-- ---- the constraint

abbrev constrained : Bool → State ℕ → State ℕ
constrained constraint s = record s {
  directory = record s.directory { tables = record { table = codes "points"; constraint = constraint; period = Period.Week } ∷ [] };
}

abbrev writer : State ℕ
writer = with_user (fresh ("S" ∷ [])) [] (Permission.Write ∷ [])

constraint_on : all_told (constrained true writer) (put_in "u" "points" "p" "S" ∷ count ("S" ∷ []) ∷ [])
    ≡ denied (Denial.Constraint (codes "S")) ∷ Reply.Count 0 ∷ []
unfolding reading class_of
constraint_on = refl

constraint_off : all_told (constrained false writer) (put_in "u" "points" "p" "S" ∷ count ("S" ∷ []) ∷ [])
    ≡ Reply.Accepted ∷ Reply.Count 1 ∷ []
unfolding reading class_of
constraint_off = refl

-- a label that is true for the writer may name what the writer lacks
one_of_two : all_told (constrained true (with_user (fresh ("A" ∷ "S" ∷ [])) ("A" ∷ []) (Permission.Write ∷ []))) (put_in "u" "points" "p" "A|S" ∷ put_in "u" "points" "q" "A&S" ∷ [])
    ≡ Reply.Accepted ∷ denied (Denial.Constraint (codes "A&S")) ∷ []
unfolding reading class_of
one_of_two = refl

-- ---- the audit listing

-- changes are listed, whether made or refused, and reads are not
audited : (after (with_user (fresh []) [] []) (put "p" "" ∷ count [] ∷ put_in "u" "points" "q" "" ∷ put_in "root" "t" "q" "" ∷ count_in "u" "points" [] ∷ [])).audit
    ≡ entry "put" 0 "points" "root" ∷ entry "put" 9 "points" "u" ∷ entry "put" 14 "t" "root" ∷ []
unfolding reading class_of
audited = refl
