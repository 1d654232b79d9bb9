use Rattle.std.proofs.Common.{◌≡◌, [], ◌∷◌, true, false, Err, IfErr, rules, arith, ap, subst, ◌∙◌}
use Rattle.std.proofs.lemmas.Result.{err_from_is_err_and}
use Rattle.sqlite_trees.specs.Tree.{sought, order_of}
use Rattle.sqlite_trees.specs.declared.store.Direction.TheVariants.{Forward}
use Rattle.sqlite_trees.specs.declared.store.Shape.TheVariants.{Table}
use Rattle.sqlite_trees.specs.View.{View, IsClean, with_cursor, Advances}
use Rattle.st_journal_rows.specs.Table.{table_tree, row_of}
use Rattle.st_journal_rows.specs.Openings.{AreRefused}
use Rattle.st_journal_rows.specs.inner.NoOther.{IsNoOther}
use Rattle.st_journal_rows.proofs.Reading.{starts, behind, reads, ends}
use Rattle.st_journal_rows.proofs.Others.{refused}
use Rattle.st_journal_rows.proofs.read.read_all.Goals as goal

pub rows-init : goal.rows-init
rows-init g c =
    let s = g.S.Store in
    let old = s.view c.args.store.now in
    let mid = s.view c.last_number.new.store in
    let now = s.view c.seek.new.self in
    let found : IsClean now → now ≡ with_cursor mid 0 (sought (order_of (mid.shape table_tree)) Forward [] (mid.trees table_tree)) = search rules in
    record {
      live = search rules;
      clean = omega (arith, c.last_number.ensures.clean, c.seek.ensures.quiet.clean);
      outcomes = λ db h. c.last_number.ensures.outcomes db (c.seek.ensures.quiet.outcomes db h);
      has = λ clean.
          let mid_clean : IsClean mid = omega (arith, clean, c.seek.ensures.quiet.clean) in
          let was : IsClean old = omega (arith, mid_clean, c.last_number.ensures.clean) in
          let move = c.in_ok-last.ensures.same mid_clean in
          let table : mid.shape table_tree ≡ Table = ap (λ (v : View). v.shape table_tree) move ∙ c.requires.table was in
          behind g.R.Replay.applies c.args.opening.now old mid now 0 c.args.state.now c.args.state.now move
          (starts g.R.Replay.applies c.args.opening.now mid now c.args.state.now table (found clean));
    }

pub returns-in-Ok-false-clause-ok : goal.returns-in-Ok-false-clause-ok
returns-in-Ok-false-clause-ok g c clean =
    let s = g.S.Store in
    let mid = s.view c.rows.store in
    let was : IsClean mid = omega (arith, clean, c.next.ensures.quiet.clean) in
    let stops : Advances mid (s.view c.next.new.self) 0 c.next.new.row false =
    subst (Advances mid (s.view c.next.new.self) 0 c.next.new.row) c.in-Ok-false.field-0-test (c.in-Ok-false.ensures.ok clean) in
    ends g.R.Replay.applies c.args.opening.now (s.view c.args.store.now) mid (s.view c.next.new.self) c.rows.count c.args.state.now c.rows.state c.next.new.row (c.rows.invariant.has was) stops

pub rows-preserved : goal.rows-preserved
rows-preserved g c =
    let s = g.S.Store in
    let mid = s.view c.rows.store in
    let new = s.view c.next.new.self in
    record {
      live = search rules;
      clean = omega (arith, c.rows.invariant.clean, c.next.ensures.quiet.clean);
      outcomes = λ db h. c.rows.invariant.outcomes db (c.next.ensures.quiet.outcomes db h);
      has = λ clean.
          let was : IsClean mid = omega (arith, clean, c.next.ensures.quiet.clean) in
          let moves : Advances mid new 0 c.next.new.row true =
          subst (Advances mid new 0 c.next.new.row) c.in-Ok-true.field-0-test (c.in-Ok-true.ensures.ok clean) in
          let is : c.next.new.row ≡ row_of c.rows.count c.in_ok-change.change = c.in_ok-change.ensures.ok in
          reads g.R.Replay.applies c.args.opening.now (s.view c.args.store.now) mid new c.in_ok-change.change c.rows.count c.args.state.now c.rows.state c.take.new.state c.next.new.row
          (c.rows.invariant.has was) moves is c.in_ok-take.ensures.ok;
    }

pub returns-in-Ok-false-clause-clean : goal.returns-in-Ok-false-clause-clean
returns-in-Ok-false-clause-clean g c = omega (arith, c.rows.invariant.clean, c.next.ensures.quiet.clean)

pub returns-in-Ok-false-clause-outcomes : goal.returns-in-Ok-false-clause-outcomes
returns-in-Ok-false-clause-outcomes g c db leaves = c.rows.invariant.outcomes db (c.next.ensures.quiet.outcomes db leaves)

pub returns-in-Err-clause-clean : goal.returns-in-Err-clause-clean
returns-in-Err-clause-clean g c = omega (arith, c.rows.invariant.clean, c.next.ensures.quiet.clean)

pub returns-in-Err-clause-outcomes : goal.returns-in-Err-clause-outcomes
returns-in-Err-clause-outcomes g c db leaves = c.rows.invariant.outcomes db (c.next.ensures.quiet.outcomes db leaves)

pub returns-in_err-take-clause-clean : goal.returns-in_err-take-clause-clean
returns-in_err-take-clause-clean g c = omega (arith, c.rows.invariant.clean, c.next.ensures.quiet.clean)

pub returns-in_err-take-clause-outcomes : goal.returns-in_err-take-clause-outcomes
returns-in_err-take-clause-outcomes g c db leaves = c.rows.invariant.outcomes db (c.next.ensures.quiet.outcomes db leaves)

pub returns-in_err-take-clause-err : goal.returns-in_err-take-clause-err
returns-in_err-take-clause-err g c =
    let s = g.S.Store in
    let old = s.view c.args.store.now in
    let mid = s.view c.rows.store in
    let new = s.view c.next.new.self in
    let opening = c.args.opening.now in
    let change = c.in_ok-change.change in
    let last = err_from_is_err_and c.from_residual-in_err-take.result c.from_residual-in_err-take.ensures.1 in
    let is : c.take.result ≡ Err last.0 = search (rules, last.2) in
    rw last.1 (λ clean.
    let was : IsClean mid = omega (arith, clean, c.next.ensures.quiet.clean) in
    let moves : Advances mid new 0 c.next.new.row true =
    subst (Advances mid new 0 c.next.new.row) c.in-Ok-true.field-0-test (c.in-Ok-true.ensures.ok clean) in
    let first = subst (λ r. IfErr r (AreRefused opening (change ∷ []))) is c.take.ensures.first in
    refused g.R.Replay.applies opening old mid new change c.rows.count c.args.state.now c.rows.state c.next.new.row last.0
    (c.rows.invariant.has was) moves c.in_ok-change.ensures.ok first (λ low. subst (λ r. IfErr r IsNoOther) is (c.take.ensures.later low)))
