use Rattle.std.proofs.Common.{◌≡◌, ◌<◌, false, Err, IfErr, subst, rules, arith}
use Rattle.std.proofs.lemmas.Result.{err_from_is_err_and}
use Rattle.sqlite_trees.specs.View.{IsClean}
use Rattle.sqlite_trees.specs.declared.store.Shape.TheVariants.{Table}
use Rattle.st_journal_rows.specs.Table.{table_tree, records_in}
use Rattle.st_journal_rows.specs.Openings.{AreRefused}
use Rattle.st_journal_rows.specs.OpenedTable.{IsAtRest}
use Rattle.st_journal_rows.specs.inner.Taking.{Reads}
use Rattle.st_journal_rows.proofs.CommitLemmas.{open_of}
use Rattle.st_journal_rows.proofs.Reading.{resumed, begun, emptied, if_both}
use Rattle.st_journal_rows.proofs.Others.{refused_at_rest}
use Rattle.st_journal_rows.proofs.opening.begin.Goals as goal

pub returns-then-count-eq0-clause-ok : goal.returns-then-count-eq0-clause-ok
returns-then-count-eq0-clause-ok g c = if_both c.begin_new.result (λ count ready list clean.
    let s = g.S.Store in
    let old = s.view c.args.store.now in
    let mid = s.view c.read_all.new.store in
    let mid_clean : IsClean mid = omega (arith, clean, c.begin_new.ensures.clean) in
    let old_clean : IsClean old = omega (arith, mid_clean, c.read_all.ensures.clean) in
    let sound : old.is_broken ≡ false = search rules in
    let rest : IsAtRest old = c.requires.rest old_clean (open_of old.is_open old.is_broken (g.met.S.Store.broken_if_shut c.args.store.now) sound) in
    let none : c.in_ok-count.count ≡ 0 = search rules in
    let read : Reads g.R.Replay.applies c.args.opening.now old mid 0 c.args.state.now c.read_all.new.state =
    subst (λ n. Reads g.R.Replay.applies c.args.opening.now old mid n c.args.state.now c.read_all.new.state) none (c.in_ok-count.ensures.ok mid_clean) in
    begun g.R.Replay.applies c.args.opening.now _ old mid (s.view c.begin_new.new.store) count c.args.state.now c.read_all.new.state
    read rest (ready clean) (list clean)) c.begin_new.ensures.ready c.begin_new.ensures.records

pub returns-then-version-eq-FORMAT-clause-ok : goal.returns-then-version-eq-FORMAT-clause-ok
returns-then-version-eq-FORMAT-clause-ok g c mid_clean =
    let s = g.S.Store in
    let old = s.view c.args.store.now in
    let mid = s.view c.read_all.new.store in
    let old_clean : IsClean old = omega (arith, mid_clean, c.read_all.ensures.clean) in
    let sound : old.is_broken ≡ false = search rules in
    let table : old.shape table_tree ≡ Table = search rules in
    let rest : IsAtRest old = c.requires.rest old_clean (open_of old.is_open old.is_broken (g.met.S.Store.broken_if_shut c.args.store.now) sound) in
    let some : 0 < c.in_ok-count.count = search rules in
    resumed g.R.Replay.applies c.args.opening.now old mid c.in_ok-count.count c.args.state.now c.read_all.new.state
    (c.in_ok-count.ensures.ok mid_clean) some rest table (g.met.S.Store.broken_if_shut c.args.store.now)

pub begin_new-requires : goal.begin_new-requires
begin_new-requires g c = record {
  empty = λ mid_clean.
      let s = g.S.Store in
      let old = s.view c.args.store.now in
      let mid = s.view c.read_all.new.store in
      let old_clean : IsClean old = omega (arith, mid_clean, c.read_all.ensures.clean) in
      let sound : old.is_broken ≡ false = search rules in
      let rest : IsAtRest old = c.requires.rest old_clean (open_of old.is_open old.is_broken (g.met.S.Store.broken_if_shut c.args.store.now) sound) in
      let table : old.shape table_tree ≡ Table = search rules in
      let none : c.in_ok-count.count ≡ 0 = search rules in
      let read : Reads g.R.Replay.applies c.args.opening.now old mid 0 c.args.state.now c.read_all.new.state =
      subst (λ n. Reads g.R.Replay.applies c.args.opening.now old mid n c.args.state.now c.read_all.new.state) none (c.in_ok-count.ensures.ok mid_clean) in
      emptied g.R.Replay.applies c.args.opening.now old mid c.args.state.now c.read_all.new.state read rest table;
}

pub returns-in_err-count-clause-err : goal.returns-in_err-count-clause-err
returns-in_err-count-clause-err g c =
    let s = g.S.Store in
    let old = s.view c.args.store.now in
    let mid = s.view c.read_all.new.store in
    let opening = c.args.opening.now in
    let last = err_from_is_err_and c.from_residual.result c.from_residual.ensures.1 in
    let is : c.read_all.result ≡ Err last.0 = search (rules, last.2) in
    rw last.1 (λ mid_clean.
    let old_clean : IsClean old = omega (arith, mid_clean, c.read_all.ensures.clean) in
    let sound : old.is_broken ≡ false = search rules in
    let rest : IsAtRest old = c.requires.rest old_clean (open_of old.is_open old.is_broken (g.met.S.Store.broken_if_shut c.args.store.now) sound) in
    let told = subst (λ r. IfErr r (λ error. IsClean mid → AreRefused opening (records_in old.trees) error)) is c.read_all.ensures.err in
    refused_at_rest opening old last.0 rest (told mid_clean))
