use Rattle.std.proofs.Common.{◌≡◌, ◌∷◌, ◌++◌, [], rules, arith, ap, sym, ◌∙◌}
use Rattle.sqlite_trees.specs.View.{View, IsClean}
use Rattle.st_journal_rows.specs.Table.{table_tree}
use Rattle.st_journal_rows.proofs.ViewLemmas.{quiet_then, kept_then}
use Rattle.st_journal_rows.proofs.Backs.{taken_next, taken_all}
use Rattle.st_journal_rows.proofs.back.read_from.Goals as goal

pub loop-at-preserved : goal.loop-at-preserved
loop-at-preserved g c =
    let s = g.S.Store in
    let inv = c.loop-at.invariant in
    let mid = s.view c.loop-at.store in
    let new = s.view c.read_one.new.store in
    let was : IsClean new → IsClean mid = λ clean. omega (arith, c.read_one.ensures.quiet.clean, clean) in
    record {
      quiet = quiet_then inv.quiet c.read_one.ensures.quiet;
      kept = λ clean. kept_then (inv.kept (was clean)) (c.read_one.ensures.kept clean);
      same = λ clean. c.in_ok-change.ensures.same clean ∙ inv.same (was clean);
      found = λ clean all are.
          let items : c.push.new.self.items ≡ c.loop-at.records.items ++ c.in-Some.change ∷ [] = search rules in
          let table = ap (λ (v : View). v.trees table_tree) (inv.same (was clean)) ∙ are in
          let is = sym c.in-Some.is ∙ c.in_ok-change.ensures.found clean all table in
          items ∙ ap (λ l. l ++ c.in-Some.change ∷ []) (inv.found (was clean) all are) ∙ sym (taken_next c.args.number c.loop-at.at all c.in-Some.change is);
    }

pub returns-in_default-clause-quiet : goal.returns-in_default-clause-quiet
returns-in_default-clause-quiet g c = quiet_then c.loop-at.invariant.quiet c.read_one.ensures.quiet

pub returns-in_default-clause-kept : goal.returns-in_default-clause-kept
returns-in_default-clause-kept g c clean =
    let was : IsClean (g.S.Store.view c.loop-at.store) = omega (arith, c.read_one.ensures.quiet.clean, clean) in
    kept_then (c.loop-at.invariant.kept was) (c.read_one.ensures.kept clean)

pub returns-in_default-clause-same : goal.returns-in_default-clause-same
returns-in_default-clause-same g c clean =
    let was : IsClean (g.S.Store.view c.loop-at.store) = omega (arith, c.read_one.ensures.quiet.clean, clean) in
    c.in_ok-change.ensures.same clean ∙ c.loop-at.invariant.same was

pub returns-in_default-clause-found : goal.returns-in_default-clause-found
returns-in_default-clause-found g c clean all are =
    let inv = c.loop-at.invariant in
    let was : IsClean (g.S.Store.view c.loop-at.store) = omega (arith, c.read_one.ensures.quiet.clean, clean) in
    let table = ap (λ (v : View). v.trees table_tree) (inv.same was) ∙ are in
    inv.found was all are ∙ taken_all c.args.number c.loop-at.at c.args.most all
    (sym c.in_default.is ∙ c.in_ok-change.ensures.found clean all table) (omega (arith, c.loop-at.auto.at-end))

pub returns-then-is_err-clause-quiet : goal.returns-then-is_err-clause-quiet
returns-then-is_err-clause-quiet g c = quiet_then c.loop-at.invariant.quiet c.read_one.ensures.quiet

pub returns-then-is_err-clause-kept : goal.returns-then-is_err-clause-kept
returns-then-is_err-clause-kept g c clean =
    let was : IsClean (g.S.Store.view c.loop-at.store) = omega (arith, c.read_one.ensures.quiet.clean, clean) in
    kept_then (c.loop-at.invariant.kept was) (c.read_one.ensures.kept clean)

pub returns-in_err-change-clause-quiet : goal.returns-in_err-change-clause-quiet
returns-in_err-change-clause-quiet g c = quiet_then c.loop-at.invariant.quiet c.read_one.ensures.quiet

pub loop-at-init : goal.loop-at-init
loop-at-init g c = search rules
