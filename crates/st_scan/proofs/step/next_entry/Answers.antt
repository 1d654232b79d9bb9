use Rattle.std.proofs.Common.{sym, subst, ◌∙◌}
use Rattle.std.proofs.lemmas.List.Elements.{All-head}
use Rattle.std.proofs.Math.Bool.{true≢false}
use Rattle.std.specs.List.{All}
use Rattle.st_index.specs.inner.Entries.{IsEntry}
use Rattle.st_scan.proofs.Keys.{by_key, has_by_row}
use Rattle.st_scan.proofs.Entries.{Passed, all_right, pass_all, pass_more}
use Rattle.st_scan.proofs.step.next_entry.Goals as goal

pub returns-then-has_key-clause-some : goal.returns-then-has_key-clause-some
returns-then-has_key-clause-some g c =
    let q = c.args.test.now.query in
    let w = c.args.test.now.period in
    let is = c.in-Some.ensures.cases.0 in
    let p = subst (Passed q c.args.entries.now) is c.loop-entry.invariant in
    let entry = All-head (IsEntry w) _ _ (all_right (IsEntry w) p.passed _ (subst (All (IsEntry w)) p.is c.requires.keyed)) in
    let has = c.has_key.ensures.0 c.if-has_key.true in
    record {
      passed = p.passed;
      entry = c.in-Some.entry.now;
      is = p.is;
      rows_are = c.rows_of_entry.ensures;
      outside = p.outside;
      inside = λ k d l. by_key w q _ _ (entry.placed k d l ∙ sym c.key_of.ensures) has;
      some = λ e. entry.held (sym c.rows_of_entry.ensures ∙ e);
    }

pub loop-entry-preserved : goal.loop-entry-preserved
loop-entry-preserved g c =
    let q = c.args.test.now.query in
    let w = c.args.test.now.period in
    let is = c.in-Some.ensures.cases.0 in
    let p = subst (Passed q c.args.entries.now) is c.loop-entry.invariant in
    let entry = All-head (IsEntry w) _ _ (all_right (IsEntry w) p.passed _ (subst (All (IsEntry w)) p.is c.requires.keyed)) in
    pass_more q c.args.entries.now _ _ p
    (λ k d l inside. true≢false (sym (c.has_key.ensures.1 (has_by_row w q _ _ (entry.placed k d l ∙ sym c.key_of.ensures) inside)) ∙ c.if-has_key.false))

pub returns-clause-none : goal.returns-clause-none
returns-clause-none g c = pass_all c.args.test.now.query c.args.entries.now c.loop-entry.ahead.now c.loop-entry.invariant c.in_default.ensures.cases
