use Rattle.std.proofs.Common.{◌+◌, ◌<◌, refl, sym, ap, subst, ◌∙◌, arith}
use Rattle.st_key.specs.declared.key.Key.{Key}
use Rattle.st_key.specs.Key.{rank}
use Rattle.st_box.specs.Query.{HasKey}
use Rattle.st_scan.specs.inner.Steps.{IsAt, left_at, rank_or_end}
use Rattle.st_scan.proofs.Keys.{has_below}
use Rattle.st_scan.proofs.Positions.{over, step_at, step_fits, step_left, step_on}
use Rattle.st_scan.proofs.step.enter_region.Goals as goal

pub returns-in_default-clause-none : goal.returns-in_default-clause-none
returns-in_default-clause-none g c =
    let w = c.args.test.now.period in
    let q = c.args.test.now.query in
    let none : (k : Key) → HasKey q w k → rank k < rank_or_end w c.args.at.next = λ k has. subst (λ n. rank k < rank_or_end w n) (sym c.in_default.is) (has_below q w k has) in
    over w q (g.I.RowIndex.content c.args.index.now) (g.I.RowIndex.regions c.args.index.now) c.args.at c.requires.at c.requires.rows c.requires.entries none

pub returns-in_default-open_next-clause-none : goal.returns-in_default-open_next-clause-none
returns-in_default-open_next-clause-none g c =
    let w = c.args.test.now.period in
    let q = c.args.test.now.query in
    let none : (k : Key) → HasKey q w k → rank k < rank_or_end w c.args.at.next =
    λ k has. subst (λ n. rank k < rank_or_end w n) (sym c.in-Some.is) (c.in_default-open_next.ensures.none k has) in
    over w q (g.I.RowIndex.content c.args.index.now) (g.I.RowIndex.regions c.args.index.now) c.args.at c.requires.at c.requires.rows c.requires.entries none

pub overflow_add-result : goal.overflow_add-result
overflow_add-result g c =
    let fits = step_fits c.args.test.now.period c.args.test.now.query (g.I.RowIndex.content c.args.index.now) (g.I.RowIndex.regions c.args.index.now)
    c.args.at c.in-Some.from c.in-Some-open_next.entries.now _ c.in-Some.is
    c.in-Some-open_next.ensures.some c.requires.follow c.requires.at c.requires.rows c.requires.few in
    omega (arith, fits)

pub returns-clause-some : goal.returns-clause-some
returns-clause-some g c =
    let w = c.args.test.now.period in
    let q = c.args.test.now.query in
    let content = g.I.RowIndex.content c.args.index.now in
    let regions = g.I.RowIndex.regions c.args.index.now in
    let p = c.args.at in
    let from = c.in-Some.from in
    let entries = c.in-Some-open_next.entries.now in
    let next = rank_or_end w c.in-Some-open_next.next in
    let o = c.in-Some-open_next.ensures.some in
    record {
      at = subst (λ xs. IsAt w q regions (rank p.start) xs entries next (p.opened + 1)) (sym c.requires.rows)
          (step_at w q content regions p from entries next c.in-Some.is o c.requires.follow c.requires.at c.requires.rows);
      start = refl;
      spent = c.requires.rows;
      left =
          ap (λ xs. left_at w q content xs entries next) c.requires.rows
          ∙ step_left w q content regions p from entries next c.in-Some.is o c.requires.follow c.requires.at c.requires.rows c.requires.entries;
      on = step_on w q content regions p from entries next c.in-Some.is o c.requires.follow c.requires.at c.requires.rows;
    }
