use Rattle.std.proofs.Common.{◌≡◌, ◌∙◌, List, drop, rules, arith, ap, take}
use Rattle.st_journal.specs.declared.record.Record.{Record}
use Rattle.st_journal_copy.proofs.Pieces.{compared_all, compared_more, compared_stays}
use Rattle.st_journal_copy.proofs.comparing.compare.Goals as goal

pub returns-in_err-some-clause-crash : goal.returns-in_err-some-clause-crash
returns-in_err-some-clause-crash g c clean left leaves =
    let j = g.J.Journal in
    let was : j.misreads c.pieces.copy ≡ 0 = omega (arith, clean, c.compare_some.ensures.misreads) in
    c.compare_some.ensures.crash clean left leaves ∙ c.pieces.invariant.same was

pub returns-clause-given : goal.returns-clause-given
returns-clause-given g c clean counted =
    let j = g.J.Journal in
    compared_all (g.S.RecordSource.gives c.pieces.source) (j.list c.args.copy.now) c.pieces.at (c.pieces.invariant.has clean)
    (omega (arith, c.pieces.invariant.low, c.pieces-test.false, counted))

pub returns-clause-crash : goal.returns-clause-crash
returns-clause-crash g c clean left leaves =
    g.met.J.Journal.leaves_list c.pieces.copy left clean c.pieces.invariant.ready leaves ∙ c.pieces.invariant.same clean

pub pieces-preserved : goal.pieces-preserved
pieces-preserved g c =
    let j = g.J.Journal in
    let s = g.S.RecordSource in
    let was : j.misreads c.compare_some.new.copy ≡ 0 → j.misreads c.pieces.copy ≡ 0 = λ clean.
    omega (arith, clean, c.compare_some.ensures.misreads) in
    record {
      low = search rules;
      ready = c.in_ok-some.ensures.ready;
      misreads = omega (arith, c.pieces.invariant.misreads, c.compare_some.ensures.misreads);
      same = λ clean. c.in_ok-some.ensures.same clean ∙ c.pieces.invariant.same (was clean);
      has = λ clean.
          let list = j.list c.args.copy.now in
          let had = compared_stays (s.gives c.pieces.source) (s.gives c.compare_some.new.source) c.compare_some.ensures.stays list c.pieces.at
          (c.pieces.invariant.has (was clean)) in
          let equal = c.in_ok-some.ensures.equal in
          compared_more (s.gives c.compare_some.new.source) list equal.0 c.pieces.at c.in_ok-some.some equal.2.0 1024 had equal.1 equal.2.1
          (equal.3 clean ∙ ap (λ (l : List Record). take 1024 (drop c.pieces.at l)) (c.pieces.invariant.same (was clean)));
      stays = λ from most piece gave. c.compare_some.ensures.stays from most piece (c.pieces.invariant.stays from most piece gave);
    }
