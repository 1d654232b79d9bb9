use Rattle.std.proofs.Common.{◌≡◌, ◌+◌, rules, arith}
use Rattle.st_journal_copy.proofs.Pieces.{goes_stays, grown, left_goes}
use Rattle.st_journal_copy.proofs.follow.follow.Goals as goal

pub returns-in_err-some-clause-crash : goal.returns-in_err-some-clause-crash
returns-in_err-some-clause-crash g c counted clean left leaves =
    let j = g.J.Journal in
    let was : j.misreads c.pieces.copy ≡ 0 = omega (arith, clean, c.append_some.ensures.misreads) in
    let had = c.pieces.invariant.has was counted in
    left_goes (g.S.RecordSource.gives c.append_some.new.source) (j.list c.args.copy.now) (j.list c.pieces.copy) left c.pieces.now _
    (goes_stays (g.S.RecordSource.gives c.pieces.source) (g.S.RecordSource.gives c.append_some.new.source) c.append_some.ensures.stays _ _ had.0) had.1 (c.append_some.ensures.crash clean left leaves)

pub returns-in_default-clause-crash : goal.returns-in_default-clause-crash
returns-in_default-clause-crash g c counted clean left leaves =
    let j = g.J.Journal in
    let was : j.misreads c.pieces.copy ≡ 0 = omega (arith, clean, c.append_some.ensures.misreads) in
    let had = c.pieces.invariant.has was counted in
    left_goes (g.S.RecordSource.gives c.append_some.new.source) (j.list c.args.copy.now) (j.list c.pieces.copy) left c.pieces.now _
    (goes_stays (g.S.RecordSource.gives c.pieces.source) (g.S.RecordSource.gives c.append_some.new.source) c.append_some.ensures.stays _ _ had.0) had.1 (c.append_some.ensures.crash clean left leaves)

pub returns-then-some-clause-crash : goal.returns-then-some-clause-crash
returns-then-some-clause-crash g c counted clean left leaves =
    let j = g.J.Journal in
    let was : j.misreads c.pieces.copy ≡ 0 = omega (arith, clean, c.append_some.ensures.misreads) in
    let had = c.pieces.invariant.has was counted in
    left_goes (g.S.RecordSource.gives c.append_some.new.source) (j.list c.args.copy.now) (j.list c.pieces.copy) left c.pieces.now _
    (goes_stays (g.S.RecordSource.gives c.pieces.source) (g.S.RecordSource.gives c.append_some.new.source) c.append_some.ensures.stays _ _ had.0) had.1 (c.append_some.ensures.crash clean left leaves)

pub returns-then-some-clause-goes_on : goal.returns-then-some-clause-goes_on
returns-then-some-clause-goes_on g c clean counted =
    let j = g.J.Journal in
    let was : j.misreads c.pieces.copy ≡ 0 = omega (arith, clean, c.append_some.ensures.misreads) in
    let had = c.pieces.invariant.has was counted in
    let appended = c.in_ok-some.ensures.appended in
    let total : c.in-Some.sum ≡ c.pieces.now + c.in_ok-some.some = search rules in
    grown (g.S.RecordSource.gives c.append_some.new.source) (j.list c.args.copy.now) (j.list c.pieces.copy)
    (j.list c.append_some.new.copy) appended.0 c.pieces.now c.in_ok-some.some c.in-Some.sum _
    (goes_stays (g.S.RecordSource.gives c.pieces.source) (g.S.RecordSource.gives c.append_some.new.source) c.append_some.ensures.stays _ _ had.0) had.1 appended.1 appended.2 (appended.3 clean) total

pub pieces-preserved : goal.pieces-preserved
pieces-preserved g c =
    let j = g.J.Journal in
    record {
      ready = c.in_ok-some.ensures.ready;
      misreads = omega (arith, c.pieces.invariant.misreads, c.append_some.ensures.misreads);
      has = λ clean counted.
          let was : j.misreads c.pieces.copy ≡ 0 = omega (arith, clean, c.append_some.ensures.misreads) in
          let had = c.pieces.invariant.has was counted in
          let appended = c.in_ok-some.ensures.appended in
          let total : c.in-Some.sum ≡ c.pieces.now + c.in_ok-some.some = search rules in
          grown (g.S.RecordSource.gives c.append_some.new.source) (j.list c.args.copy.now) (j.list c.pieces.copy) (j.list c.append_some.new.copy)
          appended.0 c.pieces.now c.in_ok-some.some c.in-Some.sum _
          (goes_stays (g.S.RecordSource.gives c.pieces.source) (g.S.RecordSource.gives c.append_some.new.source) c.append_some.ensures.stays _ _
          had.0) had.1 appended.1 appended.2 (appended.3 clean) total;
      stays = λ from most piece gave. c.append_some.ensures.stays from most piece (c.pieces.invariant.stays from most piece gave);
    }
