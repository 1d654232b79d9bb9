use Rattle.std.proofs.Common.{◌≡◌, inr, List, length, arith, ap, sym, subst, ◌∙◌}
use Rattle.st_journal.specs.declared.record.Record.{Record}
use Rattle.st_journal_copy.specs.Following.{GoesOn}
use Rattle.st_journal_copy.proofs.Pieces.{goes_none, goes_whole, if_ok, on_ok, whole_stays}
use Rattle.st_journal_copy.proofs.follow.bring_up.Goals as goal

pub returns-in_err-compare-clause-crash : goal.returns-in_err-compare-clause-crash
returns-in_err-compare-clause-crash g c counted clean left leaves =
    let gives = g.S.RecordSource.gives c.compare.new.source in
    let old = g.J.Journal.list c.args.copy.now in
    subst (GoesOn gives old) (sym (c.compare.ensures.crash clean left leaves)) (goes_none gives old)

pub returns-clause-goes_on : goal.returns-clause-goes_on
returns-clause-goes_on g c =
    let j = g.J.Journal in
    let gives = g.S.RecordSource.gives c.follow-2.new.source in
    if_ok _ _ c.follow-2.result (λ now goes clean counted.
    let mid : j.misreads c.compare.new.copy ≡ 0 = omega (arith, clean, c.follow-2.ensures.misreads) in
    let same = c.in_ok-compare.ensures.same mid in
    let on = goes clean (counted ∙ ap length (sym same)) in
    (subst (λ (l : List Record). GoesOn gives l (j.list c.follow-2.new.copy)) same on.0, on.1))
    c.follow-2.ensures.goes_on

pub returns-clause-whole : goal.returns-clause-whole
returns-clause-whole g c =
    let j = g.J.Journal in
    let gives = g.S.RecordSource.gives c.follow-2.new.source in
    on_ok _ _ c.follow-2.result (λ now goes unknown clean counted.
    let mid : j.misreads c.compare.new.copy ≡ 0 = omega (arith, clean, c.follow-2.ensures.misreads) in
    let same = c.in_ok-compare.ensures.same mid in
    let on = goes clean (counted ∙ ap length (sym same)) in
    let given = whole_stays (g.S.RecordSource.gives c.compare.new.source) gives c.follow-2.ensures.stays (j.list c.args.copy.now)
    (c.in_ok-compare.ensures.given mid counted) in
    goes_whole gives (j.list c.args.copy.now) (j.list c.follow-2.new.copy) given
    (subst (λ (l : List Record). GoesOn gives l (j.list c.follow-2.new.copy)) same on.0))
    c.follow-2.ensures.goes_on

pub returns-clause-crash : goal.returns-clause-crash
returns-clause-crash g c counted clean left leaves =
    let j = g.J.Journal in
    let gives = g.S.RecordSource.gives c.follow-2.new.source in
    let mid : j.misreads c.compare.new.copy ≡ 0 = omega (arith, clean, c.follow-2.ensures.misreads) in
    let same = c.in_ok-compare.ensures.same mid in
    subst (λ (l : List Record). GoesOn gives l left) same (c.follow-2.ensures.crash (counted ∙ ap length (sym same)) clean left leaves)

pub returns-clause-foreign : goal.returns-clause-foreign
returns-clause-foreign g c unknown counted clean left leaves =
    let j = g.J.Journal in
    let gives = g.S.RecordSource.gives c.follow-2.new.source in
    let mid : j.misreads c.compare.new.copy ≡ 0 = omega (arith, clean, c.follow-2.ensures.misreads) in
    let same = c.in_ok-compare.ensures.same mid in
    let given = whole_stays (g.S.RecordSource.gives c.compare.new.source) gives c.follow-2.ensures.stays (j.list c.args.copy.now)
    (c.in_ok-compare.ensures.given mid counted) in
    inr (goes_whole gives (j.list c.args.copy.now) left given
    (subst (λ (l : List Record). GoesOn gives l left) same (c.follow-2.ensures.crash (counted ∙ ap length (sym same)) clean left leaves)))
