use Rattle.std.proofs.Common.{inl, inr, ap, sym, ◌∙◌, reverse}
use Rattle.st_label.specs.inner.Truth.{stage_of}
use Rattle.st_label.proofs.Judged.{at_start, further, stops_at, deep_at, ends_well, ends_at}
use Rattle.st_label.proofs.truth.judge.Goals as goal

pub loop-at-init : goal.loop-at-init
loop-at-init g c = at_start (g.N.Names.among c.args.names.now) c.args.text.now (stage_of c.new-pass.result) (ap reverse c.new-pass.ensures.outer) c.new-pass.ensures.level c.new-pass.ensures.unit

pub returns-in-Err-NotViable-clause-fault : goal.returns-in-Err-NotViable-clause-fault
returns-in-Err-NotViable-clause-fault g c =
    let none = rw c.in-Err-NotViable.field-0-is at c.in-Err-NotViable.ensures in
    (c.requires, inl (stops_at (g.N.Names.among c.args.names.now) c.args.text.now c.loop-at.at (stage_of c.loop-at.pass) c.loop-at-test.true c.loop-at.invariant none))

pub returns-in-Err-TooDeep-clause-fault : goal.returns-in-Err-TooDeep-clause-fault
returns-in-Err-TooDeep-clause-fault g c =
    let deep = rw c.in-Err-TooDeep.field-0-is at c.in-Err-TooDeep.ensures in
    (c.requires, deep_at (g.N.Names.among c.args.names.now) c.args.text.now c.loop-at.at (stage_of c.loop-at.pass) deep.2 deep.1 c.loop-at-test.true c.loop-at.invariant deep.0 deep.3)

pub loop-at-preserved : goal.loop-at-preserved
loop-at-preserved g c = further (g.N.Names.among c.args.names.now) c.args.text.now c.loop-at.at (stage_of c.loop-at.pass) (stage_of c.step.new.self)
    c.loop-at-test.true c.loop-at.invariant c.in-Ok.ensures

pub returns-in-Some-clause-label : goal.returns-in-Some-clause-label
returns-in-Some-clause-label g c =
    let whole = ends_well (g.N.Names.among c.args.names.now) c.args.text.now c.loop-at.at (stage_of c.loop-at.pass) c.in-Some.truth c.requires
    c.loop-at-test.false c.loop-at.invariant (sym c.finish.ensures ∙ c.in-Some.is) in whole.0

pub returns-in-Some-clause-truth : goal.returns-in-Some-clause-truth
returns-in-Some-clause-truth g c =
    let whole = ends_well (g.N.Names.among c.args.names.now) c.args.text.now c.loop-at.at (stage_of c.loop-at.pass) c.in-Some.truth c.requires
    c.loop-at-test.false c.loop-at.invariant (sym c.finish.ensures ∙ c.in-Some.is) in whole.1

pub returns-in-None-clause-fault : goal.returns-in-None-clause-fault
returns-in-None-clause-fault g c =
    (c.requires, inr (ends_at (g.N.Names.among c.args.names.now) c.args.text.now c.loop-at.at (stage_of c.loop-at.pass) c.loop-at-test.false c.loop-at.invariant (sym c.finish.ensures ∙ c.in-None.is)))
