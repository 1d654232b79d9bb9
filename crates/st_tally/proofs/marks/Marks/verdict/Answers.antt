use Rattle.std.proofs.Common.{◌≡◌, false, length, get_or, map, sym, ap, subst, ◌∙◌, arith}
use Rattle.std.proofs.lemmas.List.{get_or-map, get_or_past, length-map}
use Rattle.st_tally.proofs.marks.Marks.verdict.Goals as goal

pub returns-in-None-clause-verdict : goal.returns-in-None-clause-verdict
returns-in-None-clause-verdict g c =
    let judges = g.J.Judge.judges c.args.judge.now in
    let labels = c.args.self.now.labels.items in
    let count = length-map labels judges in
    sym (get_or_past (map judges labels) c.args.number false (omega (arith, c.in-None.ensures.lookup.3, ap length c.deref.ensures.value, count)))

pub returns-in-Some-clause-verdict : goal.returns-in-Some-clause-verdict
returns-in-Some-clause-verdict g c =
    let judges = g.J.Judge.judges c.args.judge.now in
    let labels = c.args.self.now.labels.items in
    let label = c.in-Some.label.now in
    let read : label ≡ get_or labels c.args.number label = subst (λ ls. label ≡ get_or ls c.args.number label) c.deref.ensures.value c.in-Some.ensures.lookup.1 in
    let same = ap length c.deref.ensures.value in
    c.finds_true.ensures.value ∙ ap judges read ∙ sym (get_or-map judges labels c.args.number label false (omega (arith, c.in-Some.ensures.lookup.3.0, same)))
