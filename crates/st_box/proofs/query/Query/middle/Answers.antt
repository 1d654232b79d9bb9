use Rattle.std.proofs.Common.{◌≡◌, ◌+◌, ◌-◌, ap, sym, subst, refl, arith}
use Rattle.st_key.specs.Period.{seconds_of}
use Rattle.st_key.proofs.PeriodLemmas.{period}
use Rattle.st_box.specs.inner.Edges.{IsLastOffset}
use Rattle.st_box.proofs.Parts.{middle_cut}
use Rattle.st_box.proofs.Spans.{box_in, starts_before, ends_after}
use Rattle.st_box.proofs.query.Query.middle.Goals as goal

pub returns : goal.returns
returns c =
    let q = c.args.self.now in
    let w = c.args.period in
    let p = period w in
    let e : seconds_of w - 1 ≡ c.seconds.result - 1 = ap (λ s. s - 1) (sym c.seconds.ensures) in
    record {
      cut = middle_cut q _ _ _ _ _ _ (ap (λ b. b + 1) c.requires.first) (ap (λ b. b - 1) c.requires.last) (sym e);
      keys = λ bin after before. box_in q w bin _ (record {
        x_first = refl;
        x_last = refl;
        y_first = refl;
        y_last = refl;
        starts = starts_before w bin q.t0 after;
        ends = subst (IsLastOffset w bin q.t1) e (ends_after w bin q.t1 before);
        offset_below = omega (arith, c.seconds.ensures, p.some);
      });
    }
