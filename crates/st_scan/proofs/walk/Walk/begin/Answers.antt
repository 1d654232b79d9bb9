use Rattle.std.proofs.Common.{◌≤◌, ◌∙◌, sym, subst, arith}
use Rattle.st_key.specs.Key.{rank}
use Rattle.st_index.specs.inner.Index.{Follow}
use Rattle.st_index.specs.inner.Entries.{key_end}
use Rattle.st_scan.specs.inner.Rows.{has_row_from}
use Rattle.st_scan.specs.inner.Steps.{AreExact, IsOwnExact}
use Rattle.st_scan.proofs.Steps.{begin}
use Rattle.st_scan.proofs.Visible.{filter_le}
use Rattle.st_scan.proofs.walk.Walk.begin.Goals as goal

pub invariant_of-result : goal.invariant_of-result
invariant_of-result g c =
    let test = c.new.result in
    let same = sym (c.new.ensures.period ∙ c.period.ensures.value) in
    let query = sym c.new.ensures.query in
    let regions = g.I.RowIndex.regions c.args.index.now in
    record {
      same_period = c.new.ensures.period ∙ c.period.ensures.value;
      exact = subst (λ q. AreExact test.period q c.args.parts.items) query (subst (λ p. AreExact p c.args.query.now c.args.parts.items) same c.requires.exact);
      own_exact = subst (λ q. IsOwnExact test.period q c.args.own) query (subst (λ p. IsOwnExact p c.args.query.now c.args.own) same c.requires.own);
      follow = subst (λ p. Follow 0 (key_end p) regions) same c.period.ensures.lawful.follow;
      few = c.period.ensures.lawful.regions_count;
      at = begin test.period test.query regions (rank c.args.from) (subst (λ p. rank c.args.from ≤ key_end p) same c.requires.in_period);
    }

pub returns-clause-few : goal.returns-clause-few
returns-clause-few g c =
    let test = c.new.result in
    let le = filter_le (has_row_from test.period test.query (rank c.args.from)) (g.I.RowIndex.content c.args.index.now) in
    omega (arith, le, c.period.ensures.lawful.count)
