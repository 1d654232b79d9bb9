use Rattle.std.proofs.Common.{◌≡◌, ◌/◌, ◌≤◌, true, false, sym, ◌∙◌, subst, arith}
use Rattle.st_key.specs.Morton.{offset_of}
use Rattle.st_key.proofs.MortonLemmas.{gather-lt}
use Rattle.st_key.proofs.PeriodLemmas.{period}
use Rattle.st_box.specs.inner.Bins.{first_offset_of, last_offset_of}
use Rattle.st_box.proofs.KeyTests.{between, first_below, last_below}
use Rattle.st_box.proofs.key_test.KeyTest.has_time.Goals as goal

pub returns-then-has_bin : goal.returns-then-has_bin
returns-then-has_bin c =
    let test = c.args.self.now in
    let q = test.query in
    let w = test.period in
    let a = c.args.address in
    let bins = c.has_bin.ensures.0 c.if-has_bin.true in
    let few = (period w).levels in
    let t =
    between c.first_in.result c.last_in.result c.spread_in.result (first_offset_of w q.t0 c.args.bin) (last_offset_of w q.t1 c.args.bin) (offset_of a)
    c.first_in.ensures c.last_in.ensures c.spread_in.ensures
    (omega (arith, few, first_below w q.t0 c.args.bin)) (omega (arith, few, last_below w q.t1 c.args.bin)) (gather-lt 21 (a / 4)) in (
      λ held.
          let inside = t.0 (c.is_between.ensures.0 held) in
          record {
            from_first_bin = subst (λ n. n ≤ c.args.bin) test.first_bin_is bins.0;
            to_last_bin = subst (λ n. c.args.bin ≤ n) test.last_bin_is bins.1;
            from_first = inside.0;
            to_last = inside.1;
          },
      λ there. c.is_between.ensures.1 (t.1 (there.from_first, there.to_last)),
    )

pub returns-else-has_bin : goal.returns-else-has_bin
returns-else-has_bin c =
    let test = c.args.self.now in (
      λ held. absurd (let clash : false ≡ true = sym c.if-has_bin.false ∙ held in cc),
      λ there. c.has_bin.ensures.1 (subst (λ n. n ≤ c.args.bin) (sym test.first_bin_is) there.from_first_bin, subst (λ n. c.args.bin ≤ n) (sym test.last_bin_is) there.to_last_bin),
    )
