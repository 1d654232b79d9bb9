use Rattle.std.proofs.Common.{◌+◌, ◌<◌, sym, subst}
use Rattle.st_key.specs.Key.{rank}
use Rattle.st_key.specs.Period.{bins_of}
use Rattle.st_index.specs.inner.Index.{IsLeafAt, region}
use Rattle.st_scan.proofs.Keys.{after_place, bin_below, from_rank, rank_before, rank_from}
use Rattle.st_scan.proofs.Regions.{is_in}
use Rattle.st_scan.proofs.step.open_next.Goals as goal

pub returns-in_default-clause-none : goal.returns-in_default-clause-none
returns-in_default-clause-none g c k has = rank_before k c.args.from (c.in_default.ensures.none k has)

pub returns-clause-some : goal.returns-clause-some
returns-clause-some g c =
    let w = c.args.test.now.period in
    let content = g.I.RowIndex.content c.args.index.now in
    let key = c.in-Some.key in
    let ff = c.in-Some.ensures.some in
    let one = region (rank c.leaf_at-leaf.result.first) (rank c.leaf_at-leaf.result.last) in
    let leaf = subst (λ p. IsLeafAt p (rank key) content one c.leaf_at-leaf.result.entries.now) (sym c.requires) c.leaf_at-leaf.ensures.leaf in
    let skips = c.entries_from-entries.ensures w (rank c.leaf_at-leaf.result.last + 1) leaf.rising in
    record {
      region = one;
      one = is_in (g.I.RowIndex.regions c.args.index.now) one c.leaf_at-leaf.ensures.of_regions;
      key = key;
      inside = ff.inside;
      from_start = rank_from key c.args.from ff.from_there;
      first = λ k has le. rank_from k key (ff.first k has (from_rank k c.args.from le));
      skipped = skips.skipped;
      leaf = subst (IsLeafAt w (rank key) content one) skips.is leaf;
      before = skips.before;
      after = skips.after;
      next_is = after_place w c.after.result _ c.after.ensures.rank c.after.ensures.last;
    }

pub after-requires : goal.after-requires
after-requires g c =
    subst (λ p. c.leaf_at-leaf.result.last.bin < bins_of p) (sym c.requires)
    (bin_below c.leaf_at-leaf.result.last.bin c.leaf_at-leaf.result.last.address (bins_of (g.I.RowIndex.period_of c.args.index.now)) c.leaf_at-leaf.ensures.leaf.within)
