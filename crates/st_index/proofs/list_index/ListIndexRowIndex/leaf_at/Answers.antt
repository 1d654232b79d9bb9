use Rattle.std.proofs.Common.{◌≡◌, ◌+◌, ◌-◌, [], subst, sym, ap, arith}
use Rattle.std.proofs.lemmas.List.{append-nil}
use Rattle.st_key.specs.Key.{rank}
use Rattle.st_index.specs.inner.ListValue.{ListValue}
use Rattle.st_index.specs.inner.Entries.{EntriesRise, key_end, rows_of}
use Rattle.st_index.specs.inner.Index.{region}
use Rattle.st_index.proofs.list_index.ListIndexRowIndex.leaf_at.Goals as goal

pub returns-clause-leaf : goal.returns-clause-leaf
returns-clause-leaf g c =
    let end : rank c.last.result + 1 ≡ key_end c.self.inside.period = c.last.ensures.rank in
    let same : key_end c.self.inside.period ≡ key_end c.args.self.now.period = ap (λ (s : ListValue g.row.A.Denot). key_end s.period) c.self.view_is in
    rw (c.as_slice.ensures.value, ← c.self.view_is) (record {
      from = omega arith;
      to = let q = c.requires in omega (arith, q, end, same);
      within = omega (arith, end);
      before = [];
      after = [];
      parts = sym (append-nil (rows_of c.self.inside.entries.items));
      earlier = λ k d l. absurd (omega (arith, l));
      later = λ k d l. absurd (omega (arith, l));
      rising = subst (λ n. EntriesRise c.self.inside.period 0 n c.self.inside.entries.items) (sym end) c.self.invariant.0;
    })

pub returns-clause-of_regions : goal.returns-clause-of_regions
returns-clause-of_regions g c =
    let end : rank c.last.result + 1 ≡ key_end c.self.inside.period = c.last.ensures.rank in
    let same : key_end c.self.inside.period ≡ key_end c.args.self.now.period = ap (λ (s : ListValue g.row.A.Denot). key_end s.period) c.self.view_is in
    let is : key_end c.args.self.now.period - 1 ≡ rank c.last.result = omega (arith, end, same) in
    (0, omega arith, ap (λ n. region 0 n) is)
