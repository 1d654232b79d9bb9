use Rattle.std.proofs.Common.{◌<◌, ◌^◌, List, length, sym, ap, subst, ◌∙◌}
use Rattle.st_index.specs.inner.Counting.{count_of}
use Rattle.st_index.specs.inner.ListValue.{ListValue}
use Rattle.st_index.specs.inner.Entries.{EntryValue, rows_of}
use Rattle.st_index.proofs.list_index.ListIndexRowIndex.count.Goals as goal

pub count-requires : goal.count-requires
count-requires g c =
    subst (λ (es : List (EntryValue g.row.A.Denot)). length (rows_of es) < 2 ^ 64) (sym c.deref.ensures.value)
    (subst (λ n. n < 2 ^ 64) c.self.invariant.1 c.self.invariant.2)

pub returns : goal.returns
returns g c =
    let counted = λ (es : List (EntryValue g.row.A.Denot)). count_of c.args.query.now (g.J.Judge.judges c.args.judge.now) (rows_of es) in
    c.count.ensures.count ∙ ap counted (c.deref.ensures.value ∙ ap (λ (v : ListValue g.row.A.Denot). v.entries) c.self.view_is)
