use Rattle.std.proofs.Common.{◌≡◌, ℕ, refl, sym, subst}
use Rattle.std.proofs.lemmas.List.Elements.{All-replicate}
use Rattle.std.specs.List.{All}
use Rattle.st_index.specs.inner.Fields.{Counts}
use Rattle.st_scan.proofs.Counting.{same_zeros}
use Rattle.st_scan.proofs.grids.count_fields.Goals as goal

pub count_fields-requires-clause-none : goal.count_fields-requires-clause-none
count_fields-requires-clause-none g c = subst (All (λ (n : ℕ). n ≡ 0)) (sym (c.fill.ensures.after (λ y e. e))) (All-replicate (λ (n : ℕ). n ≡ 0) _ 0 refl)

pub returns : goal.returns
returns g c =
    let q = g.F.Fields.query c.args.fields.now in
    let judges = g.J.Judge.judges c.args.judge.now in
    let field_of = g.F.Fields.field_of c.args.fields.now in
    let content = g.I.RowIndex.content c.args.index.now in
    let new = c.count_fields.new.counts in
    let zeros = subst (All (λ (n : ℕ). n ≡ 0)) (sym (c.fill.ensures.after (λ y e. e))) (All-replicate (λ (n : ℕ). n ≡ 0) _ 0 refl) in
    let counts = subst (λ j. Counts q j field_of content c.fill.new.self new) c.count_few.ensures.same c.count_fields.ensures in
    same_zeros q judges field_of content c.args.counts.now c.fill.new.self new c.requires.none zeros counts
