use Rattle.std.proofs.Common.{◌≡◌, ℕ, ◌*◌, ◌++◌, length, take, drop, refl, sym, ap, ap₂, subst, subst₂, ◌∙◌, arith}
use Rattle.std.proofs.Math.Seq.{take-append_seam}
use Rattle.std.proofs.lemmas.List.Elements.{All-replicate}
use Rattle.std.specs.List.{All}
use Rattle.st_label.specs.Reading.{is_true}
use Rattle.st_text.specs.Texts.{is_among}
use Rattle.st_index.specs.inner.Fields.{Counts}
use Rattle.st_scan.specs.Grids.{field_of}
use Rattle.st_scan.proofs.Fields.{are_grid}
use Rattle.st_scan.proofs.grids.grid.Goals as goal

pub returns-clause-grid : goal.returns-clause-grid
returns-clause-grid g c =
    let q = c.args.query.now in
    let auths = c.args.auths.now in
    let nx = c.args.columns in
    let ny = c.args.lines in
    let content = g.I.RowIndex.content c.args.index.now in
    let counts = c.count_fields.new.counts in
    let held = c.in_ok-counts.counts in
    let size : length counts ≡ nx * ny = omega (arith, c.count_fields.auto.counts, ap length c.deref_mut.ensures.value, c.in_ok-counts.ensures.len) in
    let whole : held.len ≡ length counts = omega (arith, size, c.in_ok-counts.ensures.len) in
    let kept : take held.len (counts ++ drop (length counts) held.items) ≡ counts =
    ap (λ n. take n (counts ++ drop (length counts) held.items)) whole ∙ take-append_seam counts (drop (length counts) held.items) in
    let zeros = subst (All (λ (n : ℕ). n ≡ 0)) (sym (c.deref_mut.ensures.value ∙ c.in_ok-counts.ensures.items_if_clones_equal (λ y e. e))) (All-replicate (λ (n : ℕ). n ≡ 0) (nx * ny) 0 refl) in
    let old = c.deref_mut.result.now in
    let found = subst₂ (λ columns lines. Counts q (λ label. is_true (is_among c.new-sight.result.verdicts) label) (field_of q columns lines) content
    old counts) c.new.ensures.shares c.new-2.ensures.shares c.count_fields.ensures in
    let by = subst (λ names. Counts q (λ label. is_true (is_among names) label) (field_of q nx ny) content old counts) c.new-sight.ensures found in
    kept ∙ are_grid q nx ny auths content old counts zeros by size

pub count_fields-requires-clause-long : goal.count_fields-requires-clause-long
count_fields-requires-clause-long g c =
    let fields = ap₂ (λ columns lines. columns * lines) c.new.ensures.shares c.new-2.ensures.shares in
    omega (arith, ap length c.deref_mut.ensures.value, c.in_ok-counts.ensures.len, fields)

pub count_fields-requires-clause-none : goal.count_fields-requires-clause-none
count_fields-requires-clause-none g c =
    subst (All (λ (n : ℕ). n ≡ 0)) (sym (c.deref_mut.ensures.value ∙ c.in_ok-counts.ensures.items_if_clones_equal (λ y e. e))) (All-replicate (λ (n : ℕ). n ≡ 0) (c.args.columns * c.args.lines) 0 refl)
