use Rattle.std.proofs.Common.{◌≡◌, ℕ, [], refl, sym, ap, ◌∙◌}
use Rattle.std.proofs.lemmas.List.Elements.{All-cons, All-nil}
use Rattle.std.proofs.lemmas.List.Sums.{length-filter}
use Rattle.st_label.specs.Reading.{is_true}
use Rattle.st_text.specs.Texts.{is_among}
use Rattle.st_index.specs.inner.Counting.{count_of}
use Rattle.st_scan.specs.Visible.{is_visible_inside}
use Rattle.st_scan.proofs.Counting.{one_field}
use Rattle.st_scan.proofs.counts.count.Goals as goal

pub returns-then-count_few : goal.returns-then-count_few
returns-then-count_few g c =
    let q = c.args.query.now in
    let content = g.I.RowIndex.content c.args.index.now in
    c.count_few.ensures.counts c.if-count_few.true 0
    ∙ one_field q (λ label. is_true (is_among c.new-sight.result.verdicts) label) content
    ∙ ap (λ names. count_of q (λ label. is_true (is_among names) label) content) c.new-sight.ensures
    ∙ sym (length-filter (is_visible_inside q c.args.auths.now) content)

pub returns : goal.returns
returns g c =
    let q = c.args.query.now in
    let content = g.I.RowIndex.content c.args.index.now in
    c.count.ensures
    ∙ ap (λ judges. count_of q judges content) c.count_few.ensures.same
    ∙ ap (λ names. count_of q (λ label. is_true (is_among names) label) content) c.new-sight.ensures
    ∙ sym (length-filter (is_visible_inside q c.args.auths.now) content)

pub count_few-requires-clause-none : goal.count_few-requires-clause-none
count_few-requires-clause-none g c = All-cons (λ (n : ℕ). n ≡ 0) 0 [] refl (All-nil (λ (n : ℕ). n ≡ 0))
