use Rattle.std.proofs.Common.{rules, [], ◌∷◌, map, ap, ◌∙◌}
use Rattle.std.specs.Cmp.Lexicographic.{slice_cmp}
use Rattle.std.specs.Ordering.{nat_cmp, is_lt}
use Rattle.std.proofs.lemmas.Cmp.{nat_list_cmp_total}
use Rattle.std.proofs.lemmas.Fn.{always_returns_same}
use Rattle.std.proofs.lemmas.List.Sorted.{ranks_by}
use Rattle.st_text.specs.Texts.{Text}
use Rattle.st_index.specs.declared.row.Row.{Row}
use Rattle.st_index.specs.declared.row_view.RowView.{RowView}
use Rattle.st_index.specs.RowViews.{row_of_view}
use Rattle.st_table.proofs.Sorting.{map_in_order, stably_sorted}
use Rattle.st_table.proofs.lookup.sort_by_label.Goals as goal

pub returns : goal.returns
returns g c =
    let R = Row g.row.A.Denot in
    let label : RowView g.row.A.Denot → Text = λ row. (row_of_view row).label in
    let order = ranks_by nat_list_cmp_total label in
    let sorted = c.in_ok-sort_by.ensures.sorted (λ x y. is_lt (slice_cmp nat_cmp (label x) (label y))) order (always_returns_same _ _ _ (λ a r f' k. search rules)) in
    let stable = c.in_ok-sort_by.ensures.stable (λ x y. is_lt (slice_cmp nat_cmp (label x) (label y))) order (always_returns_same _ _ _ (λ a r f' k. search rules)) in
    let rows : RowView g.row.A.Denot → R = row_of_view in
    ap (map rows) (stably_sorted label c.args.rows.now.items c.sort_by.new.self.items sorted stable) ∙ map_in_order rows (λ row. row.label ∷ []) c.args.rows.now.items
