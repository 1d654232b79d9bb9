use Rattle.std.proofs.Common.{rules, [], ◌∷◌, filter, map, sym, ap, subst, ◌∙◌}
use Rattle.std.proofs.lemmas.List.{length-map, map-append}
use Rattle.std.specs.Option.{option_copied}
use Rattle.st_index.specs.RowViews.{row_of_view}
use Rattle.st_scan.specs.inner.Starts.{is_shown}
use Rattle.st_scan.proofs.Filling.{Fills, fill_push, more_more, one_fewer, rows_end, rows_more, shown_so}
use Rattle.st_scan.proofs.paging.fill.Goals as goal

pub returns-then-len-limit-clause-rows : goal.returns-then-len-limit-clause-rows
returns-then-len-limit-clause-rows g c =
    let shown = is_shown c.args.period (option_copied c.args.after) c.args.verdicts.now in
    let rows = map row_of_view c.rows.rows.items in
    let all = filter shown c.args.walk.now.left in
    let fills = subst (λ left. Fills shown c.args.limit rows left all) c.in-Some.ensures.some c.rows.invariant.fills in
    rows_more shown c.args.limit rows c.next.new.self.left all (row_of_view c.in-Some.row) fills (search rules)
    (length-map c.rows.rows.items row_of_view ∙ search rules)

pub returns-then-len-limit-clause-more : goal.returns-then-len-limit-clause-more
returns-then-len-limit-clause-more g c =
    let shown = is_shown c.args.period (option_copied c.args.after) c.args.verdicts.now in
    let rows = map row_of_view c.rows.rows.items in
    let all = filter shown c.args.walk.now.left in
    let fills = subst (λ left. Fills shown c.args.limit rows left all) c.in-Some.ensures.some c.rows.invariant.fills in
    more_more shown c.args.limit rows c.next.new.self.left all (row_of_view c.in-Some.row) fills (search rules)
    (length-map c.rows.rows.items row_of_view ∙ search rules)

pub rows-preserved-then-ask : goal.rows-preserved-then-ask
rows-preserved-then-ask g c =
    let shown = is_shown c.args.period (option_copied c.args.after) c.args.verdicts.now in
    let before = c.rows.rows.items in
    let rows = map row_of_view before in
    let all = filter shown c.args.walk.now.left in
    let fills = subst (λ left. Fills shown c.args.limit rows left all) c.in-Some.ensures.some c.rows.invariant.fills in
    let put = ap (map row_of_view) c.in_ok-push.ensures.items ∙ map-append row_of_view before (c.in-Some.row ∷ []) in
    record {
      fills = subst (λ rs. Fills shown c.args.limit rs c.next.new.self.left all) (sym put)
          (fill_push shown c.args.limit rows c.next.new.self.left all (row_of_view c.in-Some.row) fills
          (shown_so _ c.rows.verdicts c.args.verdicts.now _ _ c.if-is_past.ensures c.if-ask.ensures.value c.label.ensures c.rows.invariant.set)
          (λ e. c.if-len-limit.false (c.len.ensures ∙ c.rows.rows.ok.0 ∙ sym (length-map before row_of_view) ∙ e)));
      set = c.ask.ensures.set ∙ c.rows.invariant.set;
    }

pub rows-smaller-then-ask : goal.rows-smaller-then-ask
rows-smaller-then-ask g c = one_fewer c.rows.walk.left c.next.new.self.left (row_of_view c.in-Some.row) c.in-Some.ensures.some

pub returns-clause-rows : goal.returns-clause-rows
returns-clause-rows g c =
    let shown = is_shown c.args.period (option_copied c.args.after) c.args.verdicts.now in
    let rows = map row_of_view c.rows.rows.items in
    let all = filter shown c.args.walk.now.left in
    rows_end shown c.args.limit rows all (subst (λ left. Fills shown c.args.limit rows left all) c.in_default.ensures.none c.rows.invariant.fills)
