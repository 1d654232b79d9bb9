use Rattle.std.proofs.Common.{◌∙◌, ap, sym, fold, get_or, []}
use Rattle.std.proofs.lemmas.List.{take_all}
use Rattle.std.proofs.lemmas.List.Sums.{fold_more}
use Rattle.st_http.specs.declared.path.Path.TheVariants as paths
use Rattle.st_http.specs.Paths.{all_paths}
use Rattle.st_http.specs.Routes.{Rows, with_path, routes}
use Rattle.st_http.proofs.routes.Routes.new.Goals as goal

pub loop-path-preserved : goal.loop-path-preserved
unfolding all_paths
loop-path-preserved c =
    c.in_ok-add.ensures ∙ ap (λ (rows : Rows). with_path rows (get_or all_paths c.loop-path.path-index paths.Whoami)) c.loop-path.invariant
    ∙ sym (fold_more with_path [] all_paths c.loop-path.path-index paths.Whoami c.loop-path-test.true)

pub invariant_of-result : goal.invariant_of-result
unfolding routes all_paths
invariant_of-result c =
    record { holds = c.loop-path.invariant ∙ ap (fold with_path []) (take_all c.loop-path.path-index all_paths c.loop-path-test.false) }
