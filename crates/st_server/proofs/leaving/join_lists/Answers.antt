use Rattle.std.specs.List.{All}
use Rattle.std.proofs.Common.{◌≡◌, List, length, map, rules, subst}
use mathlib.Core.List.{IsPrefix}
use Rattle.st_hall.specs.Steps.{Ask}
use Rattle.st_hall.specs.Views.{Seat, receipts}
use Rattle.st_server.proofs.Joining.{joined}
use Rattle.st_server.proofs.leaving.join_lists.Goals as goal

pub returns-then-len-clause-one : goal.returns-then-len-clause-one
returns-then-len-clause-one g c =
    let desks = c.in_ok-both.both.0.items in let fronts = c.in_ok-fronts.fronts.items in
    let list = c.whole-list.result in let longest = c.one_list-longest.result in
    let counted : length list ≡ receipts desks = search rules in
    let seen : fronts ≡ map (λ (desk : Seat). desk.seen) desks =
    subst (λ (at : List Seat). fronts ≡ map (λ (desk : Seat). desk.seen) at) c.as_slice-still.ensures.value c.in_ok-fronts.ensures in
    let same : length longest ≡ length list = search rules in
    let others = subst (λ (all : List (List Ask)). All (λ (front : List Ask). IsPrefix front longest) all) c.as_slice-seen.ensures.value
    c.one_list-longest.ensures.others in
    joined g.T.AtDesk.standing c.args.workers.items desks fronts list longest c.in_ok-both.ensures.desks counted seen c.one_list-longest.ensures.first same others
