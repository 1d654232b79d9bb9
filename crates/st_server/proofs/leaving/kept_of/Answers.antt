use Rattle.std.specs.List.{All}
use Rattle.std.proofs.Common.{List, subst}
use Rattle.std.proofs.lemmas.List.Elements.{All-weaker}
use mathlib.Core.List.{IsPrefix}
use Rattle.st_hall.specs.Steps.{Ask}
use Rattle.st_hall_press.proofs.Fronts.{prefix_trans}
use Rattle.st_server.proofs.leaving.kept_of.Goals as goal

pub returns-in-Some-clause-known : goal.returns-in-Some-clause-known
returns-in-Some-clause-known g c =
    prefix_trans c.args.known.now c.longest_kept-longest.result c.in-Some.kept c.longest_kept-longest.ensures.first c.in-Some.ensures.has

pub returns-in-Some-clause-has : goal.returns-in-Some-clause-has
returns-in-Some-clause-has g c =
    let longest = c.longest_kept-longest.result in
    All-weaker (λ (front : List Ask). IsPrefix front longest) (λ (front : List Ask). IsPrefix front c.in-Some.kept)
    (λ front begins. prefix_trans front longest c.in-Some.kept begins c.in-Some.ensures.has) c.args.joined.now.synced.items
    (subst (λ (fronts : List (List Ask)). All (λ (front : List Ask). IsPrefix front longest) fronts) c.as_slice-synced.ensures.value
    c.longest_kept-longest.ensures.others)
