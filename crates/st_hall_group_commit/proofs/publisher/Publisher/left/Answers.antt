use Rattle.std.proofs.Common.{◌≡◌, ◌∙◌, List, ap, arith, subst, sym}
use Rattle.std.proofs.lemmas.Grind.{common_steps}
use mathlib.Core.List.{IsPrefix}
use Rattle.st_hall_press.proofs.Fronts.{prefix_trans}
use Rattle.st_hall_press.specs.Steps.{Ask}
use Rattle.st_hall_group_commit.specs.Rolls.{KeptRoll, Leaves}
use Rattle.st_hall_group_commit.proofs.publisher.Publisher.left.Goals as goal

pub returns-clause-leaves : goal.returns-clause-leaves
returns-clause-leaves g c =
    let list = c.args.list.now in
    let same = c.self.view_is ∙ c.laws_of.ensures.same in
    let tried : c.self.inside.tried ≡ c.args.self.now.list = ap (λ (k : KeptRoll g.row.J.Denot). k.list) same in
    let kept : c.self.inside.kept ≡ c.args.self.now.kept = ap (λ (k : KeptRoll g.row.J.Denot). k.kept) same in
    let within : IsPrefix c.args.self.now.list list = grind (arith, common_steps) in
    let is = c.again.ensures ∙ c.front.ensures ∙ kept in
    subst (λ (kept : List Ask). Leaves g.J.Journal g.B.Beginning.first g.H.HallName.start kept list) (sym is)
    (record {
      journal = c.args.self.now.journal;
      leads = λ clean left leaves.
          let was = c.laws.ensures.leaves clean left leaves in
          record {
            front = was.front;
            past = was.past;
            begins = prefix_trans was.front c.args.self.now.list list was.begins within;
            made = was.made;
          };
    })
