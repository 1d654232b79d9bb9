use Rattle.std.proofs.Common.{◌++◌, ◌∙◌, List, ap, option_to_list, refl, subst, sym}
use mathlib.Core.List.{IsPrefix}
use Rattle.st_core.specs.Judging.{judgement}
use Rattle.st_journal.specs.declared.record.Record.{Record}
use Rattle.st_journal.specs.Replays.{Replays}
use Rattle.st_journal_store.specs.Applying.{Applies}
use Rattle.st_hall_press.specs.Steps.{state_after}
use Rattle.st_hall_group_commit.proofs.Grouping.{drafted, noted_after}
use Rattle.st_hall_group_commit.proofs.draft.Draft.add.Goals as goal

pub invariant_of-self-2 : goal.invariant_of-self-2
invariant_of-self-2 g c =
    let start = g.H.HallName.start in
    let taken = c.self.inside.taken in
    let list = c.self.inside.scribe in
    let asked = c.args.asked.now in
    let is = c.hold.ensures ∙ ap (λ (b : List Record). b ++ option_to_list c.in_ok-note.note) c.reserve.ensures.items in
    let noted = noted_after start list asked (judgement c.in-Ok.decided.judged) c.in_ok-note.note c.in-Ok.ensures.judged c.in_ok-note.ensures in
    subst (λ (b : List Record). IsPrefix taken c.enter.new.self × Replays Applies (state_after start taken) b (state_after start c.enter.new.self))
    (sym {A = List Record} is)
    (drafted start taken list c.enter.new.self c.self.inside.records.items asked (state_after start list).directory c.in_ok-note.note
    c.self.invariant c.in_ok-reply.ensures.list refl noted)
