use Rattle.std.proofs.Common.{◌≡◌, ◌++◌, ◌⊎◌, ◌∙◌, List, refl, subst, sym}
use Rattle.st_journal.specs.declared.record.Record.{Record}
use Rattle.st_hall_press.specs.Steps.{Ask}
use Rattle.st_hall_group_commit.specs.Rolls.{LeadToOne}
use Rattle.st_hall_group_commit.proofs.Grouping.{kept_batch, left_one, lost_batch, no_shorter}
use Rattle.st_hall_group_commit.proofs.publisher.Publisher.keep.Goals as goal

pub invariant_of-self : goal.invariant_of-self
invariant_of-self g c =
    kept_batch g.J.Journal g.B.Beginning.first g.H.HallName.start g.met.J.Journal.leaves_list
    c.self.inside.press.pushed c.self.inside.tried c.self.inside.kept c.self.inside.press.published c.args.batch.from c.args.batch.to
    c.self.inside.journal c.append_all.new.journal c.self.inside.is_lost c.self.inside.mark c.args.batch.records.items c.self.invariant c.if-self.false
    (c.if-not-are_equal.ensures refl ∙ c.front.ensures) c.requires.goes_on c.requires.leads c.in-Ok.ensures.misreads
    c.again.result c.token.result c.token.new.self c.again.ensures c.token.ensures.is (c.token.ensures.same ∙ (c.rise.ensures ∙ c.len.ensures))
    c.in-Ok.ensures.ready
    (subst (λ (b : List Record). g.J.Journal.misreads c.append_all.new.journal ≡ 0
    → g.J.Journal.list c.append_all.new.journal ≡ g.J.Journal.list c.self.inside.journal ++ b) c.as_slice.ensures.value c.in-Ok.ensures.list)

pub invariant_of-self-in-Err : goal.invariant_of-self-in-Err
invariant_of-self-in-Err g c =
    lost_batch g.J.Journal g.B.Beginning.first g.H.HallName.start g.met.J.Journal.leaves_list
    c.self.inside.press.pushed c.self.inside.tried c.self.inside.kept c.self.inside.press.published c.args.batch.from c.args.batch.to
    c.self.inside.journal c.append_all.new.journal c.self.inside.is_lost c.self.inside.mark c.args.batch.records.items c.self.invariant c.if-self.false
    (c.if-not-are_equal.ensures refl ∙ c.front.ensures) c.requires.goes_on c.requires.leads c.in-Err.ensures.misreads
    (subst (λ (b : List Record). g.J.Journal.misreads c.append_all.new.journal ≡ 0
    → (left : List Record) → g.J.Journal.may_leave c.append_all.new.journal left
    → (left ≡ g.J.Journal.list c.self.inside.journal) ⊎ (left ≡ g.J.Journal.list c.self.inside.journal ++ b)) c.as_slice.ensures.value c.in-Err.ensures.crash)

pub returns-in-Ok-clause-whole : goal.returns-in-Ok-clause-whole
returns-in-Ok-clause-whole g c =
    rw (← c.self.view_is) (λ is clean left leaves.
    subst (λ (l : List Ask). LeadToOne g.B.Beginning.first g.H.HallName.start c.self.inside.kept l left) (sym c.again.ensures)
    (left_one g.J.Journal g.B.Beginning.first g.H.HallName.start g.met.J.Journal.leaves_list
    c.self.inside.press.pushed c.self.inside.tried c.self.inside.kept c.self.inside.press.published c.args.batch.from c.args.batch.to
    c.self.inside.journal c.append_all.new.journal c.self.inside.is_lost c.self.inside.mark c.args.batch.records.items c.self.invariant c.if-self.false
    (c.if-not-are_equal.ensures refl ∙ c.front.ensures) c.requires.goes_on c.requires.leads c.in-Ok.ensures.misreads
    (subst (λ (b : List Record). g.J.Journal.misreads c.append_all.new.journal ≡ 0
    → (left : List Record) → g.J.Journal.may_leave c.append_all.new.journal left
    → (left ≡ g.J.Journal.list c.self.inside.journal) ⊎ (left ≡ g.J.Journal.list c.self.inside.journal ++ b)) c.as_slice.ensures.value c.in-Ok.ensures.crash) clean left leaves))

pub returns-clause-whole : goal.returns-clause-whole
returns-clause-whole g c =
    rw (← c.self.view_is) (λ is.
    left_one g.J.Journal g.B.Beginning.first g.H.HallName.start g.met.J.Journal.leaves_list
    c.self.inside.press.pushed c.self.inside.tried c.self.inside.kept c.self.inside.press.published c.args.batch.from c.args.batch.to
    c.self.inside.journal c.append_all.new.journal c.self.inside.is_lost c.self.inside.mark c.args.batch.records.items c.self.invariant c.if-self.false
    (c.if-not-are_equal.ensures refl ∙ c.front.ensures) c.requires.goes_on c.requires.leads c.in-Err.ensures.misreads
    (subst (λ (b : List Record). g.J.Journal.misreads c.append_all.new.journal ≡ 0
    → (left : List Record) → g.J.Journal.may_leave c.append_all.new.journal left
    → (left ≡ g.J.Journal.list c.self.inside.journal) ⊎ (left ≡ g.J.Journal.list c.self.inside.journal ++ b)) c.as_slice.ensures.value c.in-Err.ensures.crash))
