use Rattle.std.proofs.Common.{ℕ, cond, sym, ap, subst, ◌∙◌, arith}
use Rattle.st_index.specs.inner.Views.{viewed}
use Rattle.st_tally.specs.inner.Sums.{CountsMore, labelled}
use Rattle.st_tally.proofs.label_counts.LabelCounts.put_entry.Goals as goal

pub returns-in-One : goal.returns-in-One
returns-in-One g c =
    subst (λ rows. CountsMore c.args.self.now c.put.new.self (λ judges. labelled judges rows)) (ap viewed (sym c.in-One.is) ∙ c.rows.ensures)
    (λ h.
    let put = c.put.ensures h in (
      put.0,
      λ judges.
          let label = ap (λ l. cond {A = ℕ} (judges l) 1 0) c.label.ensures in
          omega (arith, put.1 judges, label),
    ))

pub returns-in-Many : goal.returns-in-Many
returns-in-Many g c = subst (λ rows. CountsMore c.args.self.now c.put_rows.new.self (λ judges. labelled judges rows)) (ap viewed (sym c.in-Many.is) ∙ c.rows.ensures) c.put_rows.ensures
