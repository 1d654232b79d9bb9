use Rattle.std.proofs.Common.{◌≡◌, length, take, inl, inr, ap, ◌∙◌, arith}
use Rattle.std.specs.Prelude.{nat_lt}
use Rattle.std.specs.Option.{option_copied}
use Rattle.st_scan.specs.declared.fault.ScanFault.{ScanFault}
use Rattle.st_scan.specs.declared.fault.ScanFault.TheVariants.{BadGrid, BadLimit, NoMemory}
use Rattle.st_scan.proofs.Filling.{if_err, if_ok}
use Rattle.st_scan.proofs.Past.{shown_on}
use Rattle.st_scan.proofs.paging.page.Goals as goal

not_limit : (e : ScanFault) → e ≡ NoMemory → e ≡ BadLimit → ⊥
not_limit e p q = cc

not_grid : (e : ScanFault) → e ≡ NoMemory → e ≡ BadGrid → ⊥
not_grid e p q = cc

pub returns-clause-rows : goal.returns-clause-rows
returns-clause-rows g c =
    let all = shown_on (g.I.RowIndex.period_of c.args.index.now) c.args.query.now c.args.auths.now (option_copied c.args.after)
    _ _ c.start_of.result (g.I.RowIndex.content c.args.index.now) _
    c.period-period.ensures.value c.start_of.ensures.start c.with_own_plan-walk.ensures.left c.verdicts_for-verdicts.ensures in
    if_ok _ _ c.fill.result (λ page p. p ∙ ap (take c.args.limit) all) c.fill.ensures.rows

pub returns-clause-more : goal.returns-clause-more
returns-clause-more g c =
    let all = shown_on (g.I.RowIndex.period_of c.args.index.now) c.args.query.now c.args.auths.now (option_copied c.args.after)
    _ _ c.start_of.result (g.I.RowIndex.content c.args.index.now) _
    c.period-period.ensures.value c.start_of.ensures.start c.with_own_plan-walk.ensures.left c.verdicts_for-verdicts.ensures in
    if_ok _ _ c.fill.result (λ page p. p ∙ ap (λ xs. nat_lt c.args.limit (length xs)) all) c.fill.ensures.more

pub returns-clause-bad_limit : goal.returns-clause-bad_limit
returns-clause-bad_limit g c =
    if_err _ _ c.fill.result
    (λ e none. (
      λ bad. absurd (not_limit e none bad),
      λ out. elim out [ inl zero ↦ absurd (omega (arith, zero, c.if-limit-eq0.false)) | inr big ↦ absurd (omega (arith, big, c.if-limit-gt-MAX_ROWS.false)) ],
    ))
    c.fill.ensures.no_memory

pub returns-clause-no_grid : goal.returns-clause-no_grid
returns-clause-no_grid g c = if_err _ _ c.fill.result (λ e none bad. not_grid e none bad) c.fill.ensures.no_memory
