use Rattle.std.proofs.Common.{◌+◌, ◌-◌, ◌++◌, inl, Err, length, take, refl, ap, ◌∙◌, arith}
use Rattle.std.proofs.KnownBytes.{Appends-nil}
use Rattle.std.proofs.lemmas.List.{take_all}
use Rattle.std.proofs.lemmas.Result.{err_from_is_err_and}
use Rattle.st_connection.proofs.Blocks.{all_behind, passed_on, sent_behind}
use Rattle.st_connection.proofs.Buffer.{text_after_read}
use Rattle.st_connection.proofs.Ending.{not_err}
use Rattle.st_connection.proofs.sending.pass.Goals as goal

pub returns-then-answer-block-clause-passed : goal.returns-then-answer-block-clause-passed
returns-then-answer-block-clause-passed g c =
    let answer = c.args.answer.now in
    let after = c.copy_from_slice.ensures.after in
    let front = text_after_read c.args.block.now c.copy_from_slice.new.self c.args.held.now (c.args.held.now + length answer - c.args.held.now)
    (length answer) c.requires.within (let n = ap length after in omega (arith, n)) in
    inl (
      front ∙ ap (λ p. take c.args.held.now c.args.block.now ++ take (length answer) p) after
          ∙ ap (λ p. take c.args.held.now c.args.block.now ++ p) (take_all (length answer) answer (omega arith)),
      Appends-nil _,
      refl,
      refl,
    )

pub returns-in_err-flush-clause-passed : goal.returns-in_err-flush-clause-passed
returns-in_err-flush-clause-passed g c =
    let p = err_from_is_err_and c.from_residual.result c.from_residual.ensures.1 in
    passed_on _ _ _ _ _ _ _ _ c.args.answer.now _ c.from_residual.result _ (p.1 ∙ ap Err p.2) c.in_err-flush.ensures.passed

pub returns-in-Ok-clause-passed : goal.returns-in-Ok-clause-passed
returns-in-Ok-clause-passed g c =
    all_behind _ _ _ _ _ _ _ _ _ _ _ _ _ c.in_ok-flush.ensures.passed c.in-Ok.ensures.sent refl (c.in_ok-flush.ensures.synced (not_err _ _))

pub returns-in-Err-clause-passed : goal.returns-in-Err-clause-passed
returns-in-Err-clause-passed g c = sent_behind _ _ _ _ _ _ _ _ _ _ _ _ c.in_ok-flush.ensures.passed c.in-Err.ensures.sent
