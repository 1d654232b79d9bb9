use Rattle.std.proofs.Common.{◌∙◌, refl, arith, inl, inr}
use Rattle.std.proofs.lemmas.Result.{err_from_is_err_and}
use Rattle.st_core.proofs.Progress.{at_start, one_more_told, done}
use Rattle.st_core.proofs.runs.run.Goals as goal

pub returns-in_err-replies-clause-stopped : goal.returns-in_err-replies-clause-stopped
returns-in_err-replies-clause-stopped g c =
    let p = err_from_is_err_and c.from_residual.result c.from_residual.ensures.1 in
    rw p.1 (0, inr refl, refl)

pub loop-one-init : goal.loop-one-init
loop-one-init g c = (at_start _ _ _ c.in_ok-replies.ensures.items, c.in_ok-replies.ensures.capacity)

pub returns-in_err-reply-clause-stopped : goal.returns-in_err-reply-clause-stopped
returns-in_err-reply-clause-stopped g c =
    let p = err_from_is_err_and c.from_residual-in_err-reply.result c.from_residual-in_err-reply.ensures.1 in
    rw p.1 (c.loop-one.one-index, inl c.loop-one-test.true, c.in_err-reply.ensures.unchanged ∙ c.loop-one.invariant.0.so_far)

pub loop-one-preserved : goal.loop-one-preserved
loop-one-preserved g c = (
  one_more_told _ _ _ _ _ _ _ _ _ c.loop-one-test.true c.one-item.is c.in_ok-reply.ensures.state c.in_ok-reply.ensures.reply c.put.ensures.items c.loop-one.invariant.0,
  omega (arith, c.loop-one.invariant.1, c.put.ensures.capacity),
)

pub returns-clause-replies : goal.returns-clause-replies
returns-clause-replies g c = (done _ _ _ c.loop-one.one-index _ (omega (arith, c.loop-one-test.false)) c.loop-one.invariant.0).0

pub returns-clause-state : goal.returns-clause-state
returns-clause-state g c = (done _ _ _ c.loop-one.one-index _ (omega (arith, c.loop-one-test.false)) c.loop-one.invariant.0).1
