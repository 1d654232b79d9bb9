use Rattle.std.proofs.Common.{◌≡◌, ◌+◌, false, ◌∙◌, arith}
use Rattle.std.proofs.lemmas.Result.{err_from_is_err_and}
use Rattle.std.proofs.KnownBytes.{Appends-kept}
use Rattle.st_connection.proofs.Writing.{sent_part, piece_within, appends_piece}
use Rattle.st_connection.proofs.sending.write_all.Goals as goal

pub returns-in_err-taken-clause-sent : goal.returns-in_err-taken-clause-sent
returns-in_err-taken-clause-sent g c =
    let p = err_from_is_err_and c.from_residual.result c.from_residual.ensures.1 in rw p.1
    (sent_part _ _ _ _ _ c.loop-done.done false c.loop-done.invariant.within
    (Appends-kept _ _ _ _ c.loop-done.invariant.wrote c.in_err-taken.ensures.bytes) c.loop-done.invariant.counted (λ e. cc))

pub returns-then-taken-eq0-clause-sent : goal.returns-then-taken-eq0-clause-sent
returns-then-taken-eq0-clause-sent g c =
    let e : c.loop-done.done + c.in_ok-taken.taken ≡ c.loop-done.done = omega arith in
    sent_part _ _ _ _ _ c.loop-done.done false c.loop-done.invariant.within
    (rw e at (appends_piece _ _ _ c.args.bytes.now c.loop-done.done c.in_ok-taken.taken c.loop-done.invariant.wrote c.in_ok-taken.ensures.bytes))
    c.loop-done.invariant.counted (λ e. cc)

pub loop-done-preserved : goal.loop-done-preserved
loop-done-preserved g c = record {
  within = piece_within c.args.bytes.now c.loop-done.done c.in_ok-taken.taken c.loop-done.invariant.within c.in_ok-taken.ensures.room;
  wrote = appends_piece _ _ _ c.args.bytes.now c.loop-done.done c.in_ok-taken.taken c.loop-done.invariant.wrote c.in_ok-taken.ensures.bytes;
  counted = omega arith;
  sound = c.in_ok-taken.ensures.ok (omega arith) ∙ c.loop-done.invariant.sound;
}
