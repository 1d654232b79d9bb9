use denote.Param.Send.{sendable, given_sync}
use Rattle.std.specs.Prelude.{◌≡◌, ◌+◌, get_or, length, vec_items, vec_len}
use Rattle.std.specs.Vec.Iter.{into_iter_items}
use Rattle.std.proofs.Common.{rules, arith, below_more, ap, sym, subst, ◌∙◌}
use Rattle.st_server_peer.specs.Meeting.{Met}
use Rattle.std.proofs.Crossing.{crosses}
use Rattle.st_server_peer.proofs.conversing.Limits.TheSendSync as LimitsCross
use Rattle.st_server_workers.proofs.door.Door.TheSendSync as DoorCross
use Rattle.st_server_workers.proofs.working.Worked.TheSendSync as WorkedCross
use Rattle.st_server_workers.proofs.workers.fn.serve_all.scope.Goals as goal

pub spawn_with-requires-send-F : goal.spawn_with-requires-send-F
spawn_with-requires-send-F g c κs within =
    let r = given_sync 3 g.row.R c.requires.0 in let t = c.requires.1.0 in let l = given_sync 2 g.row.L c.requires.1.1 in
    search (sendable, crosses, LimitsCross.the_send, DoorCross.the_sync) depth 60 fits 100000

pub spawn_with-requires-send-T : goal.spawn_with-requires-send-T
spawn_with-requires-send-T g c κs within = let t = c.requires.1.0 in search (sendable, crosses, WorkedCross.the_send) depth 60 fits 100000

-- The attendant that began stood first among the rest, so its thread's promise is of the next place.
pub loop-attendant-preserved : goal.loop-attendant-preserved
loop-attendant-preserved g c =
    let was = c.loop-attendant.invariant in let step = c.in-Some.ensures.steps in let done = vec_len c.loop-attendant.threads in
    let places = c.push.ensures.by_index in let attendant = c.in-Some.attendant in
    let first = into_iter_items c.into_iter-attendant-iterator.result in
    let promise : c.in-Ok.thread.promise.attendant.value ≡ attendant = ap (λ p. p.attendant.value) c.in-Ok.ensures.ok ∙ c.new-promise.ensures in
    let next : (d : _) → attendant ≡ get_or first done d = λ d. let h = was.1 0 d in grind rules in
    let grown : vec_len c.push.new.self ≡ done + 1 = search rules in (
      search rules,
      (λ k d below. let h = was.1 (k + 1) d in grind rules),
      (λ k h d below. below_more (λ i. (get_or (vec_items c.push.new.self) i h).promise.attendant.value ≡ get_or first i d) done
          (λ i low. subst (λ t. t.promise.attendant.value ≡ get_or first i d) (sym (places.0 i h low)) (was.2 i h d low))
          (subst (λ t. t.promise.attendant.value ≡ get_or first done d) (sym (places.1 h (search rules))) (promise ∙ next d)) k (omega arith)),
    )

pub returns-in-Ok-join_promised : goal.returns-in-Ok-join_promised
returns-in-Ok-join_promised g c =
    let was = c.loop-attendant.invariant in let began = c.into_iter-attendant-iterator.ensures.into_iter_gives in
    let workers = c.in-Ok-join_promised.workers in let attendants = c.captures.attendants in
    let len = c.in-Ok-join_promised.ensures.len in let each = c.in-Ok-join_promised.ensures.each in
    let held : length workers.items ≡ vec_len workers = search rules in
    let given : length attendants.items ≡ vec_len attendants = search rules in
    let whole : length workers.items ≡ length attendants.items = omega (arith, held, given, was.0, c.in-None.ensures.steps.0, began.1, len) in (
      (
        whole,
        λ i d e below.
            let kept = (each i e (omega (arith, held, below, len))).1 in
            let same : kept.handle.promise.attendant.value ≡ get_or (vec_items attendants) i d =
            ap (λ h. h.promise.attendant.value) kept.handle_is ∙ (was.2 i kept.handle d (omega (arith, held, below, len)) ∙ ap (λ s. get_or s i d) began.0) in
            subst (λ s. Met g.T.Attend.serves g.C.Client.call s (get_or (vec_items workers) i e).count (get_or (vec_items workers) i e).attendant) same kept.kept,
      ),
      tt,
    )
