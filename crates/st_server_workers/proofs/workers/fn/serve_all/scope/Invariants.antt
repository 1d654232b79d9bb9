use Rattle.std.specs.Prelude.{◌≡◌, ℕ, ◌+◌, ◌<◌, get_or, vec_items, vec_len}
use Rattle.std.specs.Vec.Iter.{into_iter_items, into_iter_len}
use Rattle.st_server_workers.proofs.workers.fn.serve_all.scope.Given as goal

-- The threads that began are of the first attendants, in their order.
abbrev pub invariant-loop-attendant : goal.invariant-loop-attendant
invariant-loop-attendant g l =
    let done = vec_len l.threads in let rest = l.attendant-iterator in let first = l.initial.attendant-iterator in
    (done + into_iter_len rest ≡ into_iter_len first)
    × ((k : ℕ) (d : _) → k < into_iter_len rest → get_or (into_iter_items rest) k d ≡ get_or (into_iter_items first) (done + k) d)
    × ((k : ℕ) (h d : _) → k < done → (get_or (vec_items l.threads) k h).promise.attendant.value ≡ get_or (into_iter_items first) k d)
