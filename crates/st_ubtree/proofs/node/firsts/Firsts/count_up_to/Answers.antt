use Rattle.std.proofs.Common.{◌≡◌, ltb, ◌∙◌}
use Rattle.std.specs.List.{position_or_len}
use Rattle.st_key.specs.Key.{rank}
use Rattle.st_ubtree.specs.declared.node.firsts.First.{First}
use Rattle.st_ubtree.proofs.Firsts.{at_first, parted_at, found_by, within_all}
use Rattle.st_ubtree.proofs.node.firsts.Firsts.count_up_to.Goals as goal

pub returns-clause-place : goal.returns-clause-place
returns-clause-place g c = λ kids h.
    let after = λ (k : First). ltb (rank c.args.key) (rank k.key) in
    let keys = c.args.self.now.keys.items in
    let is : c.unwrap_or.result ≡ position_or_len (λ (k : First). ltb (rank c.args.key) (rank k.key)) c.args.self.now.keys.items =
    rw c.as_slice-keys.ensures.value at (c.unwrap_or.ensures ∙ at_first after c.as_slice-keys.result.now c.first_after.result c.first_after.ensures) in
    found_by (rank c.args.key) c.args.self.now kids h c.unwrap_or.result (within_all after keys c.unwrap_or.result is) (parted_at after keys c.unwrap_or.result is)
