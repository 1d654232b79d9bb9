use Rattle.std.proofs.Common.{refl}
use Rattle.st_index.proofs.room.more.Goals as goal

pub put-requires-clause-index : goal.put-requires-clause-index
put-requires-clause-index g c = rw c.with_room-items.ensures.same c.requires.index

pub put-requires-clause-room : goal.put-requires-clause-room
put-requires-clause-room g c = rw c.with_room-items.ensures.same c.with_room-items.ensures.room

pub returns : goal.returns
returns g c = rw (c.put.ensures.items, c.with_room-items.ensures.same) refl
