use Rattle.std.proofs.Common.{arith, refl}
use Rattle.st_index.proofs.room.two.Goals as goal

pub put-requires-clause-index : goal.put-requires-clause-index
put-requires-clause-index g c = omega arith

pub put-requires-clause-room : goal.put-requires-clause-room
put-requires-clause-room g c = rw c.requires.empty (omega (arith, c.requires.room))

pub put-requires-2-clause-index : goal.put-requires-2-clause-index
put-requires-2-clause-index g c = rw (c.put.ensures.items, c.requires.empty) c.requires.index

pub put-requires-2-clause-room : goal.put-requires-2-clause-room
put-requires-2-clause-room g c = rw (c.put.ensures.items, c.requires.empty) (omega (arith, c.requires.room, c.put.ensures.capacity))

pub returns : goal.returns
returns g c = rw (c.put-2.ensures.items, c.put.ensures.items, c.requires.empty) refl
