-- A station may go to another thread, since a worker of a hall and the table of routes may. Rattle makes no such lemma for the nodes of
-- the table, which hold each other.
use denote.RattleType.{RattleType}
use denote.Ref.{NamedLft}
use denote.Param.Send.{IsSend, IsSync, sendable}
use denote.Model.Marks.{tied_send}
use denote.Model.Local.{Frame, Parts, rows}
use denote.Model.Goals.{send, part_has, has_of}
use Rattle.std.proofs.Crossing.{crosses}
use Rattle.matchit.specs.contracts.tree.Node as Node
use Rattle.matchit.specs.contracts.tree.Node.TheKnot as knot
use Rattle.matchit.specs.declared.tree.Node.TheDeep.{the_members, member-Node}
use Rattle.slab.proofs.Slab.TheSendSync as SlabCross
use Rattle.st_http.specs.contracts.routes.Routes as Routes
use Rattle.st_hall.proofs.Crossing.{worker}
use Rattle.st_hall.specs.contracts.worker.Worker as Worker
use Rattle.st_hall_station.specs.contracts.station.Station as Station

abbrev K : Frame the_members
K = knot.frame

viewed : (p : Parts K) → IsSend (rows K p member-Node) → IsSend (knot.view-Node p)
viewed p s = search (sendable, crosses) depth 60 fits 100000

keeps : (p : Parts K) → ((j : the_members) → IsSend (rows K p j)) → (i : the_members) → IsSend (rows K (knot.step p) i)
keeps p all member-Node = has_of K send (knot.step p) member-Node (part_has send (knot.view-Node p) (viewed p (all member-Node)))

tied : IsSend (rows K knot.tied member-Node)
tied = tied_send K knot.step knot.sizes keeps member-Node

hole : IsSend knot.hole-Node
hole = record { owned = tied.owned; leaving = λ k x w. tt }

node : IsSend Node.the_row
node = search (sendable, crosses, hole) depth 60 fits 100000

routes : IsSend Routes.the_row
routes = search (sendable, crosses, node, SlabCross.the_send) depth 60 fits 100000

-- as a struct's field has it, which is how `search` meets it
pub held_routes : IsSend Routes.the_field.row
held_routes = search (sendable, crosses, node, SlabCross.the_send) depth 60 fits 100000

held_worker : (a : NamedLft) (H M G : RattleType) (h : _) (l : _) (m : _) → IsSync M → IsSync G → IsSend (Worker.the_field a H M G h l m).row
held_worker a H M G h l m s y = worker a H M G h l m s y

pub station : (a : NamedLft) (H M G W : RattleType) (h : _) (l : _) (m : _) → IsSync M → IsSync G → IsSync W
    → IsSend (Station.the_row a H M G W h l m)
station a H M G W h l m s y z = search (sendable, crosses, held_routes, held_worker) depth 60 fits 100000
