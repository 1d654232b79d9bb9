-- A desk, a scribe and a press may go to another thread. Rattle makes no such lemma for a tree's nodes, which hold each other, so none for what holds them.
use denote.RattleType.{RattleType}
use denote.Param.Send.{IsSend, IsSync, sendable}
use denote.Model.Marks.{tied_send, tied_sync}
use denote.Model.Local.{Frame, Parts, rows}
use denote.Model.Goals.{send, sync, part_has, has_of}
use Rattle.core.specs.declared.clone.Clone.{Ghosts as Copies}
use Rattle.std.proofs.Crossing.{crosses, frees, send as heap_send, sync as heap_sync}
use Rattle.std_heap.specs.contracts.Global as Heap
use Rattle.std_heap.specs.contracts.GlobalAllocator.TheImpl.{ghosts}
use Rattle.st_core.specs.contracts.store.tables.Tables as Tables
use Rattle.st_core.specs.contracts.store.Store as Store
use Rattle.st_dir.specs.contracts.directory.Directory as Directory
use Rattle.st_index.specs.contracts.note.NoteText as NoteText
use Rattle.st_index.specs.contracts.row.Row as Row
use Rattle.st_index.specs.contracts.entry.Entry as Entry
use Rattle.st_ubtree.specs.contracts.tree.UbTree as UbTree
use Rattle.st_tally.specs.contracts.label_counts.LabelCount as LabelCount
use Rattle.st_tally.specs.contracts.label_counts.LabelCounts as LabelCounts
use Rattle.st_tally.specs.contracts.summary.Summary as Summary
use Rattle.st_ubtree.specs.contracts.node.aside.Aside as Aside
use Rattle.st_ubtree.specs.contracts.node.Node as Node
use Rattle.st_ubtree.specs.contracts.node.Node.TheKnot as knot
use Rattle.st_ubtree.specs.declared.node.Node.TheDeep.{the_members, member-Node}
use Rattle.st_hall_press.specs.contracts.edition.Edition as Edition
use Rattle.st_hall_press.specs.contracts.edition.Queued as Queued
use Rattle.st_hall_press.specs.contracts.front.Front as Front
use Rattle.st_hall_press.specs.contracts.kept.KeptFront as KeptFront
use Rattle.st_hall_press.specs.contracts.kept.KeptMark as KeptMark
use Rattle.st_hall_desk.specs.contracts.desk.Desk as Desk
use Rattle.st_hall_press.specs.contracts.press.Press as Press
use Rattle.st_hall_desk.specs.contracts.scribe.Scribe as Scribe
use Rattle.st_hall_press.specs.declared.name.HallName as hall
use Rattle.st_hall_press.proofs.front.Front.TheSendSync as FrontCross
use Rattle.st_hall_press.proofs.kept.KeptFront.TheSendSync as KeptFrontCross
use Rattle.st_hall_press.proofs.kept.KeptMark.TheSendSync as KeptMarkCross
use Rattle.st_hall_press.proofs.history.Head.TheSendSync as HeadCross
use Rattle.st_hall_press.proofs.edition.Queued.TheSendSync as QueuedCross
use Rattle.core.specs.declared.ledger.Ledger as ledger
use Rattle.core.proofs.ledger.Book.TheSendSync as BookCross
use Rattle.core.proofs.ledger.Share.TheSendSync as ShareCross
use Rattle.crossbeam_utils.specs.declared.rule.Protocol as protocol
use Rattle.left_right.specs.declared.Absorb as absorb
use Rattle.left_right.specs.contracts.reader.Reader as Reader
use Rattle.left_right.specs.contracts.writer.Writer as Writer
use Rattle.left_right.proofs.reader.Reader.TheSendSync as ReaderCross
use Rattle.left_right.proofs.writer.Writer.TheSendSync as WriterCross
use Rattle.std.proofs.MapsCrossing.{crosses as maps}
use Rattle.circular_buffer.proofs.cells.Cells.TheSendSync as CellsCross
use Rattle.circular_buffer.proofs.cells.Deed.TheSendSync as DeedCross

abbrev K : Frame the_members
K = knot.frame Heap.the_row ghosts

note_text : IsSend (NoteText.the_row Heap.the_row ghosts)
note_text = search (sendable, crosses) depth 60 fits 100000

note_text_sync : IsSync (NoteText.the_row Heap.the_row ghosts)
note_text_sync = search (sendable, crosses) depth 60 fits 100000

row : IsSend (Row.the_row Heap.the_row ghosts)
row = search (sendable, crosses, note_text) depth 60 fits 100000

row_sync : IsSync (Row.the_row Heap.the_row ghosts)
row_sync = search (sendable, crosses, note_text_sync) depth 60 fits 100000

entry : IsSend (Entry.the_row Heap.the_row ghosts)
entry = search (sendable, crosses, note_text, row) depth 60 fits 100000

entry_sync : IsSync (Entry.the_row Heap.the_row ghosts)
entry_sync = search (sendable, crosses, note_text_sync, row_sync) depth 60 fits 100000

label_count : IsSend (LabelCount.the_row Heap.the_row ghosts)
label_count = search (sendable, crosses) depth 60 fits 100000

label_count_sync : IsSync (LabelCount.the_row Heap.the_row ghosts)
label_count_sync = search (sendable, crosses) depth 60 fits 100000

label_counts : IsSend (LabelCounts.the_row Heap.the_row ghosts)
label_counts = search (sendable, crosses, label_count) depth 60 fits 100000

label_counts_sync : IsSync (LabelCounts.the_row Heap.the_row ghosts)
label_counts_sync = search (sendable, crosses, label_count_sync) depth 60 fits 100000

summary : IsSend (Summary.the_row Heap.the_row ghosts)
summary = search (sendable, crosses, label_counts) depth 60 fits 100000

summary_sync : IsSync (Summary.the_row Heap.the_row ghosts)
summary_sync = search (sendable, crosses, label_counts_sync) depth 60 fits 100000

aside : IsSend (Aside.the_row Heap.the_row ghosts)
aside = search (sendable, crosses) depth 60 fits 100000

aside_sync : IsSync (Aside.the_row Heap.the_row ghosts)
aside_sync = search (sendable, crosses) depth 60 fits 100000

layer : (h : RattleType) → IsSend h → IsSend (knot.layer-Node Heap.the_row ghosts h)
layer h s = search (sendable, crosses) depth 60 fits 100000

viewed : (p : Parts K) → IsSend (rows K p member-Node) → IsSend (knot.view-Node Heap.the_row ghosts p)
viewed p s = search (sendable, crosses, entry, summary, aside) depth 60 fits 100000

keeps : (p : Parts K) → ((j : the_members) → IsSend (rows K p j)) → (i : the_members) → IsSend (rows K (knot.step Heap.the_row ghosts p) i)
keeps p all member-Node = has_of K send (knot.step Heap.the_row ghosts p) member-Node (part_has send (knot.view-Node Heap.the_row ghosts p) (viewed p (all member-Node)))

tied : IsSend (rows K (knot.tied Heap.the_row ghosts) member-Node)
tied = tied_send K (knot.step Heap.the_row ghosts) (knot.sizes Heap.the_row ghosts) keeps member-Node

hole : IsSend (knot.hole-Node Heap.the_row ghosts)
hole = record { owned = tied.owned; leaving = λ k x w. tt }

node : IsSend (Node.the_row Heap.the_row ghosts)
node = search (sendable, crosses, hole) depth 60 fits 100000

layer_sync : (h : RattleType) → IsSync h → IsSync (knot.layer-Node Heap.the_row ghosts h)
layer_sync h s = search (sendable, crosses) depth 60 fits 100000

viewed_sync : (p : Parts K) → IsSync (rows K p member-Node) → IsSync (knot.view-Node Heap.the_row ghosts p)
viewed_sync p s = search (sendable, crosses, entry_sync, summary_sync, aside_sync) depth 60 fits 100000

keeps_sync : (p : Parts K) → ((j : the_members) → IsSync (rows K p j)) → (i : the_members) → IsSync (rows K (knot.step Heap.the_row ghosts p) i)
keeps_sync p all member-Node = has_of K sync (knot.step Heap.the_row ghosts p) member-Node (part_has sync (knot.view-Node Heap.the_row ghosts p) (viewed_sync p (all member-Node)))

tied_syncs : IsSync (rows K (knot.tied Heap.the_row ghosts) member-Node)
tied_syncs = tied_sync K (knot.step Heap.the_row ghosts) (knot.sizes Heap.the_row ghosts) keeps_sync member-Node

hole_sync : IsSync (knot.hole-Node Heap.the_row ghosts)
hole_sync = record { shared = tied_syncs.shared }

node_sync : IsSync (Node.the_row Heap.the_row ghosts)
node_sync = search (sendable, crosses, hole_sync) depth 60 fits 100000

tree : IsSend (UbTree.the_row Heap.the_row ghosts)
tree = search (sendable, crosses, node) depth 60 fits 100000

tree_sync : IsSync (UbTree.the_row Heap.the_row ghosts)
tree_sync = search (sendable, crosses, node_sync) depth 60 fits 100000

directory : IsSend (Directory.the_row Heap.the_row ghosts)
directory = search (sendable, crosses) depth 60 fits 100000

directory_sync : IsSync (Directory.the_row Heap.the_row ghosts)
directory_sync = search (sendable, crosses) depth 60 fits 100000

tables : (c : Copies (Heap.the_row).Denot) → IsSend (Tables.the_row Heap.the_row ghosts c)
tables c = search (sendable, crosses, maps, tree) depth 60 fits 100000

tables_sync : (c : Copies (Heap.the_row).Denot) → IsSync (Tables.the_row Heap.the_row ghosts c)
tables_sync c = search (sendable, crosses, maps, tree_sync) depth 60 fits 100000

store : (c : Copies (Heap.the_row).Denot) → IsSend (Store.the_row Heap.the_row ghosts c)
store c = let d = directory in let t = tables c in search (sendable, crosses, CellsCross.the_send, DeedCross.the_send) depth 60 fits 100000

store_sync : (c : Copies (Heap.the_row).Denot) → IsSync (Store.the_row Heap.the_row ghosts c)
store_sync c = let d = directory_sync in let t = tables_sync c in search (sendable, crosses, CellsCross.the_sync, DeedCross.the_sync) depth 60 fits 100000

pub front : (H : RattleType) (h : hall.Ghosts H.Denot) (l : ledger.Ghosts H.Denot) → IsSend (Front.the_row H h l)
front H h l = FrontCross.the_send H h l

-- the same as a field
pub held_front : (H : RattleType) (h : hall.Ghosts H.Denot) (l : ledger.Ghosts H.Denot) → IsSend (Front.the_field H h l).row
held_front H h l = front H h l

held_front_sync : (H : RattleType) (h : hall.Ghosts H.Denot) (l : ledger.Ghosts H.Denot) → IsSync (Front.the_field H h l).row
held_front_sync H h l = FrontCross.the_sync H h l

pub held_kept : (H : RattleType) (h : hall.Ghosts H.Denot) (l : ledger.Ghosts H.Denot) → IsSend (KeptFront.the_field H h l).row
held_kept H h l = KeptFrontCross.the_send H h l

pub held_mark : (H : RattleType) (h : hall.Ghosts H.Denot) (l : ledger.Ghosts H.Denot) → IsSend (KeptMark.the_field H h l).row
held_mark H h l = KeptMarkCross.the_send H h l

edition : (H : RattleType) (h : hall.Ghosts H.Denot) (l : ledger.Ghosts H.Denot) → IsSend (Edition.the_row H h l)
edition H h l = search (sendable, crosses, store, held_front) depth 60 fits 100000

edition_sync : (H : RattleType) (h : hall.Ghosts H.Denot) (l : ledger.Ghosts H.Denot) → IsSync (Edition.the_row H h l)
edition_sync H h l = search (sendable, crosses, store_sync, held_front_sync) depth 60 fits 100000

queued : (H : RattleType) (h : hall.Ghosts H.Denot) (l : ledger.Ghosts H.Denot) → IsSend (Queued.the_row H h l)
queued H h l = QueuedCross.the_send H h l

-- as a struct's field has it, which is how `search` meets it
reader : (H V P : RattleType) (h : hall.Ghosts H.Denot) (l : ledger.Ghosts H.Denot) (p : protocol.Ghosts P.Denot (Edition.the_row H h l).Denot V.Denot)
    → IsSend (Reader.the_field (Edition.the_row H h l) V P Heap.the_row p ghosts).row
reader H V P h l p = ReaderCross.the_field_send (Edition.the_row H h l) V P Heap.the_row p ghosts heap_send (edition_sync H h l) heap_sync frees

writer : (H V P S : RattleType) (h : hall.Ghosts H.Denot) (l : ledger.Ghosts H.Denot)
    (a : absorb.Ghosts (Edition.the_row H h l).Denot (Queued.the_row H h l).Denot S.Denot) (p : protocol.Ghosts P.Denot (Edition.the_row H h l).Denot V.Denot)
    → IsSend (Writer.the_field (Edition.the_row H h l) (Queued.the_row H h l) V P Heap.the_row S a p ghosts).row
writer H V P S h l a p =
    WriterCross.the_field_send (Edition.the_row H h l) (Queued.the_row H h l) V P Heap.the_row S a p ghosts (edition H h l) (queued H h l) heap_send (edition_sync H h l) heap_sync frees

pub desk : (H : RattleType) (h : hall.Ghosts H.Denot) (l : ledger.Ghosts H.Denot) → IsSend (Desk.the_row H h l)
desk H h l = search (sendable, crosses, reader, held_front, ShareCross.the_send) depth 60 fits 100000

pub held_desk : (H : RattleType) (h : hall.Ghosts H.Denot) (l : ledger.Ghosts H.Denot) → IsSend (Desk.the_field H h l).row
held_desk H h l = desk H h l

pub scribe : (H : RattleType) (h : hall.Ghosts H.Denot) (l : ledger.Ghosts H.Denot) → IsSend (Scribe.the_row H h l)
scribe H h l = let d = directory in search (sendable, crosses, held_front, HeadCross.the_field_send, BookCross.the_send) depth 60 fits 100000

pub held_scribe : (H : RattleType) (h : hall.Ghosts H.Denot) (l : ledger.Ghosts H.Denot) → IsSend (Scribe.the_field H h l).row
held_scribe H h l = scribe H h l

pub press : (H R : RattleType) (h : hall.Ghosts H.Denot) (l : ledger.Ghosts H.Denot) (a : _) → IsSend R → IsSend (Press.the_row H R a h l)
press H R h l a s = search (sendable, crosses, writer, held_front, QueuedCross.the_send) depth 60 fits 100000

pub held_press : (H R : RattleType) (h : hall.Ghosts H.Denot) (l : ledger.Ghosts H.Denot) (a : _) → IsSend R → IsSend (Press.the_field H R a h l).row
held_press H R h l a s = press H R h l a s
