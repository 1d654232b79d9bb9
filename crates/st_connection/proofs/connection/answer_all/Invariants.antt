use Rattle.std.proofs.Common.{◌≡◌, ◌-◌, ◌≤◌, length, take, drop, false}
use Rattle.st_connection.specs.Connection.{WithInterim}
use Rattle.st_connection.proofs.Blocks.{Gathered}
use Rattle.st_connection.proofs.connection.answer_all.Given as goal

abbrev pub invariant-items : goal.invariant-items
invariant-items g l =
    let held = g.W.Sink.held in
    let now = g.X.Replies.now in
    record {
      gathered : Gathered (WithInterim g.X.Replies.answers) (length l.initial.block) false (now l.initial.answerer) (now l.answerer)
          (g.X.Replies.kept l.answerer) l.text (drop l.used l.text) (held l.initial.writer) (held l.writer) l.initial.written l.written
          (take l.held l.block);
      within : l.used ≤ length l.text;
      held_within : l.held ≤ length l.initial.block;
      room : length l.block ≡ length l.initial.block;
      sound : g.W.Sink.has_failed l.writer ≡ g.W.Sink.has_failed l.initial.writer;
      answerer_sound : g.X.Replies.has_failed l.answerer ≡ false;
    }

abbrev pub decreases-items : goal.decreases-items
decreases-items g l = length l.text - l.used
