use Rattle.std.proofs.Common.{◌≡◌, ◌+◌, ◌-◌, ◌^◌, ◌<◌, ◌≤◌, false, length, take, min}
use Rattle.st_connection.specs.Connection.{WithInterim}
use Rattle.st_connection.proofs.Turns.{Serving}
use Rattle.st_connection.proofs.connection.serve_connection.Given as goal

abbrev pub invariant-reads : goal.invariant-reads
invariant-reads g l =
    let left = g.R.Source.left in
    let held = g.W.Sink.held in
    let reads = g.R.Source.reads in
    record {
      serving : Serving (WithInterim g.X.Replies.answers) (g.X.Replies.now l.initial.answerer) (g.X.Replies.now l.answerer) (take l.filled l.buffer)
          l.told (left l.initial.reader) (left l.reader) (held l.initial.writer) (held l.writer) l.written l.turn;
      within : l.filled ≤ length l.buffer;
      synced : g.X.Replies.kept l.answerer ≡ g.X.Replies.now l.answerer;
      answerer_sound : g.X.Replies.has_failed l.answerer ≡ false;
      block_room : length l.block ≡ length l.initial.block;
      reader_sound : g.R.Source.has_failed l.reader ≡ false;
      writer_sound : g.W.Sink.has_failed l.writer ≡ false;
      no_reads : l.turn ≡ 0 → reads l.reader ≡ reads l.initial.reader;
      reads : 0 < l.turn → reads l.reader ≡ min (reads l.initial.reader + l.turn) (2 ^ 64 - 1);
    }
