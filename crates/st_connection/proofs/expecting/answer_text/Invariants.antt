use Rattle.std.proofs.Common.{◌≡◌, ◌+◌, ◌-◌, ◌≤◌, ℕ, List, Option, true, false, length, drop, if◌then◌else◌}
use Rattle.std.specs.Io.KnownBytes.{Appends}
use Rattle.st_http.specs.First.{First, IsFirst, expects}
use Rattle.st_connection.specs.Connection.{WithInterim}
use Rattle.st_connection.specs.Render.{interim}
use Rattle.st_connection.specs.inner.Stages.{Spoken}
use Rattle.st_connection.proofs.expecting.answer_text.Given as goal

abbrev pub invariant-items : goal.invariant-items
invariant-items g l =
    let held = g.W.Sink.held in
    let now = g.X.Replies.now in
    record {
      spoken : (base : Option (List ℕ)) (before : ℕ) → Appends base (held l.initial.writer) (interim l.was_told) → l.initial.written ≡ before + length (interim l.was_told)
          → Spoken (WithInterim g.X.Replies.answers) (now l.initial.answerer) (now l.answerer) l.text (drop l.used l.text) l.told base (held l.writer) before l.written;
      expected : l.told ≡ true → (item : First) → IsFirst (drop l.used l.text) item → expects item ≡ true;
      within : l.used ≤ length l.text;
      synced : g.X.Replies.kept l.answerer ≡ now l.answerer;
      room : length l.block ≡ length l.initial.block;
      sound : g.W.Sink.has_failed l.writer ≡ g.W.Sink.has_failed l.initial.writer;
      answerer_sound : g.X.Replies.has_failed l.answerer ≡ false;
    }

abbrev pub decreases-items : goal.decreases-items
decreases-items g l = length l.text - l.used + (if l.told then 0 else 1)
