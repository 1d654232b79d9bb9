use Rattle.std.proofs.Common.{rules, inl, inr, ℕ, List, Option, Err, ◌+◌, ◌-◌, ◌≤◌, take, refl, sym, ap, ◌∙◌, subst, arith}
use Rattle.std.specs.Io.KnownBytes.{Consumes}
use Rattle.st_connection.specs.Connection.{WithInterim}
use borrow.Rule.Slice.PartMut.{put_mid}
use Rattle.st_connection.proofs.Buffer.{text_after_read, text_after_move, front_length, front_at_most, front_empty, front_some, part_at_most, part_within, piece_at_most, moved_within}
use Rattle.st_connection.proofs.Turns.{serving_start, text_short, enough, told_still, read_breaks, turns_spent, ends_clean, ends_cut, write_breaks}
use Rattle.st_connection.proofs.Turns.{connection_lost, connection_closes, goes_on_serving, counted_on, some_turn}
use Rattle.st_connection.proofs.Ahead.{said_within, waits_within}
use Rattle.st_connection.proofs.Ending.{not_err, on_fault, on_clean, on_cut, on_closed, on_lost, on_turns, unwritten_not_lost, lost_not_unwritten}
use Rattle.st_connection.proofs.Ending.{kept_fault, kept_clean, kept_cut, kept_closed, kept_turns, kept_lost}
use Rattle.st_connection.proofs.connection.serve_connection.Goals as goal

pub reads-init : goal.reads-init
reads-init g c = record {
  serving = serving_start _ _ _ _;
  within = omega arith;
  synced = c.requires.answerer_synced;
  answerer_sound = c.requires.answerer_sound;
  block_room = refl;
  reader_sound = c.requires.reader_sound;
  writer_sound = c.requires.writer_sound;
  no_reads = λ _. refl;
  reads = λ h. omega arith;
}

pub slice_bounds-read-end : goal.slice_bounds-read-end
slice_bounds-read-end g c =
    let n = front_length _ _ c.reads.invariant.within in let t = text_short _ _ _ _ _ _ _ _ _ _ _ c.reads.invariant.serving 0 in
    omega (arith, n, t, c.reads.auto.buffer, c.requires.room)

pub returns-in_default-clause-served : goal.returns-in_default-clause-served
returns-in_default-clause-served g c = read_breaks _ _ _ _ _ _ _ _ _ _ _ c.reads.invariant.serving _ (g.X.Replies.kept c.reads.answerer) _ _ c.in_default.ensures.bytes

pub returns-then-filled-eq0-clause-served : goal.returns-then-filled-eq0-clause-served
returns-then-filled-eq0-clause-served g c =
    ends_clean _ _ _ _ _ _ _ _ _ _ _ c.reads.invariant.serving _ _ (take c.in-Ok.count c.read.new.buffer) c.in-Ok.ensures.bytes.0
    (g.X.Replies.kept c.reads.answerer) _ (front_empty _ _ c.if-count-eq0.true) (front_empty _ _ c.if-filled-eq0.true)

pub returns-else-filled-eq0-clause-served : goal.returns-else-filled-eq0-clause-served
returns-else-filled-eq0-clause-served g c =
    ends_cut _ _ _ _ _ _ _ _ _ _ _ c.reads.invariant.serving _ _ (take c.in-Ok.count c.read.new.buffer) c.in-Ok.ensures.bytes.0
    (g.X.Replies.kept c.reads.answerer) _ (front_empty _ _ c.if-count-eq0.true) (front_some _ _ c.reads.invariant.within c.if-filled-eq0.false)

pub answer_text-requires-clause-room : goal.answer_text-requires-clause-room
answer_text-requires-clause-room g c =
    let p = part_at_most c.reads.buffer c.reads.filled in
    let le : c.in-Ok.count ≤ 65536 = omega (arith, p, c.read.auto.buffer, c.in-Ok.ensures.room) in
    let n = front_length _ _ c.reads.invariant.within in
    let m = front_at_most (put_mid c.reads.filled (c.reads.filled + 65536 - c.reads.filled) c.reads.buffer c.read.new.buffer) (c.reads.filled + c.in-Ok.count) in
    let e = enough _ _ _ _ _ _ _ _ _ _ _ c.reads.invariant.serving 0 c.in-Ok.count c.reads-test.true le in omega (arith, n, m, e)

pub answer_text-requires-clause-counted : goal.answer_text-requires-clause-counted
answer_text-requires-clause-counted g c = said_within _ _ _ c.reads.invariant.serving.spoken.counted

pub answer_text-requires-clause-expected : goal.answer_text-requires-clause-expected
answer_text-requires-clause-expected g c =
    let t = text_after_read c.reads.buffer c.read.new.buffer c.reads.filled (c.reads.filled + 65536 - c.reads.filled) c.in-Ok.count c.reads.invariant.within c.in-Ok.ensures.room in
    told_still _ _ _ _ _ _ _ _ _ _ _ c.reads.invariant.serving 0 (take c.in-Ok.count c.read.new.buffer) _ t

pub answer_text-requires-clause-synced : goal.answer_text-requires-clause-synced
answer_text-requires-clause-synced g c = c.reads.invariant.synced

pub answer_text-requires-clause-sound : goal.answer_text-requires-clause-sound
answer_text-requires-clause-sound g c = c.reads.invariant.answerer_sound

pub returns-in-Err-Unwritten-clause-served : goal.returns-in-Err-Unwritten-clause-served
returns-in-Err-Unwritten-clause-served g c =
    let t = text_after_read c.reads.buffer c.read.new.buffer c.reads.filled (c.reads.filled + 65536 - c.reads.filled) c.in-Ok.count c.reads.invariant.within c.in-Ok.ensures.room in
    write_breaks _ _ _ _ _ _ _ _ _ _ _ c.reads.invariant.serving _ _ (take c.in-Ok.count c.read.new.buffer) c.in-Ok.ensures.bytes.0 _ _ t _ _ (g.X.Replies.kept c.answer_text.new.answerer) _
    (c.in-Ok.ensures.ok ∙ c.reads.invariant.reader_sound)
    (rw c.reads.invariant.block_room at
    (rw c.in-Err-Unwritten.field-0-is at
    (c.in-Err-Unwritten.ensures.answered c.reads.invariant.serving.spoken.held c.reads.invariant.serving.spoken.written
    c.reads.invariant.serving.spoken.wrote c.reads.invariant.serving.spoken.counted)))

pub returns-in-Err-Lost-clause-served : goal.returns-in-Err-Lost-clause-served
returns-in-Err-Lost-clause-served g c =
    let t = text_after_read c.reads.buffer c.read.new.buffer c.reads.filled (c.reads.filled + 65536 - c.reads.filled) c.in-Ok.count c.reads.invariant.within c.in-Ok.ensures.room in
    connection_lost _ _ _ _ _ _ _ _ _ _ _ c.reads.invariant.serving _ _ (take c.in-Ok.count c.read.new.buffer) c.in-Ok.ensures.bytes.0 _ _ t _ 0
    (g.X.Replies.kept c.answer_text.new.answerer) _
    (rw c.in-Err-Lost.field-0-is at
    (c.in-Err-Lost.ensures.answered c.reads.invariant.serving.spoken.held c.reads.invariant.serving.spoken.written
    c.reads.invariant.serving.spoken.wrote c.reads.invariant.serving.spoken.counted))

pub returns-in-Ok-Closed-clause-served : goal.returns-in-Ok-Closed-clause-served
returns-in-Ok-Closed-clause-served g c =
    let t = text_after_read c.reads.buffer c.read.new.buffer c.reads.filled (c.reads.filled + 65536 - c.reads.filled) c.in-Ok.count c.reads.invariant.within c.in-Ok.ensures.room in
    connection_closes _ _ _ _ _ _ _ _ _ _ _ c.reads.invariant.serving _ _ (take c.in-Ok.count c.read.new.buffer) c.in-Ok.ensures.bytes.0 _ _ t _ _ (g.X.Replies.kept c.answer_text.new.answerer) _
    (rw c.in-Ok-Closed.field-0-is at
    (c.in-Ok-Closed.ensures.answered c.reads.invariant.serving.spoken.held c.reads.invariant.serving.spoken.written
    c.reads.invariant.serving.spoken.wrote c.reads.invariant.serving.spoken.counted))

pub reads-preserved : goal.reads-preserved
reads-preserved g c =
    let t = text_after_read c.reads.buffer c.read.new.buffer c.reads.filled (c.reads.filled + 65536 - c.reads.filled) c.in-Ok.count c.reads.invariant.within c.in-Ok.ensures.room in
    let b = put_mid c.reads.filled (c.reads.filled + 65536 - c.reads.filled) c.reads.buffer c.read.new.buffer in
    let answered = c.in-Ok-Waits.ensures.answered c.reads.invariant.serving.spoken.held c.reads.invariant.serving.spoken.written
    c.reads.invariant.serving.spoken.wrote c.reads.invariant.serving.spoken.counted in
    let le = waits_within (WithInterim g.X.Replies.answers) 0 _ _ (g.X.Replies.kept c.answer_text.new.answerer) _ _ _ _ _
    (c.reads.filled + c.in-Ok.count) (front_at_most b (c.reads.filled + c.in-Ok.count))
    _ c.in-Ok-Waits.used _ c.in-Ok-Waits.field-0-is answered in
    let fits = part_within c.reads.buffer c.read.new.buffer c.reads.filled (c.reads.filled + 65536 - c.reads.filled) c.in-Ok.count c.reads.invariant.within c.in-Ok.ensures.room in
    let moved = ap (take (c.reads.filled + c.in-Ok.count - c.in-Ok-Waits.used)) c.copy_within.ensures.after ∙ text_after_move b c.in-Ok-Waits.used (c.reads.filled + c.in-Ok.count) le fits in
    let given = subst (λ (l : Option (List ℕ)). Consumes (g.R.Source.left c.reads.reader) l (take c.in-Ok.count c.read.new.buffer)) (sym c.answered.ensures.bytes) c.in-Ok.ensures.bytes.0 in
    record {
      serving = goes_on_serving _ _ _ _ _ _ _ _ _ _ _ c.reads.invariant.serving 0 _ (take c.in-Ok.count c.read.new.buffer) given _ _ t _ _
          (g.X.Replies.kept c.answer_text.new.answerer) _ c.in-Ok-Waits.used _ c.in-Ok-Waits.field-0-is _ moved
          (piece_at_most c.reads.buffer c.read.new.buffer c.reads.filled c.in-Ok.count c.read.auto.buffer c.in-Ok.ensures.room) answered;
      within = moved_within b c.copy_within.new.self (c.reads.filled + c.in-Ok.count) c.in-Ok-Waits.used fits c.copy_within.ensures.len;
      synced = c.in-Ok-Waits.ensures.synced (not_err _ _);
      answerer_sound = c.in-Ok-Waits.ensures.not_lost (not_err _ _);
      block_room = c.in-Ok-Waits.ensures.room_stays ∙ c.reads.invariant.block_room;
      reader_sound = c.answered.ensures.failed ∙ c.in-Ok.ensures.ok ∙ c.reads.invariant.reader_sound;
      writer_sound = c.in-Ok-Waits.ensures.ok (not_err _ _) ∙ c.reads.invariant.writer_sound;
      no_reads = some_turn c.reads.turn;
      reads = λ _. c.answered.ensures.counted ∙ counted_on _ _ _ _ c.reads.invariant.no_reads c.reads.invariant.reads c.read.ensures.counted;
    }

pub returns-clause-served : goal.returns-clause-served
returns-clause-served g c = turns_spent _ _ _ _ _ _ _ _ _ _ _ c.reads.invariant.serving _ (g.X.Replies.kept c.reads.answerer) _

pub returns-in_default-clause-kept : goal.returns-in_default-clause-kept
returns-in_default-clause-kept g c = kept_fault _ _ _ _ c.reads.invariant.synced c.reads.invariant.answerer_sound

pub returns-then-filled-eq0-clause-kept : goal.returns-then-filled-eq0-clause-kept
returns-then-filled-eq0-clause-kept g c = kept_clean _ _ _ c.reads.invariant.synced c.reads.invariant.answerer_sound

pub returns-else-filled-eq0-clause-kept : goal.returns-else-filled-eq0-clause-kept
returns-else-filled-eq0-clause-kept g c = kept_cut _ _ _ c.reads.invariant.synced c.reads.invariant.answerer_sound

pub returns-in-Err-Unwritten-clause-kept : goal.returns-in-Err-Unwritten-clause-kept
returns-in-Err-Unwritten-clause-kept g c =
    kept_fault _ _ _ _ (c.in-Err-Unwritten.ensures.synced (unwritten_not_lost _ c.in-Err-Unwritten.field-0-is))
    (c.in-Err-Unwritten.ensures.not_lost (unwritten_not_lost _ c.in-Err-Unwritten.field-0-is))

pub returns-in-Err-Lost-clause-kept : goal.returns-in-Err-Lost-clause-kept
returns-in-Err-Lost-clause-kept g c = kept_lost _ _ _ (c.in-Err-Lost.ensures.lost (ap Err c.in-Err-Lost.field-0-is))

pub returns-in-Ok-Closed-clause-kept : goal.returns-in-Ok-Closed-clause-kept
returns-in-Ok-Closed-clause-kept g c =
    kept_closed _ _ _ (c.in-Ok-Closed.ensures.synced (not_err _ _)) (c.in-Ok-Closed.ensures.not_lost (not_err _ _))

pub returns-clause-kept : goal.returns-clause-kept
returns-clause-kept g c = kept_turns _ _ _ c.reads.invariant.synced c.reads.invariant.answerer_sound

pub returns-in_default-clause-ends : goal.returns-in_default-clause-ends
returns-in_default-clause-ends g c = on_fault _ _ _ (inl c.in_default.ensures.err)

pub returns-then-filled-eq0-clause-ends : goal.returns-then-filled-eq0-clause-ends
returns-then-filled-eq0-clause-ends g c = on_clean _ _ (c.in-Ok.ensures.ok ∙ c.reads.invariant.reader_sound, c.reads.invariant.writer_sound) (search rules)

pub returns-else-filled-eq0-clause-ends : goal.returns-else-filled-eq0-clause-ends
returns-else-filled-eq0-clause-ends g c = on_cut _ _ (c.in-Ok.ensures.ok ∙ c.reads.invariant.reader_sound, c.reads.invariant.writer_sound) (search rules)

pub returns-in-Err-Unwritten-clause-ends : goal.returns-in-Err-Unwritten-clause-ends
returns-in-Err-Unwritten-clause-ends g c = on_fault _ _ _ (inr (c.in-Err-Unwritten.ensures.unwritten (ap Err c.in-Err-Unwritten.field-0-is)))

pub returns-in-Err-Lost-clause-ends : goal.returns-in-Err-Lost-clause-ends
returns-in-Err-Lost-clause-ends g c = on_lost _ _ (
  c.in-Ok.ensures.ok ∙ c.reads.invariant.reader_sound,
  c.in-Err-Lost.ensures.ok (lost_not_unwritten _ c.in-Err-Lost.field-0-is) ∙ c.reads.invariant.writer_sound,
)

pub returns-in-Ok-Closed-clause-ends : goal.returns-in-Ok-Closed-clause-ends
returns-in-Ok-Closed-clause-ends g c = on_closed _ _ (
  c.in-Ok.ensures.ok ∙ c.reads.invariant.reader_sound,
  c.in-Ok-Closed.ensures.ok (not_err _ _) ∙ c.reads.invariant.writer_sound,
)

pub returns-clause-ends : goal.returns-clause-ends
returns-clause-ends g c = on_turns _ _ (c.reads.invariant.reader_sound, c.reads.invariant.writer_sound) (search rules)

pub overflow_add-filled-in-reads : goal.overflow_add-filled-in-reads
overflow_add-filled-in-reads g c =
    let fits = part_within c.reads.buffer c.read.new.buffer c.reads.filled (c.reads.filled + 65536 - c.reads.filled) c.in-Ok.count c.reads.invariant.within c.in-Ok.ensures.room in
    omega (arith, fits)

pub slice_bounds-answer_text-end : goal.slice_bounds-answer_text-end
slice_bounds-answer_text-end g c =
    let fits = part_within c.reads.buffer c.read.new.buffer c.reads.filled (c.reads.filled + 65536 - c.reads.filled) c.in-Ok.count c.reads.invariant.within c.in-Ok.ensures.room in
    omega (arith, fits)

pub slice_bounds-answer_text-end-in-reads : goal.slice_bounds-answer_text-end-in-reads
slice_bounds-answer_text-end-in-reads g c =
    let fits = part_within c.reads.buffer c.read.new.buffer c.reads.filled (c.reads.filled + 65536 - c.reads.filled) c.in-Ok.count c.reads.invariant.within c.in-Ok.ensures.room in
    omega (arith, front_length (put_mid c.reads.filled (c.reads.filled + 65536 - c.reads.filled) c.reads.buffer c.read.new.buffer) (c.reads.filled + c.in-Ok.count) fits)

pub copy_within-requires-clause-start_le_end : goal.copy_within-requires-clause-start_le_end
copy_within-requires-clause-start_le_end g c =
    waits_within (WithInterim g.X.Replies.answers) 0 _ _ (g.X.Replies.kept c.answer_text.new.answerer) _ _ _ _ _ (c.reads.filled + c.in-Ok.count)
    (front_at_most (put_mid c.reads.filled (c.reads.filled + 65536 - c.reads.filled) c.reads.buffer c.read.new.buffer) (c.reads.filled + c.in-Ok.count))
    _ c.in-Ok-Waits.used _ c.in-Ok-Waits.field-0-is
    (c.in-Ok-Waits.ensures.answered c.reads.invariant.serving.spoken.held c.reads.invariant.serving.spoken.written
    c.reads.invariant.serving.spoken.wrote c.reads.invariant.serving.spoken.counted)

pub copy_within-requires-clause-in_bounds : goal.copy_within-requires-clause-in_bounds
copy_within-requires-clause-in_bounds g c =
    let fits = part_within c.reads.buffer c.read.new.buffer c.reads.filled (c.reads.filled + 65536 - c.reads.filled) c.in-Ok.count c.reads.invariant.within c.in-Ok.ensures.room in
    omega (arith, fits)

pub copy_within-requires-clause-dest_in_bounds : goal.copy_within-requires-clause-dest_in_bounds
copy_within-requires-clause-dest_in_bounds g c =
    let fits = part_within c.reads.buffer c.read.new.buffer c.reads.filled (c.reads.filled + 65536 - c.reads.filled) c.in-Ok.count c.reads.invariant.within c.in-Ok.ensures.room in
    omega (arith, fits)

pub overflow_sub-filled : goal.overflow_sub-filled
overflow_sub-filled g c =
    waits_within (WithInterim g.X.Replies.answers) 0 _ _ (g.X.Replies.kept c.answer_text.new.answerer) _ _ _ _ _ (c.reads.filled + c.in-Ok.count)
    (front_at_most (put_mid c.reads.filled (c.reads.filled + 65536 - c.reads.filled) c.reads.buffer c.read.new.buffer) (c.reads.filled + c.in-Ok.count))
    _ c.in-Ok-Waits.used _ c.in-Ok-Waits.field-0-is
    (c.in-Ok-Waits.ensures.answered c.reads.invariant.serving.spoken.held c.reads.invariant.serving.spoken.written
    c.reads.invariant.serving.spoken.wrote c.reads.invariant.serving.spoken.counted)
