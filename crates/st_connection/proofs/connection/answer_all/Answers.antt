use Rattle.std.proofs.Common.{refl, sym, take, ◌∙◌, arith}
use Rattle.st_connection.specs.Connection.{WithInterim}
use Rattle.st_connection.proofs.Joins.{whole_none}
use Rattle.st_connection.proofs.Blocks.{gathered_none}
use Rattle.st_connection.proofs.Passes.{block_length, written_bound, next_breaks, goes_on, waits, waits_breaks, closes, closes_breaks, at_most_is}
use Rattle.st_connection.proofs.Passes.{next_within, next_smaller, front_whole, fits_text, room_waits, room_closes, front_below}
use Rattle.st_connection.proofs.Ending.{not_err, same_err, synced_unless}
use Rattle.st_connection.proofs.connection.answer_all.Goals as goal

pub items-init : goal.items-init
items-init g c = record {
  gathered = gathered_none _ _ _ _ _ _ _ _ _ _ _ _ (whole_none _ _ _ _ _) refl c.requires.synced;
  within = omega arith;
  held_within = omega arith;
  room = refl;
  sound = refl;
  answerer_sound = c.requires.sound;
}

pub answer_next-requires-clause-room : goal.answer_next-requires-clause-room
answer_next-requires-clause-room g c = let b = written_bound _ _ _ _ _ _ _ _ _ _ _ _ c.items.invariant.gathered in omega (arith, b, c.requires.room)

pub returns-in-Err-clause-answered : goal.returns-in-Err-clause-answered
returns-in-Err-clause-answered g c =
    next_breaks _ _ _ _ _ _ _ _ _ _ _ _ c.items.invariant.gathered (block_length _ _ _ c.items.invariant.held_within) _ _ _ _
    (take c.answer_next.new.held c.answer_next.new.block) _ c.in-Err.ensures.answered

pub items-preserved : goal.items-preserved
items-preserved g c =
    record {
      gathered = goes_on _ _ _ _ _ _ _ _ _ _ _ _ c.items.invariant.gathered (block_length _ _ _ c.items.invariant.held_within) _ _ _ _
          (take c.answer_next.new.held c.answer_next.new.block) _ c.in-Ok-Open.count c.in-Ok-Open.field-0-is c.in-Ok-Open.ensures.answered;
      within = next_within (WithInterim g.X.Replies.answers) _ _ _ _ c.args.text.now c.items.used _ _ _ _ _ _ _ c.in-Ok-Open.ensures.answered
          c.in-Ok-Open.count c.in-Ok-Open.field-0-is c.items.invariant.within;
      held_within = at_most_is _ _ _ c.in-Ok-Open.ensures.within_stays c.items.invariant.room;
      room = c.in-Ok-Open.ensures.room_stays ∙ c.items.invariant.room;
      sound = c.in-Ok-Open.ensures.ok (not_err _ _) ∙ c.items.invariant.sound;
      answerer_sound = c.in-Ok-Open.ensures.not_lost (not_err _ _);
    }

pub flush-requires-clause-room : goal.flush-requires-clause-room
flush-requires-clause-room g c =
    room_waits (WithInterim g.X.Replies.answers) _ _ _ _ c.args.text.now c.items.used _ _ _ _ _ _ _ c.in-Ok-Waits.ensures.answered _
    (written_bound _ _ _ _ _ _ _ _ _ _ _ _ c.items.invariant.gathered) c.requires.room _ c.in-Ok-Waits.field-0-is

pub flush-requires-in-Ok-Closed-clause-room : goal.flush-requires-in-Ok-Closed-clause-room
flush-requires-in-Ok-Closed-clause-room g c =
    room_closes (WithInterim g.X.Replies.answers) _ _ _ _ c.args.text.now c.items.used _ _ _ _ _ _ _ c.in-Ok-Closed.ensures.answered _
    (written_bound _ _ _ _ _ _ _ _ _ _ _ _ c.items.invariant.gathered) c.requires.room c.in-Ok-Closed.field-0-is
    (front_below c.items.block c.items.held _ _ c.items.invariant.held_within (let w = c.well_formed in w.1.1.1.0.0))

pub returns-in-Ok-clause-answered : goal.returns-in-Ok-clause-answered
returns-in-Ok-clause-answered g c =
    waits _ _ _ _ _ _ _ _ _ _ _ _ c.items.invariant.gathered (block_length _ _ _ c.items.invariant.held_within) _ _ _ _
    (take c.answer_next.new.held c.answer_next.new.block) _ _ c.in-Ok.ensures.now _ _ _ _ c.in-Ok-Waits.field-0-is c.items.invariant.within
    c.in-Ok-Waits.ensures.answered c.in-Ok.ensures.passed

pub returns-in-Err-flush-clause-answered : goal.returns-in-Err-flush-clause-answered
returns-in-Err-flush-clause-answered g c =
    waits_breaks _ _ _ _ _ _ _ _ _ _ _ _ c.items.invariant.gathered (block_length _ _ _ c.items.invariant.held_within) _ _ _ _
    (take c.answer_next.new.held c.answer_next.new.block) _ _ c.in-Err-flush.ensures.now _ _ _ _ c.in-Ok-Waits.field-0-is
    c.in-Ok-Waits.ensures.answered _ c.in-Err-flush.ensures.passed

pub returns-in-Ok-flush-clause-answered : goal.returns-in-Ok-flush-clause-answered
returns-in-Ok-flush-clause-answered g c =
    closes _ _ _ _ _ _ _ _ _ _ _ _ c.items.invariant.gathered (block_length _ _ _ c.items.invariant.held_within) _ _ _ _
    (take c.answer_next.new.held c.answer_next.new.block) _ _ c.in-Ok-flush.ensures.now _ _ _ c.in-Ok-Closed.field-0-is
    c.in-Ok-Closed.ensures.answered c.in-Ok-flush.ensures.passed

pub returns-in-Err-flush-2-clause-answered : goal.returns-in-Err-flush-2-clause-answered
returns-in-Err-flush-2-clause-answered g c =
    closes_breaks _ _ _ _ _ _ _ _ _ _ _ _ c.items.invariant.gathered (block_length _ _ _ c.items.invariant.held_within) _ _ _ _
    (take c.answer_next.new.held c.answer_next.new.block) _ _ c.in-Err-flush-2.ensures.now _ _ _ c.in-Ok-Closed.field-0-is
    c.in-Ok-Closed.ensures.answered _ c.in-Err-flush-2.ensures.passed

pub returns-in-Err-clause-synced : goal.returns-in-Err-clause-synced
returns-in-Err-clause-synced g c = synced_unless _ c.in-Err.ensures.synced

pub returns-in-Err-clause-lost : goal.returns-in-Err-clause-lost
returns-in-Err-clause-lost g c = λ e. c.in-Err.ensures.lost (same_err _ _ e)

pub returns-in-Err-clause-unwritten : goal.returns-in-Err-clause-unwritten
returns-in-Err-clause-unwritten g c = λ e. c.in-Err.ensures.unwritten (same_err _ _ e)

pub returns-in-Err-clause-not_lost : goal.returns-in-Err-clause-not_lost
returns-in-Err-clause-not_lost g c = λ n. c.in-Err.ensures.not_lost (λ e. n (same_err _ _ e))

pub returns-in-Err-clause-ok : goal.returns-in-Err-clause-ok
returns-in-Err-clause-ok g c = λ n. c.in-Err.ensures.ok (λ e. n (same_err _ _ e)) ∙ c.items.invariant.sound

pub returns-in-Err-clause-room_stays : goal.returns-in-Err-clause-room_stays
returns-in-Err-clause-room_stays g c = c.in-Err.ensures.room_stays ∙ c.items.invariant.room

pub returns-in-Ok-clause-synced : goal.returns-in-Ok-clause-synced
returns-in-Ok-clause-synced g c = λ n. c.in-Ok.ensures.synced (not_err _ _) ∙ sym c.in-Ok.ensures.now

pub returns-in-Ok-clause-lost : goal.returns-in-Ok-clause-lost
returns-in-Ok-clause-lost g c = λ e. absurd (not_err _ _ e)

pub returns-in-Ok-clause-unwritten : goal.returns-in-Ok-clause-unwritten
returns-in-Ok-clause-unwritten g c = λ e. absurd (not_err _ _ e)

pub returns-in-Ok-clause-not_lost : goal.returns-in-Ok-clause-not_lost
returns-in-Ok-clause-not_lost g c = λ n. c.in-Ok.ensures.not_lost (not_err _ _)

pub returns-in-Ok-clause-ok : goal.returns-in-Ok-clause-ok
returns-in-Ok-clause-ok g c = λ n. c.in-Ok.ensures.ok (not_err _ _) ∙ c.in-Ok-Waits.ensures.ok (not_err _ _) ∙ c.items.invariant.sound

pub returns-in-Ok-clause-room_stays : goal.returns-in-Ok-clause-room_stays
returns-in-Ok-clause-room_stays g c = c.in-Ok-Waits.ensures.room_stays ∙ c.items.invariant.room

pub returns-in-Ok-flush-clause-synced : goal.returns-in-Ok-flush-clause-synced
returns-in-Ok-flush-clause-synced g c = λ n. c.in-Ok-flush.ensures.synced (not_err _ _) ∙ sym c.in-Ok-flush.ensures.now

pub returns-in-Ok-flush-clause-lost : goal.returns-in-Ok-flush-clause-lost
returns-in-Ok-flush-clause-lost g c = λ e. absurd (not_err _ _ e)

pub returns-in-Ok-flush-clause-unwritten : goal.returns-in-Ok-flush-clause-unwritten
returns-in-Ok-flush-clause-unwritten g c = λ e. absurd (not_err _ _ e)

pub returns-in-Ok-flush-clause-not_lost : goal.returns-in-Ok-flush-clause-not_lost
returns-in-Ok-flush-clause-not_lost g c = λ n. c.in-Ok-flush.ensures.not_lost (not_err _ _)

pub returns-in-Ok-flush-clause-ok : goal.returns-in-Ok-flush-clause-ok
returns-in-Ok-flush-clause-ok g c = λ n. c.in-Ok-flush.ensures.ok (not_err _ _) ∙ c.in-Ok-Closed.ensures.ok (not_err _ _) ∙ c.items.invariant.sound

pub returns-in-Ok-flush-clause-room_stays : goal.returns-in-Ok-flush-clause-room_stays
returns-in-Ok-flush-clause-room_stays g c = c.in-Ok-Closed.ensures.room_stays ∙ c.items.invariant.room

pub returns-in-Err-flush-clause-synced : goal.returns-in-Err-flush-clause-synced
returns-in-Err-flush-clause-synced g c = λ n. c.in-Err-flush.ensures.synced (λ e. n (same_err _ _ e)) ∙ sym c.in-Err-flush.ensures.now

pub returns-in-Err-flush-clause-lost : goal.returns-in-Err-flush-clause-lost
returns-in-Err-flush-clause-lost g c = λ e. c.in-Err-flush.ensures.lost (same_err _ _ e)

pub returns-in-Err-flush-clause-unwritten : goal.returns-in-Err-flush-clause-unwritten
returns-in-Err-flush-clause-unwritten g c = λ e. c.in-Err-flush.ensures.unwritten (same_err _ _ e)

pub returns-in-Err-flush-clause-not_lost : goal.returns-in-Err-flush-clause-not_lost
returns-in-Err-flush-clause-not_lost g c = λ n. c.in-Err-flush.ensures.not_lost (λ e. n (same_err _ _ e))

pub returns-in-Err-flush-clause-ok : goal.returns-in-Err-flush-clause-ok
returns-in-Err-flush-clause-ok g c = λ n. c.in-Err-flush.ensures.ok (λ e. n (same_err _ _ e)) ∙ c.in-Ok-Waits.ensures.ok (not_err _ _) ∙ c.items.invariant.sound

pub returns-in-Err-flush-clause-room_stays : goal.returns-in-Err-flush-clause-room_stays
returns-in-Err-flush-clause-room_stays g c = c.in-Ok-Waits.ensures.room_stays ∙ c.items.invariant.room

pub returns-in-Err-flush-2-clause-synced : goal.returns-in-Err-flush-2-clause-synced
returns-in-Err-flush-2-clause-synced g c = λ n. c.in-Err-flush-2.ensures.synced (λ e. n (same_err _ _ e)) ∙ sym c.in-Err-flush-2.ensures.now

pub returns-in-Err-flush-2-clause-lost : goal.returns-in-Err-flush-2-clause-lost
returns-in-Err-flush-2-clause-lost g c = λ e. c.in-Err-flush-2.ensures.lost (same_err _ _ e)

pub returns-in-Err-flush-2-clause-unwritten : goal.returns-in-Err-flush-2-clause-unwritten
returns-in-Err-flush-2-clause-unwritten g c = λ e. c.in-Err-flush-2.ensures.unwritten (same_err _ _ e)

pub returns-in-Err-flush-2-clause-not_lost : goal.returns-in-Err-flush-2-clause-not_lost
returns-in-Err-flush-2-clause-not_lost g c = λ n. c.in-Err-flush-2.ensures.not_lost (λ e. n (same_err _ _ e))

pub returns-in-Err-flush-2-clause-ok : goal.returns-in-Err-flush-2-clause-ok
returns-in-Err-flush-2-clause-ok g c = λ n. c.in-Err-flush-2.ensures.ok (λ e. n (same_err _ _ e)) ∙ c.in-Ok-Closed.ensures.ok (not_err _ _) ∙ c.items.invariant.sound

pub returns-in-Err-flush-2-clause-room_stays : goal.returns-in-Err-flush-2-clause-room_stays
returns-in-Err-flush-2-clause-room_stays g c = c.in-Ok-Closed.ensures.room_stays ∙ c.items.invariant.room

pub slice_bounds-flush-end-in-Ok-Waits : goal.slice_bounds-flush-end-in-Ok-Waits
slice_bounds-flush-end-in-Ok-Waits g c = front_whole _ _ _ c.in-Ok-Waits.ensures.within_stays c.in-Ok-Waits.ensures.room_stays

pub slice_bounds-flush-end-in-Ok-Closed-2 : goal.slice_bounds-flush-end-in-Ok-Closed-2
slice_bounds-flush-end-in-Ok-Closed-2 g c = front_whole _ _ _ c.in-Ok-Closed.ensures.within_stays c.in-Ok-Closed.ensures.room_stays

pub overflow_add-used : goal.overflow_add-used
overflow_add-used g c = fits_text c.args.text.now _
    (next_within (WithInterim g.X.Replies.answers) _ _ _ _ c.args.text.now c.items.used _ _ _ _ _ _ _ c.in-Ok-Open.ensures.answered c.in-Ok-Open.count
    c.in-Ok-Open.field-0-is c.items.invariant.within) (let w = c.well_formed in w.1.1.0.0)

pub items-smaller : goal.items-smaller
items-smaller g c =
    next_smaller (WithInterim g.X.Replies.answers) _ _ _ _ c.args.text.now c.items.used _ _ _ _ _ _ _ c.in-Ok-Open.ensures.answered c.in-Ok-Open.count c.in-Ok-Open.field-0-is c.items.invariant.within
