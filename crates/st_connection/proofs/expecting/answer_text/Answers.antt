use Rattle.std.proofs.Common.{◌+◌, ◌-◌, ℕ, List, None, length, drop, refl, ◌∙◌, subst, arith}
use Rattle.st_http.specs.First.{IsFirst}
use Rattle.st_connection.specs.Connection.{WithInterim}
use Rattle.st_connection.specs.Render.{interim}
use Rattle.st_connection.proofs.Joins.{whole_none}
use Rattle.st_connection.proofs.Passes.{fits_text, piece_is}
use Rattle.st_connection.proofs.Ahead.{first_stops, first_closes, first_waits, first_open, then_stops, then_closes, then_waits, then_told}
use Rattle.st_connection.proofs.Ahead.{whole_bound, spoken_bound, smaller, told_first, open_within, open_some, then_within, room_first, room_left}
use Rattle.st_connection.proofs.Ahead.{taken_back, said_within}
use Rattle.st_connection.proofs.Ending.{not_err}
use Rattle.st_connection.proofs.expecting.answer_text.Goals as goal

pub items-init : goal.items-init
items-init g c = record {
  spoken = λ base before wrote counted. record { held = base; written = before; whole = whole_none _ _ _ _ _; wrote = wrote; counted = counted };
  expected = c.requires.expected;
  within = omega arith;
  synced = c.requires.synced;
  room = refl;
  sound = refl;
  answerer_sound = c.requires.sound;
}

pub answer_expecting-requires-clause-room : goal.answer_expecting-requires-clause-room
answer_expecting-requires-clause-room g c =
    let sp = c.items.invariant.spoken None (c.args.written.now - length (interim c.args.was_told)) tt (taken_back _ _ c.requires.counted) in
    room_first c.args.text.now (drop c.items.used c.args.text.now) _ _ (length (interim c.args.was_told)) (spoken_bound _ _ _ _ _ _ _ _ _ _ sp) c.requires.room

pub answer_expecting-requires-clause-counted : goal.answer_expecting-requires-clause-counted
answer_expecting-requires-clause-counted g c =
    let sp = c.items.invariant.spoken None (c.args.written.now - length (interim c.args.was_told)) tt (taken_back _ _ c.requires.counted) in
    said_within _ _ _ sp.counted

pub answer_expecting-requires-clause-expected : goal.answer_expecting-requires-clause-expected
answer_expecting-requires-clause-expected g c e item is =
    c.items.invariant.expected e item (subst (λ (t : List ℕ). IsFirst t item) (piece_is c.args.text.now c.items.used) is)

pub returns-in-Err-clause-answered : goal.returns-in-Err-clause-answered
returns-in-Err-clause-answered g c base before wrote counted =
    let sp = c.items.invariant.spoken base before wrote counted in
    first_stops (WithInterim g.X.Replies.answers) _ _ _ c.args.text.now c.items.used base sp.held before sp.written sp.whole _ _ _ _ c.items.told c.in-Err.why
    (c.in-Err.ensures.answered (length c.args.block.now) sp.held sp.written sp.wrote sp.counted)

pub returns-in-Ok-Waits-clause-answered : goal.returns-in-Ok-Waits-clause-answered
returns-in-Ok-Waits-clause-answered g c base before wrote counted =
    let sp = c.items.invariant.spoken base before wrote counted in
    first_waits (WithInterim g.X.Replies.answers) 0 _ _ c.args.text.now c.items.used base sp.held before sp.written sp.whole _
    (g.X.Replies.kept c.answer_expecting.new.answerer) _ _ c.items.told _ _ c.in-Ok-Waits.field-0-is c.items.invariant.within
    (c.in-Ok-Waits.ensures.answered 0 sp.held sp.written sp.wrote sp.counted)

pub returns-in-Ok-Closed-clause-answered : goal.returns-in-Ok-Closed-clause-answered
returns-in-Ok-Closed-clause-answered g c base before wrote counted =
    let sp = c.items.invariant.spoken base before wrote counted in
    first_closes (WithInterim g.X.Replies.answers) 0 _ _ c.args.text.now c.items.used base sp.held before sp.written sp.whole _
    (g.X.Replies.kept c.answer_expecting.new.answerer) _ _ c.items.told _ c.in-Ok-Closed.field-0-is
    (c.in-Ok-Closed.ensures.answered 0 sp.held sp.written sp.wrote sp.counted)

pub overflow_add-used : goal.overflow_add-used
overflow_add-used g c =
    let sp = c.items.invariant.spoken None (c.args.written.now - length (interim c.args.was_told)) tt (taken_back _ _ c.requires.counted) in
    fits_text c.args.text.now _
    (open_within (WithInterim g.X.Replies.answers) 0 _ _ (g.X.Replies.kept c.answer_expecting.new.answerer) c.args.text.now c.items.used
    c.items.invariant.within _ _ _ _ _ _ _ c.in-Ok-Open.field-0-is (c.in-Ok-Open.ensures.answered 0 sp.held sp.written sp.wrote sp.counted))
    (let w = c.well_formed in w.1.1.0.0)

pub slice_bounds-answer_on-count : goal.slice_bounds-answer_on-count
slice_bounds-answer_on-count g c =
    let sp = c.items.invariant.spoken None (c.args.written.now - length (interim c.args.was_told)) tt (taken_back _ _ c.requires.counted) in
    open_within (WithInterim g.X.Replies.answers) 0 _ _ (g.X.Replies.kept c.answer_expecting.new.answerer) c.args.text.now c.items.used
    c.items.invariant.within _ _ _ _ _ _ _ c.in-Ok-Open.field-0-is (c.in-Ok-Open.ensures.answered 0 sp.held sp.written sp.wrote sp.counted)

pub slice_bounds-answer_on-start : goal.slice_bounds-answer_on-start
slice_bounds-answer_on-start g c =
    let sp = c.items.invariant.spoken None (c.args.written.now - length (interim c.args.was_told)) tt (taken_back _ _ c.requires.counted) in
    open_within (WithInterim g.X.Replies.answers) 0 _ _ (g.X.Replies.kept c.answer_expecting.new.answerer) c.args.text.now c.items.used
    c.items.invariant.within _ _ _ _ _ _ _ c.in-Ok-Open.field-0-is (c.in-Ok-Open.ensures.answered 0 sp.held sp.written sp.wrote sp.counted)

pub answer_on-requires-clause-room : goal.answer_on-requires-clause-room
answer_on-requires-clause-room g c =
    let sp = c.items.invariant.spoken None (c.args.written.now - length (interim c.args.was_told)) tt (taken_back _ _ c.requires.counted) in
    let whole = first_open (WithInterim g.X.Replies.answers) 0 _ _ c.args.text.now c.items.used None sp.held _ sp.written sp.whole _
    (g.X.Replies.kept c.answer_expecting.new.answerer) _ _ c.items.told _ c.in-Ok-Open.count c.in-Ok-Open.field-0-is
    (c.in-Ok-Open.ensures.answered 0 sp.held sp.written sp.wrote sp.counted) in
    room_left c.args.text.now (c.items.used + c.in-Ok-Open.count) _ _ (length (interim c.args.was_told)) (whole_bound _ _ _ _ _ _ _ _ _ whole) c.requires.room

pub returns-in-Err-answer_on-clause-answered : goal.returns-in-Err-answer_on-clause-answered
returns-in-Err-answer_on-clause-answered g c base before wrote counted =
    let sp = c.items.invariant.spoken base before wrote counted in
    let whole = first_open (WithInterim g.X.Replies.answers) 0 _ _ c.args.text.now c.items.used base sp.held before sp.written sp.whole _
    (g.X.Replies.kept c.answer_expecting.new.answerer) _ _ c.items.told _ c.in-Ok-Open.count c.in-Ok-Open.field-0-is
    (c.in-Ok-Open.ensures.answered 0 sp.held sp.written sp.wrote sp.counted) in
    then_stops (WithInterim g.X.Replies.answers) _ _ _ c.args.text.now (c.items.used + c.in-Ok-Open.count) base _ before _ whole _ _ _ _ c.in-Err-answer_on.why
    (length c.items.block) c.items.invariant.room c.in-Err-answer_on.ensures.answered

pub returns-in-Ok-Closed-answer_on-clause-answered : goal.returns-in-Ok-Closed-answer_on-clause-answered
returns-in-Ok-Closed-answer_on-clause-answered g c base before wrote counted =
    let sp = c.items.invariant.spoken base before wrote counted in
    let whole = first_open (WithInterim g.X.Replies.answers) 0 _ _ c.args.text.now c.items.used base sp.held before sp.written sp.whole _
    (g.X.Replies.kept c.answer_expecting.new.answerer) _ _ c.items.told _ c.in-Ok-Open.count c.in-Ok-Open.field-0-is
    (c.in-Ok-Open.ensures.answered 0 sp.held sp.written sp.wrote sp.counted) in
    then_closes (WithInterim g.X.Replies.answers) 0 _ _ c.args.text.now (c.items.used + c.in-Ok-Open.count) base _ before _ whole _
    (g.X.Replies.kept c.answer_on.new.answerer) _ _ _ c.in-Ok-Closed-answer_on.field-0-is
    c.in-Ok-Closed-answer_on.ensures.answered

pub returns-then-not-due-clause-answered : goal.returns-then-not-due-clause-answered
returns-then-not-due-clause-answered g c base before wrote counted =
    let sp = c.items.invariant.spoken base before wrote counted in
    let whole = first_open (WithInterim g.X.Replies.answers) 0 _ _ c.args.text.now c.items.used base sp.held before sp.written sp.whole _
    (g.X.Replies.kept c.answer_expecting.new.answerer) _ _ c.items.told _ c.in-Ok-Open.count c.in-Ok-Open.field-0-is
    (c.in-Ok-Open.ensures.answered 0 sp.held sp.written sp.wrote sp.counted) in
    then_waits (WithInterim g.X.Replies.answers) 0 _ _ c.args.text.now (c.items.used + c.in-Ok-Open.count) base _ before _ whole _
    (g.X.Replies.kept c.answer_on.new.answerer) _ _ _ c.in-Ok-Waits-answer_on.count _ c.in-Ok-Waits-answer_on.field-0-is c.if-not-due.true
    (open_within (WithInterim g.X.Replies.answers) 0 _ _ (g.X.Replies.kept c.answer_expecting.new.answerer) c.args.text.now c.items.used
    c.items.invariant.within _ _ _ _ _ _ _ c.in-Ok-Open.field-0-is (c.in-Ok-Open.ensures.answered 0 sp.held sp.written sp.wrote sp.counted))
    c.in-Ok-Waits-answer_on.ensures.answered

pub overflow_add-used-in-Ok-Waits-answer_on : goal.overflow_add-used-in-Ok-Waits-answer_on
overflow_add-used-in-Ok-Waits-answer_on g c =
    let sp = c.items.invariant.spoken None (c.args.written.now - length (interim c.args.was_told)) tt (taken_back _ _ c.requires.counted) in
    fits_text c.args.text.now _
    (then_within (WithInterim g.X.Replies.answers) 0 _ _ (g.X.Replies.kept c.answer_on.new.answerer) c.args.text.now
    (c.items.used + c.in-Ok-Open.count)
    (open_within (WithInterim g.X.Replies.answers) 0 _ _ (g.X.Replies.kept c.answer_expecting.new.answerer) c.args.text.now c.items.used
    c.items.invariant.within _ _ _ _ _ _ _ c.in-Ok-Open.field-0-is (c.in-Ok-Open.ensures.answered 0 sp.held sp.written sp.wrote sp.counted)) _ _ _
    _ _ _ _ c.in-Ok-Waits-answer_on.field-0-is c.in-Ok-Waits-answer_on.ensures.answered) (let w = c.well_formed in w.1.1.0.0)

pub items-preserved : goal.items-preserved
items-preserved g c =
    let sp = c.items.invariant.spoken None (c.args.written.now - length (interim c.args.was_told)) tt (taken_back _ _ c.requires.counted) in
    let whole = first_open (WithInterim g.X.Replies.answers) 0 _ _ c.args.text.now c.items.used None sp.held _ sp.written sp.whole _
    (g.X.Replies.kept c.answer_expecting.new.answerer) _ _ c.items.told _ c.in-Ok-Open.count c.in-Ok-Open.field-0-is
    (c.in-Ok-Open.ensures.answered 0 sp.held sp.written sp.wrote sp.counted) in
    record {
      spoken = λ base before wrote counted.
          let sp = c.items.invariant.spoken base before wrote counted in
          let whole = first_open (WithInterim g.X.Replies.answers) 0 _ _ c.args.text.now c.items.used base sp.held before sp.written sp.whole _
          (g.X.Replies.kept c.answer_expecting.new.answerer) _ _ c.items.told _ c.in-Ok-Open.count c.in-Ok-Open.field-0-is
          (c.in-Ok-Open.ensures.answered 0 sp.held sp.written sp.wrote sp.counted) in
          (then_told (WithInterim g.X.Replies.answers) 0 _ _ c.args.text.now (c.items.used + c.in-Ok-Open.count) base _ before _ whole _
          (g.X.Replies.kept c.answer_on.new.answerer) _ _ _ c.in-Ok-Waits-answer_on.count _ c.in-Ok-Waits-answer_on.field-0-is c.if-not-due.false
          c.in-Ok-Waits-answer_on.ensures.answered).1;
      expected = λ e. told_first _
          (then_told (WithInterim g.X.Replies.answers) 0 _ _ c.args.text.now (c.items.used + c.in-Ok-Open.count) None _ _ _ whole _
          (g.X.Replies.kept c.answer_on.new.answerer) _ _ _ c.in-Ok-Waits-answer_on.count _ c.in-Ok-Waits-answer_on.field-0-is c.if-not-due.false
          c.in-Ok-Waits-answer_on.ensures.answered).0;
      within = then_within (WithInterim g.X.Replies.answers) 0 _ _ (g.X.Replies.kept c.answer_on.new.answerer) c.args.text.now
          (c.items.used + c.in-Ok-Open.count)
          (open_within (WithInterim g.X.Replies.answers) 0 _ _ (g.X.Replies.kept c.answer_expecting.new.answerer) c.args.text.now c.items.used
          c.items.invariant.within _ _ _ _ _ _ _ c.in-Ok-Open.field-0-is (c.in-Ok-Open.ensures.answered 0 sp.held sp.written sp.wrote sp.counted)) _ _
          _ _ _ _ _ c.in-Ok-Waits-answer_on.field-0-is c.in-Ok-Waits-answer_on.ensures.answered;
      synced = c.in-Ok-Waits-answer_on.ensures.synced (not_err _ _);
      room = c.in-Ok-Waits-answer_on.ensures.room_stays ∙ c.items.invariant.room;
      sound = c.in-Ok-Waits-answer_on.ensures.ok (not_err _ _) ∙ c.in-Ok-Open.ensures.ok (not_err _ _) ∙ c.items.invariant.sound;
      answerer_sound = c.in-Ok-Waits-answer_on.ensures.not_lost (not_err _ _);
    }

pub items-smaller : goal.items-smaller
items-smaller g c =
    let sp = c.items.invariant.spoken None (c.args.written.now - length (interim c.args.was_told)) tt (taken_back _ _ c.requires.counted) in
    smaller (length c.args.text.now) c.items.used c.in-Ok-Open.count c.in-Ok-Waits-answer_on.count c.items.told
    (open_some (WithInterim g.X.Replies.answers) 0 _ _ (g.X.Replies.kept c.answer_expecting.new.answerer) c.args.text.now c.items.used
    c.items.invariant.within _ _ _ _ _ _ _ c.in-Ok-Open.field-0-is (c.in-Ok-Open.ensures.answered 0 sp.held sp.written sp.wrote sp.counted))
    (then_within (WithInterim g.X.Replies.answers) 0 _ _ (g.X.Replies.kept c.answer_on.new.answerer) c.args.text.now
    (c.items.used + c.in-Ok-Open.count)
    (open_within (WithInterim g.X.Replies.answers) 0 _ _ (g.X.Replies.kept c.answer_expecting.new.answerer) c.args.text.now c.items.used
    c.items.invariant.within _ _ _ _ _ _ _ c.in-Ok-Open.field-0-is (c.in-Ok-Open.ensures.answered 0 sp.held sp.written sp.wrote sp.counted)) _ _ _
    _ _ _ _ c.in-Ok-Waits-answer_on.field-0-is c.in-Ok-Waits-answer_on.ensures.answered)
