use Rattle.std.proofs.Common.{refl}
use Rattle.std.specs.Fmt.{digits}
use Rattle.st_http.specs.Reply.{head_text}
use Rattle.st_connection.specs.Render.{render}
use Rattle.st_connection.proofs.constant.busy_text.Goals as goal

pub returns-in-true-true : goal.returns-in-true-true
unfolding digits head_text render
returns-in-true-true c = rw (c.in-true-true.is-0, c.in-true-true.is-1) refl

pub returns-in-true-false : goal.returns-in-true-false
unfolding digits head_text render
returns-in-true-false c = rw (c.in-true-false.is-0, c.in-true-false.is-1) refl

pub returns-in-false-true : goal.returns-in-false-true
unfolding digits head_text render
returns-in-false-true c = rw (c.in-false-true.is-0, c.in-false-true.is-1) refl

pub returns-in-false-false : goal.returns-in-false-false
unfolding digits head_text render
returns-in-false-false c = rw (c.in-false-false.is-0, c.in-false-false.is-1) refl
