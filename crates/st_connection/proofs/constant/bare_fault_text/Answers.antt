use Rattle.std.proofs.Common.{refl}
use Rattle.std.specs.Fmt.{digits}
use Rattle.st_http.specs.Reply.{head_text}
use Rattle.st_connection.specs.Render.{render}
use Rattle.st_connection.proofs.constant.bare_fault_text.Goals as goal

pub returns-in-Head : goal.returns-in-Head
unfolding digits head_text render
returns-in-Head c = rw c.in-Head.is refl

pub returns-in-Host : goal.returns-in-Host
unfolding digits head_text render
returns-in-Host c = rw c.in-Host.is refl

pub returns-in-Length : goal.returns-in-Length
unfolding digits head_text render
returns-in-Length c = rw c.in-Length.is refl

pub returns-in-Size : goal.returns-in-Size
unfolding digits head_text render
returns-in-Size c = rw c.in-Size.is refl

pub returns-in-Headers : goal.returns-in-Headers
unfolding digits head_text render
returns-in-Headers c = rw c.in-Headers.is refl
