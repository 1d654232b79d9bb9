use Rattle.std.specs.declared.alloc.Global.{Global}
use Rattle.std.proofs.Common.{map, string_bytes, subst, sym}
use Rattle.st_core.specs.State.{State}
use Rattle.st_command.specs.Opening.{OpensWith}
use Rattle.st_command.proofs.opening.replayed_for.Goals as goal

pub returns-clause-ok : goal.returns-clause-ok
returns-clause-ok c =
    subst (λ (s : State Global). OpensWith c.args.digits.now (map (λ name. name.now) c.args.names.now) s (string_bytes c.in_ok-opened.opening))
    (sym c.new.ensures) c.in_ok-opened.ensures.ok
