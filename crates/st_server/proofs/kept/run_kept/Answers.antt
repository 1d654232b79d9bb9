use Rattle.std.specs.Borrow.{Bor}
use Rattle.std.specs.declared.alloc.Global.{Global}
use Rattle.std.proofs.Common.{List, inl, inr, map, refl, string_bytes, subst, sym}
use Rattle.std.proofs.lemmas.Result.{err_from_is_err_and}
use Rattle.st_text.specs.Texts.{Text}
use Rattle.st_core.specs.State.{State}
use Rattle.st_command_line.specs.Common.{SaysRoot}
use Rattle.st_command_line.specs.ServedArguments.{RefusesServedWords, served_command}
use Rattle.st_command_line.proofs.Numbers.{widens}
use Rattle.st_command.specs.Opening.{OpensWith}
use Rattle.st_server.proofs.kept.run_kept.Goals as goal

pub returns-in_err-first : goal.returns-in_err-first
returns-in_err-first g c = λ words says.
    let p = err_from_is_err_and c.from_residual.result c.from_residual.ensures.1 in
    let said = c.args.said.now in
    let root = subst (λ (names : List (Bor Text)). SaysRoot served_command words said.digest.now (map (λ name. name.now) names)) (sym c.deref.ensures.value) says.root in
    let why = widens words _ (c.in_err-first.ensures.err served_command words root) in
    rw p.1 (inl (record { fault = p.0; why = subst (RefusesServedWords words) (sym p.2) why; status_is = refl; idle = refl }))

pub returns : goal.returns
returns g c = λ words says.
    let said = c.args.said.now in
    let first = c.in_ok-first.first in
    let opening = string_bytes c.in_ok-first.opening in
    let opens = subst (λ (names : List (Bor Text)). OpensWith said.digest.now (map (λ name. name.now) names) first opening) c.deref.ensures.value
    c.in_ok-first.ensures.ok in
    inr (record {
      said = said;
      says = says;
      path = c.args.path.now;
      named = c.requires.named;
      first = c.new-state.result;
      opening = opening;
      opens = subst (λ (s : State Global). OpensWith said.digest.now (map (λ name. name.now) said.names.items) s opening) (sym c.new-state.ensures) opens;
      ends = c.serve_kept.ensures;
    })
