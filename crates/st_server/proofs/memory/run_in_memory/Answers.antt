use Rattle.std.specs.Borrow.{Bor}
use Rattle.std.proofs.Common.{List, refl, inl, inr, map, subst, sym}
use Rattle.std.proofs.lemmas.Result.{err_from_is_err_and}
use Rattle.st_text.specs.Texts.{Text}
use Rattle.st_command_line.specs.Common.{SaysRoot}
use Rattle.st_command.specs.Opening.{OpensState}
use Rattle.st_command_line.specs.ServedArguments.{RefusesServedWords, served_command}
use Rattle.st_command_line.proofs.Numbers.{widens}
use Rattle.st_server.proofs.memory.run_in_memory.Goals as goal

pub returns-in_err-both : goal.returns-in_err-both
returns-in_err-both g c = λ words says.
    let p = err_from_is_err_and c.from_residual.result c.from_residual.ensures.1 in
    let said = c.args.said.now in
    let root = subst (λ (names : List (Bor Text)). SaysRoot served_command words said.digest.now (map (λ name. name.now) names)) (sym c.deref.ensures.value) says.root in
    let why = widens words _ (c.in_err-both.ensures.err served_command words root) in
    rw p.1 (inr (record { fault = p.0; why = subst (RefusesServedWords words) (sym p.2) why; status_is = refl; idle = refl }))

pub open_hall-requires-clause-named : goal.open_hall-requires-clause-named
open_hall-requires-clause-named g c κs within = (refl, refl, refl)

pub open_hall-requires-clause-workers : goal.open_hall-requires-clause-workers
open_hall-requires-clause-workers g c κs within = (c.of-name.ensures, refl, c.worker_count-workers.ensures.some)

pub open_hall-requires-clause-alike : goal.open_hall-requires-clause-alike
open_hall-requires-clause-alike g c κs within = (refl, c.in_ok-both.ensures.alike)

pub open_hall-requires-clause-opens : goal.open_hall-requires-clause-opens
open_hall-requires-clause-opens g c κs within =
    subst (λ (names : List (Bor Text)). OpensState c.args.said.now.digest.now (map (λ name. name.now) names) c.in_ok-both.both.0) c.deref.ensures.value c.in_ok-both.ensures.ok

pub returns : goal.returns
returns g c = λ words says.
    let said = c.args.said.now in
    inl (record {
      said = said;
      says = says;
      unnamed = c.requires.in_memory;
      state = c.in_ok-both.both.0;
      opens = subst (λ (names : List (Bor Text)). OpensState said.digest.now (map (λ name. name.now) names) c.in_ok-both.both.0) c.deref.ensures.value c.in_ok-both.ensures.ok;
      ended = c.open_hall.result;
      attends = c.open_hall.ensures.attended;
      tells = c.open_hall.ensures.told;
      status_is = refl;
    })
