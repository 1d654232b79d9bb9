use Rattle.std.specs.Borrow.{Bor}
use Rattle.std.proofs.Common.{List, inl, inr, map, refl, string_bytes, subst, sym}
use Rattle.std.proofs.lemmas.Result.{err_from_is_err_and}
use Rattle.st_text.specs.Texts.{Text}
use Rattle.st_command_line.specs.Common.{RefusesWords, SaysRoot}
use Rattle.st_command_line.specs.RunArguments.{run_command}
use Rattle.st_command.specs.Opening.{OpensWith}
use Rattle.st_command.proofs.run.run_kept.Goals as goal

pub returns-in_err-state : goal.returns-in_err-state
returns-in_err-state g c = λ words says.
    let p = err_from_is_err_and c.from_residual.result c.from_residual.ensures.1 in
    let said = c.args.said.now in
    let root = subst (λ (names : List (Bor Text)). SaysRoot run_command words said.digest.now (map (λ name. name.now) names)) (sym c.deref.ensures.value) says.root in
    let why = c.in_err-state.ensures.err run_command words root in
    rw p.1 (inl (record {
      fault = p.0;
      why = subst (RefusesWords run_command words) (sym p.2) why;
      status_is = refl;
      idle = record {
        unread = refl;
        no_reads = refl;
        reads_well = c.requires.reader_sound;
        unwritten = refl;
        writes_well = c.requires.writer_sound;
      };
    }))

pub returns : goal.returns
returns g c = λ words says.
    let said = c.args.said.now in
    let first = c.in_ok-state.state in
    let opening = string_bytes c.in_ok-state.opening in
    let opens = subst (λ (names : List (Bor Text)). OpensWith said.digest.now (map (λ name. name.now) names) first opening) c.deref.ensures.value
    c.in_ok-state.ensures.ok in
    inr (record {
      said = said;
      says = says;
      path = c.args.path.now;
      named = c.requires.named;
      first = first;
      opening = opening;
      opens = opens;
      ends = c.serve_kept.ensures;
    })
