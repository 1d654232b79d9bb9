use Rattle.std.specs.Borrow.{Bor}
use Rattle.std.proofs.Common.{List, inl, inr, map, refl, subst, sym}
use Rattle.std.proofs.lemmas.Result.{err_from_is_err_and}
use Rattle.st_text.specs.Texts.{Text}
use Rattle.st_command_line.specs.Common.{RefusesWords, SaysRoot}
use Rattle.st_command_line.specs.RunArguments.{run_command}
use Rattle.st_command.specs.Opening.{OpensState}
use Rattle.st_command.proofs.run.run_in_memory.Goals as goal

pub returns-in_err-service : goal.returns-in_err-service
returns-in_err-service g c = λ words says.
    let p = err_from_is_err_and c.from_residual.result c.from_residual.ensures.1 in
    let said = c.args.said.now in
    let root = subst (λ (names : List (Bor Text)). SaysRoot run_command words said.digest.now (map (λ name. name.now) names)) (sym c.deref.ensures.value) says.root in
    let why = c.in_err-service.ensures.err run_command words root in
    rw p.1 (inr (record {
      fault = p.0;
      why = subst (RefusesWords run_command words) (sym p.2) why;
      status_is = refl;
      idle = record {
        unread = refl;
        no_reads = refl;
        reads_well = c.requires.reader_sound;
        unwritten = refl;
        writes_well = c.requires.writer_sound;
      };
    }))

pub returns : goal.returns
returns g c = λ words says.
    let said = c.args.said.now in
    let before = c.in_ok-service.service in
    let opens = subst (λ (names : List (Bor Text)). OpensState said.digest.now (map (λ name. name.now) names) before) c.deref.ensures.value
    c.in_ok-service.ensures.ok in
    inl (record {
      said = said;
      says = says;
      in_memory = c.requires.in_memory;
      before = before;
      opens = opens;
      after = c.converse.new.service;
      serves = c.converse.ensures;
    })
