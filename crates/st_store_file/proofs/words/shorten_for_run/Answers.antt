use Rattle.std.specs.Borrow.{Bor}
use Rattle.std.proofs.Common.{List, map, subst, sym}
use Rattle.std.proofs.lemmas.Result.{IfErr-weaker, IfOk-weaker}
use Rattle.st_text.specs.Texts.{Text}
use Rattle.st_command_line.specs.Common.{SaysRoot}
use Rattle.st_command_line.specs.RunArguments.{run_command}
use Rattle.st_store_file.proofs.words.shorten_for_run.Goals as goal

pub returns-clause-ok : goal.returns-clause-ok
returns-clause-ok g c =
    let said = c.args.said.now in
    IfOk-weaker c.shorten_asked.result _ _
    (λ journal f words says.
    let root = subst (λ (names : List (Bor Text)). SaysRoot run_command words said.digest.now (map (λ name. name.now) names)) (sym c.as_slice.ensures.value)
    says.root in
    f run_command words (record { root = root; store_is = says.store_is; compacts_is = says.compacts_is; stored = says.stored }))
    c.shorten_asked.ensures.ok

pub returns-clause-err : goal.returns-clause-err
returns-clause-err g c =
    let said = c.args.said.now in
    IfErr-weaker c.shorten_asked.result _ _
    (λ fault f words says.
    let root = subst (λ (names : List (Bor Text)). SaysRoot run_command words said.digest.now (map (λ name. name.now) names)) (sym c.as_slice.ensures.value)
    says.root in
    (f run_command words (record { root = root; store_is = says.store_is; compacts_is = says.compacts_is; stored = says.stored })))
    c.shorten_asked.ensures.err
