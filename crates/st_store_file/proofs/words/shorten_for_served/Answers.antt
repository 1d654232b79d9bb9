use Rattle.std.specs.Borrow.{Bor}
use Rattle.std.proofs.Common.{◌⊎◌, List, inl, inr, map, subst, sym}
use Rattle.std.proofs.lemmas.Result.{IfErr-weaker, IfOk-weaker}
use Rattle.st_text.specs.Texts.{Text}
use Rattle.st_command_line.specs.Common.{RefusesWords, SaysRoot}
use Rattle.st_command_line.specs.ServedArguments.{RefusesServedWords, served_command}
use Rattle.st_command_line.specs.declared.fault.Fault.{Fault}
use Rattle.st_command_line.proofs.Numbers.{widens}
use Rattle.st_store_file.specs.Asking.{IsNotDone}
use Rattle.st_store_file.proofs.words.shorten_for_served.Goals as goal

-- the words are refused by the rules of both programs, or by those of this one
refused : (words : List Text) (fault : Fault) → RefusesWords served_command words fault ⊎ IsNotDone served_command words fault
    → RefusesServedWords words fault ⊎ IsNotDone served_command words fault
refused words fault (inl why) = inl (widens words fault why)
refused words fault (inr why) = inr why

pub returns-clause-ok : goal.returns-clause-ok
returns-clause-ok g c =
    let said = c.args.said.now in
    IfOk-weaker c.shorten_asked.result _ _
    (λ journal f words says.
    let root = subst (λ (names : List (Bor Text)). SaysRoot served_command words said.digest.now (map (λ name. name.now) names)) (sym c.as_slice.ensures.value)
    says.root in
    f served_command words (record { root = root; store_is = says.store_is; compacts_is = says.compacts_is; stored = says.stored }))
    c.shorten_asked.ensures.ok

pub returns-clause-err : goal.returns-clause-err
returns-clause-err g c =
    let said = c.args.said.now in
    IfErr-weaker c.shorten_asked.result _ _
    (λ fault f words says.
    let root = subst (λ (names : List (Bor Text)). SaysRoot served_command words said.digest.now (map (λ name. name.now) names)) (sym c.as_slice.ensures.value)
    says.root in
    refused words fault (f served_command words (record { root = root; store_is = says.store_is; compacts_is = says.compacts_is; stored = says.stored })))
    c.shorten_asked.ensures.err
