use Rattle.std.specs.Prelude.{IsSome, option_map}
use Rattle.std.proofs.lemmas.Bool.{false≢true}
use Rattle.std.proofs.Common.{ap, sym, subst, ◌∙◌, codes}
use Rattle.st_command_line.specs.ServedArguments.{served_command}
use Rattle.st_command_line.proofs.Wanting.{file_is, given}
use Rattle.st_command_line.proofs.served_arguments.check_listen.Goals as goal

pub returns-in_default-clause-ok : goal.returns-in_default-clause-ok
returns-in_default-clause-ok c = λ words parsed wanting.
    let none = sym c.get_str.ensures ∙ ap (option_map (λ s. s.now)) c.in_default.is in
    absurd (false≢true (subst IsSome (sym (file_is served_command words (codes "listen") c.args.matches.now parsed) ∙ none) wanting))

pub returns-in-Some-get_str-clause-ok : goal.returns-in-Some-get_str-clause-ok
returns-in-Some-get_str-clause-ok c = λ words parsed wanting.
    given c.get_str-2.result _ _ c.in-Some-get_str.is (c.get_str-2.ensures ∙ file_is served_command words (codes "port") c.args.matches.now parsed)

pub returns-in-None-clause-err : goal.returns-in-None-clause-err
returns-in-None-clause-err c = λ words parsed. (
  parsed.whole,
  given c.get_str.result _ _ c.in-Some.is (c.get_str.ensures ∙ file_is served_command words (codes "listen") c.args.matches.now parsed),
  sym (file_is served_command words (codes "port") c.args.matches.now parsed) ∙ (sym c.get_str-2.ensures ∙ ap (option_map (λ s. s.now)) c.in-None.is),
)
