use Rattle.std.specs.Prelude.{option_map}
use Rattle.std.proofs.Common.{ap, sym, ◌≡◌, ◌∙◌, codes, true, false, rules}
use Rattle.clap.specs.Words.{found_of}
use Rattle.st_command_line.proofs.Wanting.{file_is, given, wants, wants_none}
use Rattle.st_command_line.proofs.common.check_store.Goals as goal

pub returns-then-not-wants_store-clause-ok : goal.returns-then-not-wants_store-clause-ok
returns-then-not-wants_store-clause-ok c = λ app words parsed wanting.
    let no : c.wants_store.result ≡ false = search rules in
    absurd (wants_none app words c.args.matches.now parsed (c.wants_store.ensures.no no) wanting)

pub returns-in-Some-clause-ok : goal.returns-in-Some-clause-ok
returns-in-Some-clause-ok c = λ app words parsed wanting.
    given c.get_str.result _ _ c.in-Some.is (c.get_str.ensures ∙ file_is app words (codes "store") c.args.matches.now parsed)

pub returns-in-None-clause-err : goal.returns-in-None-clause-err
returns-in-None-clause-err c = λ app words parsed.
    let yes : c.wants_store.result ≡ true = search rules in
    let found = found_of c.args.matches.now in (
      parsed.whole,
      wants app words c.args.matches.now parsed (c.wants_store.ensures.yes yes),
      sym (file_is app words (codes "store") c.args.matches.now parsed) ∙ (sym c.get_str.ensures ∙ ap (option_map (λ s. s.now)) c.in-None.is),
    )
