use Rattle.std.proofs.Common.{rules, find, ap, sym, ◌∙◌}
use Rattle.st_text.specs.Texts.{same}
use Rattle.st_dir.specs.Directory.{user_named}
use Rattle.st_sorted.proofs.Sorted.{not_found}
use Rattle.st_dir.proofs.directory.Directory.create_user.Goals as goal

pub add-requires : goal.add-requires
add-requires g c =
    let asked = c.as_str.result.now in
    let none = not_found (user_named c.args.self.now asked) (sym c.has_user.ensures ∙ c.if-has_user.false) in
    let name = ap (λ user. user.name) c.new_user-made.ensures ∙ sym c.as_str.ensures.value in
    (λ i. find (λ user. same user.name (name i)) (c.self.view_is i).users) ∙ none

pub returns-clause-ok : goal.returns-clause-ok
returns-clause-ok g c = search rules

pub returns-clause-err : goal.returns-clause-err
returns-clause-err g c = search rules

pub returns-clause-fault : goal.returns-clause-fault
returns-clause-fault g c = search rules
