use Rattle.std.proofs.Common.{rules, ◌≡◌, ◌∙◌, false}
use Rattle.std.proofs.lemmas.Map.Text.{is_eq-slice_cmp}
use Rattle.std.specs.Cmp.Lexicographic.{slice_cmp}
use Rattle.std.specs.Ordering.{is_eq, nat_cmp}
use Rattle.st_text.specs.Texts.{same}
use Rattle.st_text.proofs.Same.{same-swap}
use Rattle.st_label.specs.inner.Terms.{unescaped_from}
use Rattle.st_label.proofs.term.Term.is.Goals as goal

pub returns-then-self : goal.returns-then-self
returns-then-self c =
    let stands = unescaped_from false c.self.inside.bytes.now in
    let alike : is_eq (slice_cmp nat_cmp c.args.name.now stands) ≡ same stands c.args.name.now = is_eq-slice_cmp c.args.name.now stands ∙ same-swap c.args.name.now stands in
    search rules

pub returns-else-self : goal.returns-else-self
returns-else-self c = search rules
