use Rattle.std.proofs.Common.{◌++◌, sym, ap, subst, ◌∙◌}
use Rattle.st_tally.specs.inner.Marks.{AreMarkedBy}
use Rattle.st_tally.proofs.marks.Marks.take_pages.Goals as goal

pub returns : goal.returns
returns g c = λ kids marked.
    let pages = c.args.self.now.pages.items in
    subst (λ ps. AreMarkedBy c.args.self.now.labels.items ps kids) (sym (c.in-Ok.ensures.items ∙ ap (λ ps. ps ++ pages) c.clear.ensures.items)) marked
