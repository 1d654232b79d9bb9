use Rattle.std.proofs.Common.{rules, ap, sym, ◌∙◌, reverse}
use Rattle.st_label.specs.inner.Views.{class_view}
use Rattle.st_label.proofs.Seen.{not_plain}
use Rattle.st_label.proofs.Passing.{done_passes, word_passes, quote_passes}
use Rattle.st_label.proofs.truth.Pass.step.Goals as goal

pub returns-in_default : goal.returns-in_default
returns-in_default g c =
    word_passes (g.N.Names.among c.args.names.now) c.args.text.now c.args.at (reverse c.args.self.now.outer.items) c.args.self.now.level
    c.args.self.now.unit c.in-Word.from _ _ _ _ c.behind.result c.class_of-class.ensures c.in-Word.is
    (c.has_term-truth.ensures ∙ ap (g.N.Names.among c.args.names.now) c.word.ensures) (not_plain c.class_of-class.result c.in_default.not-Plain) c.behind.ensures

pub returns-else-from-at : goal.returns-else-from-at
returns-else-from-at g c =
    quote_passes (g.N.Names.among c.args.names.now) c.args.text.now c.args.at (reverse c.args.self.now.outer.items) c.args.self.now.level c.args.self.now.unit c.in-Quoted.from _ _
    (sym c.class_of-class.ensures ∙ ap class_view c.in-Quote.is) c.in-Quoted.is (c.has_term-truth-in-Quote.ensures ∙ ap (g.N.Names.among c.args.names.now) c.quoted.ensures) (search rules)

pub returns-in-Done : goal.returns-in-Done
returns-in-Done g c =
    done_passes (g.N.Names.among c.args.names.now) c.args.text.now c.args.at (reverse c.args.self.now.outer.items) c.args.self.now.level
    c.args.self.now.unit c.in-Done.truth _ _ _ c.behind-in-Done.result c.class_of-class.ensures c.in-Done.is c.behind-in-Done.ensures
