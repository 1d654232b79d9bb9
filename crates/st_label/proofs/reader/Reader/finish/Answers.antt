use Rattle.std.proofs.Common.{◌∙◌, sym, arith}
use Rattle.std.specs.Prelude.{vec_len}
use Rattle.st_label.specs.inner.Views.{outer_view}
use Rattle.st_label.proofs.Seen.{outer_length}
use Rattle.st_label.proofs.Ended.{empty_by, some_by, ends_empty, ends_open}
use Rattle.st_label.proofs.reader.Reader.finish.Goals as goal

pub returns-then-not-is_closed : goal.returns-then-not-is_closed
returns-then-not-is_closed g c =
    ends_open (outer_view c.args.self.outer.items) _ _
    (λ none. some_by c.args.self.outer.items (vec_len c.args.self.outer) (omega (arith, c.args.self.outer.ok.0))
    (sym c.if-not-is_closed.true ∙ c.is_empty-is_closed.ensures) (sym (outer_length c.args.self.outer.items) ∙ none))

pub returns : goal.returns
returns g c =
    ends_empty c.args.self.outer.items _ _ c.last.result
    (empty_by c.args.self.outer.items (vec_len c.args.self.outer) (omega (arith, c.args.self.outer.ok.0))
    (sym c.if-not-is_closed.false ∙ c.is_empty-is_closed.ensures)) c.last.ensures
