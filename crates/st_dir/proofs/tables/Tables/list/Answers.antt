use Rattle.std.proofs.Common.{ap, sym, ◌∙◌}
use Rattle.st_text.specs.Texts.{in_order}
use Rattle.st_dir.specs.Order.{table_key}
use Rattle.st_sorted.proofs.Sorted.{in_order_already}
use Rattle.st_dir.proofs.tables.Tables.list.Goals as goal

pub returns : goal.returns
returns g c =
    c.from_vec.ensures ∙ c.in_ok-copies.ensures ∙ c.deref.ensures.value
    ∙ sym (in_order_already table_key c.self.inside.tables.items c.self.invariant) ∙ ap (in_order table_key) c.self.view_is
