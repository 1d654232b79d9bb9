use Rattle.std.proofs.Common.{ap, ◌∙◌, get_or, subst, sym}
use Rattle.st_index.specs.declared.storage.Storage.{Storage}
use Rattle.st_index.specs.inner.Storages.{IsStored, stored_at, stored_rows}
use Rattle.st_index.proofs.Places.{only_row}
use Rattle.st_index.proofs.placing.replace.Goals as goal

pub returns : goal.returns
returns g c =
    let after = c.replace-2.ensures.after in
    record {
      stored = subst (λ (s : Storage g.row.A.Denot). IsStored s) (sym after) c.alone.ensures.stored;
      at = ap stored_at after ∙ c.alone.ensures.at ∙ c.key_of-key.ensures;
      value = c.without_row-out.ensures.value ∙ ap (λ (s : Storage g.row.A.Denot). get_or (stored_rows s) c.args.index c.without_row-out.result.0) c.replace-2.ensures.value;
      rows = ap stored_rows after ∙ c.alone.ensures.rows ∙ only_row c.args.place.now c.in_default.not-Heap c.args.index c.args.row c.requires.index;
    }
