use Rattle.std.proofs.Common.{[], ◌∷◌, sym}
use Rattle.json.specs.Token.{begin_object, end_object}
use Rattle.st_json_reply.proofs.Added.{added, added_then, then_last}
use Rattle.st_json_reply.proofs.rows.RowWriteJson.write_json.Goals as goal

pub returns : goal.returns
returns g c =
    rw (sym c.as_str.ensures.value, sym c.text.ensures.value, sym c.as_str-2.ensures.value)
    (then_last _ _ _ _ _ end_object (λ last. added_then _ _ _ _ _ (added _ _ (begin_object ∷ []) c.in_ok-begin_object.ensures.room.0 c.in_ok-begin_object.ensures.ok)
    (added_then _ _ _ _ _ c.in_ok-write_text.ensures
    (added_then _ _ _ _ _ c.in_ok-write_text-2.ensures
    (added_then _ _ _ _ _ c.in_ok-write_text-3.ensures (added_then _ _ _ _ _ c.in_ok-write_point.ensures last))))) c.end_object.ensures)
