use Rattle.std.proofs.Common.{[], ◌∷◌, sym}
use Rattle.json.specs.Token.{begin_object, end_object}
use Rattle.st_json_reply.proofs.Added.{added, added_then, then_last}
use Rattle.st_json_reply.proofs.listing.EntryWriteJson.write_json.Goals as goal

pub returns : goal.returns
returns g c =
    rw (sym c.as_str.ensures.value, sym c.from.ensures, sym c.as_str-2.ensures.value, sym c.as_str-3.ensures.value)
    (then_last _ _ _ _ _ end_object (λ last. added_then _ _ _ _ _ (added _ _ (begin_object ∷ []) c.in_ok-begin_object.ensures.room.0 c.in_ok-begin_object.ensures.ok)
    (added_then _ _ _ _ _ c.in_ok-write_text.ensures
    (added_then _ _ _ _ _ c.in_ok-write_number.ensures
    (added_then _ _ _ _ _ c.in_ok-write_text-2.ensures (added_then _ _ _ _ _ c.in_ok-write_text-3.ensures last))))) c.end_object.ensures)
