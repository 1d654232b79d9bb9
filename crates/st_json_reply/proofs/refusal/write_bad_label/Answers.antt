use Rattle.std.proofs.Common.{[], ◌∷◌, refl}
use Rattle.json.specs.Token.{begin_object, end_object}
use Rattle.st_json_reply.proofs.Added.{added, added_then, last_token}
use Rattle.st_json_reply.proofs.refusal.write_bad_label.Goals as goal

pub returns : goal.returns
returns g c = last_token _ _ _ _ _ _ end_object
    (added_then _ _ _ _ _ (added _ _ (begin_object ∷ []) c.in_ok-begin_object.ensures.room.0 c.in_ok-begin_object.ensures.ok)
    (added_then _ _ _ _ _ c.in_ok-write_number.ensures c.in_ok-write_text.ensures)) c.end_object.ensures refl
