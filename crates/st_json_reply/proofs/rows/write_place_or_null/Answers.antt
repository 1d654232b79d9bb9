use Rattle.st_json_reply.proofs.rows.write_place_or_null.Goals as goal

pub returns-in-Some : goal.returns-in-Some
returns-in-Some g c = rw c.in-Some.is c.write_place.ensures
