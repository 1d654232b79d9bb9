use Rattle.st_http.proofs.ReplyLemmas.{stays, grows_by, grows_on}
use Rattle.st_http.proofs.reply.push_status.Goals as goal

pub returns-in_err-push_number-clause-grows : goal.returns-in_err-push_number-clause-grows
returns-in_err-push_number-clause-grows g c = c.push_number.ensures.grows

pub returns-in_err-extend_from_slice-clause-grows : goal.returns-in_err-extend_from_slice-clause-grows
returns-in_err-extend_from_slice-clause-grows g c = grows_on _ _ _ c.push_number.ensures.grows (stays _ _ c.in_err-extend_from_slice.ensures.items)

pub returns-in_err-extend_from_slice-2-clause-grows : goal.returns-in_err-extend_from_slice-2-clause-grows
returns-in_err-extend_from_slice-2-clause-grows g c =
    grows_on _ _ _ (grows_on _ _ _ c.push_number.ensures.grows (grows_by _ _ _ c.in_ok-extend_from_slice.ensures.items))
    (stays _ _ c.in_err-extend_from_slice-2.ensures.items)

pub returns-clause-grows : goal.returns-clause-grows
returns-clause-grows g c =
    grows_on _ _ _ (grows_on _ _ _ c.push_number.ensures.grows (grows_by _ _ _ c.in_ok-extend_from_slice.ensures.items))
    (grows_by _ _ _ c.in_ok-extend_from_slice-2.ensures.items)
