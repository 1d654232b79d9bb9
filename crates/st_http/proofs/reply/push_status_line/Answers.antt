use Rattle.st_http.proofs.ReplyLemmas.{stays, grows_by, grows_on, three_more}
use Rattle.st_http.proofs.reply.push_status_line.Goals as goal

pub returns-in_err-extend_from_slice-clause-grows : goal.returns-in_err-extend_from_slice-clause-grows
returns-in_err-extend_from_slice-clause-grows g c = stays _ _ c.in_err-extend_from_slice.ensures.items

pub returns-in_err-push_status-clause-grows : goal.returns-in_err-push_status-clause-grows
returns-in_err-push_status-clause-grows g c = grows_on _ _ _ (grows_by _ _ _ c.in_ok-extend_from_slice.ensures.items) c.push_status.ensures.grows

pub returns-in_err-extend_from_slice-2-clause-grows : goal.returns-in_err-extend_from_slice-2-clause-grows
returns-in_err-extend_from_slice-2-clause-grows g c =
    grows_on _ _ _ (grows_on _ _ _ (grows_by _ _ _ c.in_ok-extend_from_slice.ensures.items) c.push_status.ensures.grows)
    (stays _ _ c.in_err-extend_from_slice-2.ensures.items)

pub returns-clause-grows : goal.returns-clause-grows
returns-clause-grows g c =
    grows_on _ _ _ (grows_on _ _ _ (grows_by _ _ _ c.in_ok-extend_from_slice.ensures.items) c.push_status.ensures.grows)
    (grows_by _ _ _ c.in_ok-extend_from_slice-2.ensures.items)

pub returns-clause-wrote : goal.returns-clause-wrote
returns-clause-wrote g c = three_more c.args.out.now.items _ _ _ _ _ _ c.in_ok-extend_from_slice.ensures.items c.in_ok-push_status.ensures.wrote c.in_ok-extend_from_slice-2.ensures.items
