use Rattle.st_http.specs.Reply.{head_text}
use Rattle.st_http.proofs.ReplyLemmas.{seven_more, stays, grows_by, grows_on}
use Rattle.st_http.proofs.reply.push_lines.Goals as goal

pub returns-clause-wrote : goal.returns-clause-wrote
unfolding head_text
returns-clause-wrote g c =
    seven_more c.args.out.now.items _ _ _ _ _ _ _ _ _ _ _ _ _ _ c.in_ok-push_status_line.ensures.wrote c.in_ok-push_allow.ensures.wrote
    c.in_ok-push_challenge.ensures.wrote c.in_ok-extend_from_slice.ensures.items c.in_ok-push_length.ensures.wrote
    c.in_ok-push_close.ensures.wrote c.in_ok-extend_from_slice-2.ensures.items

pub returns-in_err-push_status_line-clause-grows : goal.returns-in_err-push_status_line-clause-grows
returns-in_err-push_status_line-clause-grows g c = c.push_status_line.ensures.grows

pub returns-in_err-push_allow-clause-grows : goal.returns-in_err-push_allow-clause-grows
returns-in_err-push_allow-clause-grows g c = grows_on _ _ _ c.push_status_line.ensures.grows c.push_allow.ensures.grows

pub returns-in_err-push_challenge-clause-grows : goal.returns-in_err-push_challenge-clause-grows
returns-in_err-push_challenge-clause-grows g c = grows_on _ _ _ (grows_on _ _ _ c.push_status_line.ensures.grows c.push_allow.ensures.grows) c.push_challenge.ensures.grows

pub returns-in_err-extend_from_slice-clause-grows : goal.returns-in_err-extend_from_slice-clause-grows
returns-in_err-extend_from_slice-clause-grows g c =
    grows_on _ _ _ (grows_on _ _ _ (grows_on _ _ _ c.push_status_line.ensures.grows c.push_allow.ensures.grows) c.push_challenge.ensures.grows)
    (stays _ _ c.in_err-extend_from_slice.ensures.items)

pub returns-in_err-push_length-clause-grows : goal.returns-in_err-push_length-clause-grows
returns-in_err-push_length-clause-grows g c =
    grows_on _ _ _ (grows_on _ _ _
    (grows_on _ _ _ (grows_on _ _ _ c.push_status_line.ensures.grows c.push_allow.ensures.grows) c.push_challenge.ensures.grows)
    (grows_by _ _ _ c.in_ok-extend_from_slice.ensures.items)) c.push_length.ensures.grows

pub returns-in_err-push_close-clause-grows : goal.returns-in_err-push_close-clause-grows
returns-in_err-push_close-clause-grows g c =
    grows_on _ _ _ (grows_on _ _ _
    (grows_on _ _ _ (grows_on _ _ _ (grows_on _ _ _ c.push_status_line.ensures.grows c.push_allow.ensures.grows) c.push_challenge.ensures.grows)
    (grows_by _ _ _ c.in_ok-extend_from_slice.ensures.items)) c.push_length.ensures.grows) c.push_close.ensures.grows

pub returns-in_err-extend_from_slice-2-clause-grows : goal.returns-in_err-extend_from_slice-2-clause-grows
returns-in_err-extend_from_slice-2-clause-grows g c =
    grows_on _ _ _ (grows_on _ _ _
    (grows_on _ _ _ (grows_on _ _ _
    (grows_on _ _ _ (grows_on _ _ _ c.push_status_line.ensures.grows c.push_allow.ensures.grows) c.push_challenge.ensures.grows)
    (grows_by _ _ _ c.in_ok-extend_from_slice.ensures.items)) c.push_length.ensures.grows) c.push_close.ensures.grows)
    (stays _ _ c.in_err-extend_from_slice-2.ensures.items)

pub returns-clause-grows : goal.returns-clause-grows
returns-clause-grows g c =
    grows_on _ _ _ (grows_on _ _ _
    (grows_on _ _ _ (grows_on _ _ _
    (grows_on _ _ _ (grows_on _ _ _ c.push_status_line.ensures.grows c.push_allow.ensures.grows) c.push_challenge.ensures.grows)
    (grows_by _ _ _ c.in_ok-extend_from_slice.ensures.items)) c.push_length.ensures.grows) c.push_close.ensures.grows)
    (grows_by _ _ _ c.in_ok-extend_from_slice-2.ensures.items)
