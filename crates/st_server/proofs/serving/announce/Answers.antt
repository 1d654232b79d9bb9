use Rattle.std.proofs.Common.{◌≡◌, Err, List, Ok, Result, Some, OnOk, ap, inr, rules, subst, sym, ◌∙◌}
use mathlib.Core.List.{IsPrefix}
use Rattle.st_hall.specs.Steps.{Ask}
use Rattle.st_hall_press.proofs.Fronts.{prefix_length, prefix_whole}
use Rattle.st_command_line.specs.ServedArguments.{address_text}
use Rattle.st_server_workers.proofs.Telling.{all_told}
use Rattle.st_server_workers.specs.Working.{WorkedEach}
use Rattle.st_server.specs.Attending.{KeptWhole}
use Rattle.st_server.proofs.Idle.{idle, of_some}
use Rattle.st_server.proofs.Joining.{as_one}
use Rattle.st_server.proofs.Widening.{widened, not_lost}
use Rattle.st_server.proofs.serving.announce.Goals as goal

pub returns-in-Err-clause-told : goal.returns-in-Err-clause-told
returns-in-Err-clause-told g c =
    let said = c.args.said.now in
    widened (address_text said.bind_address) said.connections (g.O.Write.contents c.args.output.now) (g.O.Write.contents c.begin.new.output) (Err c.in-Err.fault) c.in-Err.ensures.err

pub returns-in-Err-clause-failed : goal.returns-in-Err-clause-failed
returns-in-Err-clause-failed g c = λ lost.
    let said = c.args.said.now in
    absurd (not_lost (address_text said.bind_address) said.connections (g.O.Write.contents c.args.output.now) (g.O.Write.contents c.begin.new.output) (Err c.in-Err.fault) c.in-Err.ensures.err lost)

pub returns-in-Ok-finish-clause-told : goal.returns-in-Ok-finish-clause-told
returns-in-Ok-finish-clause-told g c =
    let said = c.args.said.now in
    let ok : said.connections ≡ Some c.in-Ok-finish.number = search rules in
    widened (address_text said.bind_address) said.connections (g.O.Write.contents c.args.output.now) (g.O.Write.contents c.tell.new.output) c.tell.result
    (all_told (address_text said.bind_address) _ said.connections (g.O.Write.contents c.args.output.now) (g.O.Write.contents c.begin.new.output)
    (g.O.Write.contents c.tell.new.output) c.tell.result c.in-Ok.ensures.ok ok c.tell.ensures.ok c.tell.ensures.err)

pub returns-in-Err-clause-attended : goal.returns-in-Err-clause-attended
returns-in-Err-clause-attended g c =
    let said = c.args.said.now in
    idle _ _ _ _ _ _ c.in-Err.fault (λ lost.
    not_lost (address_text said.bind_address) said.connections (g.O.Write.contents c.args.output.now) (g.O.Write.contents c.begin.new.output) (Err c.in-Err.fault)
    c.in-Err.ensures.err (ap Err lost))

given : {T E : Type 0} {P : Type 0} (r : Result T E) → P → OnOk r P
given (Ok x) p = p
given (Err e) p = tt

-- the list that is kept whole
whole : (kept list known : List Ask) → known ≡ list → IsPrefix known kept → IsPrefix kept list → kept ≡ list
whole kept list known is has begins = prefix_whole kept list begins (prefix_length list kept (subst (λ (l : List Ask). IsPrefix l kept) is has))

pub returns-clause-attended : goal.returns-clause-attended
returns-clause-attended g c =
    let workers = c.attend_and_copy-attended.result.workers.items in
    let each : WorkedEach g.T.Attend.serves g.C.Client.call c.args.attendants.items workers =
    of_some workers _ (sym c.attend_and_copy-attended.result.workers.ok.0) c.attend_and_copy-attended.ensures.each (sym c.is_empty.ensures ∙ c.if-is_empty.false) in
    let joined = c.in_ok-joined in let kept = c.in_ok-kept-in-Err-finish in
    let one = as_one g.M.Commits.leaves g.T.Attend.serves g.C.Client.call g.T.AtDesk.standing c.args.attendants.items workers
    joined.joined.synced.items joined.joined.list kept.kept each joined.ensures.one joined.ensures.synced kept.ensures.has kept.ensures.leaves in
    record {
      workers = workers;
      each = c.attend_and_copy-attended.ensures.each;
      ok = tt;
      lost = λ _. one;
      known = λ _. inr one;
      number = tt;
    }

pub returns-in-Ok-finish-clause-attended : goal.returns-in-Ok-finish-clause-attended
returns-in-Ok-finish-clause-attended g c =
    let workers = c.attend_and_copy-attended.result.workers.items in
    let each : WorkedEach g.T.Attend.serves g.C.Client.call c.args.attendants.items workers =
    of_some workers _ (sym c.attend_and_copy-attended.result.workers.ok.0) c.attend_and_copy-attended.ensures.each (sym c.is_empty.ensures ∙ c.if-is_empty.false) in
    let joined = c.in_ok-joined in let kept = c.in_ok-kept-in-Ok-finish in
    let one = as_one g.M.Commits.leaves g.T.Attend.serves g.C.Client.call g.T.AtDesk.standing c.args.attendants.items workers
    joined.joined.synced.items joined.joined.list kept.kept each joined.ensures.one joined.ensures.synced kept.ensures.has kept.ensures.leaves in
    let all = as_one (KeptWhole g.M.Commits.leaves) g.T.Attend.serves g.C.Client.call g.T.AtDesk.standing c.args.attendants.items workers
    joined.joined.synced.items joined.joined.list kept.kept each joined.ensures.one joined.ensures.synced kept.ensures.has
    (whole kept.kept joined.joined.list _ c.in-Ok-finish.ensures.ok.1 kept.ensures.known kept.ensures.begins, kept.ensures.leaves) in
    record {
      workers = workers;
      each = c.attend_and_copy-attended.ensures.each;
      ok = given c.tell.result all;
      lost = λ _. one;
      known = λ _. inr one;
      number = search rules;
    }
