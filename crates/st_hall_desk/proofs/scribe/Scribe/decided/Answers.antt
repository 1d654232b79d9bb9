use Rattle.std.proofs.Common.{◌≡◌, ◌++◌, [], ◌∷◌, true, None, is_some, unwrap_or, IfOk, OnOk, sym, subst}
use Rattle.st_core.specs.Judging.{judgement}
use Rattle.st_core.specs.Step.{asker_of}
use Rattle.st_hall_press.specs.Steps.{reply_of, state_after, next, judged_in}
use Rattle.st_hall_press.proofs.Following.{at_state, after_snoc}
use Rattle.st_hall_desk.proofs.scribe.Scribe.decided.Goals as goal

pub returns-clause-judged : goal.returns-clause-judged
returns-clause-judged g c = at_state (λ d s. judgement d.0 ≡ judged_in s c.args.asked.now) _ _ _ c.directory.ensures c.decide.ensures.judged

pub returns-clause-reply : goal.returns-clause-reply
returns-clause-reply g c = at_state (λ d s. d.1.reply ≡ reply_of s c.args.asked.now) _ _ _ c.directory.ensures c.decide.ensures.reply

pub returns-clause-directory : goal.returns-clause-directory
returns-clause-directory g c =
    let start = g.H.HallName.start in
    let list = c.args.self.now in
    let asked = c.args.asked.now in
    let before = c.directory.result.now in
    let made = at_state (λ d s. unwrap_or d.1.directory before ≡ (next s asked).directory) before (state_after start list) c.decide.result c.directory.ensures c.decide.ensures.directory in
    let after = subst (λ s. IfOk c.decide.result (λ d. unwrap_or d.1.directory before ≡ s.directory)) (sym (after_snoc start list asked)) made in
    subst (λ (b : _). IfOk c.decide.result (λ d. unwrap_or d.1.directory b ≡ (state_after start (list ++ asked ∷ [])).directory)) c.directory.ensures after

pub returns-clause-stranger : goal.returns-clause-stranger
returns-clause-stranger g c is = subst (λ d. asker_of d c.args.asked.now.token ≡ None) c.directory.ensures (c.decide.ensures.stranger is)

pub returns-clause-heard : goal.returns-clause-heard
returns-clause-heard g c =
    subst (λ d. OnOk c.decide.result (is_some (asker_of d c.args.asked.now.token) ≡ true)) c.directory.ensures c.decide.ensures.heard
