use Rattle.std.proofs.Common.{◌≡◌, ◌∙◌, List, [], take, ℕ, Bool, true, false, refl, inl, sym, subst, arith}
use Rattle.std.proofs.KnownBytes.{Appends-nil}
use Rattle.std.proofs.lemmas.Bool.{eqb-true}
use Rattle.std.proofs.lemmas.List.{nil_from_length}
use Rattle.httparse.specs.Grammar.{RequestHead}
use Rattle.st_http.specs.Message.{RepresentsMessage}
use Rattle.st_http.specs.First.{message, fault, more, IsFirst}
use Rattle.st_connection.specs.Connection.{WithInterim}
use Rattle.st_connection.specs.declared.connection.Next.TheVariants as nexts
use Rattle.st_connection.specs.inner.Stages.{One}
use Rattle.st_connection.proofs.Empty.{first_empty}
use Rattle.st_connection.proofs.Steps.{told_so, stands_due, waits_so, fault_one, message_one, message_stays, next_stops, next_closed, next_open}
use Rattle.st_connection.proofs.connection.answer_next.Goals.{then-message, else-message}
use Rattle.st_connection.proofs.connection.answer_next.Goals as goal

pub returns-then-is_empty-clause-answered : goal.returns-then-is_empty-clause-answered
returns-then-is_empty-clause-answered g c =
    let none : c.args.text.now ≡ [] = nil_from_length c.args.text.now (eqb-true _ _ (sym c.is_empty.ensures ∙ c.if-is_empty.true)) in
    (subst (λ (t : List ℕ). IsFirst t (more false)) (sym none) first_empty, refl, refl, refl, Appends-nil _, refl)

pub returns-then-expects-clause-answered : goal.returns-then-expects-clause-answered
returns-then-expects-clause-answered g c =
    (stands_due _ _ _ c.take-taken.ensures.first c.expects.ensures c.if-expects.true, refl, refl, refl, Appends-nil _, refl)

pub returns-in-More-clause-answered : goal.returns-in-More-clause-answered
returns-in-More-clause-answered g c =
    let expected = told_so _ _ _ false c.take-taken.ensures.first c.expects.ensures c.if-expects.false in
    (waits_so _ _ false (rw c.in-More.is at c.take-taken.ensures.first) expected, refl, refl, refl, Appends-nil _, refl)

pub returns-in-Err-clause-answered : goal.returns-in-Err-clause-answered
returns-in-Err-clause-answered g c =
    let expected = told_so _ _ _ false c.take-taken.ensures.first c.expects.ensures c.if-expects.false in
    let s = subst (λ (a : List ℕ). g.X.Replies.answers (g.X.Replies.now c.args.answerer.now) (fault c.in-Fault.fault.reason c.in-Fault.fault.bare) a
    (g.X.Replies.now c.args.answerer.now)) (sym c.fault_text-answer.ensures) (g.met.X.Replies.faults (g.X.Replies.now c.args.answerer.now) _ _) in
    let one = fault_one g.X.Replies.answers _ _ _ _ (omega arith) false expected c.in-Fault.fault (rw c.in-Fault.is at c.take-taken.ensures.first) s in
    next_stops (WithInterim g.X.Replies.answers) _ _ _ _ _ _ c.in-Err.ensures.now _ _ _ _ _ _ (take c.pass.new.held c.pass.new.block) _ _ (inl refl) true one _ c.in-Err.ensures.passed

pub returns-in_default-clause-answered : goal.returns-in_default-clause-answered
returns-in_default-clause-answered g c =
    let expected = told_so _ _ _ false c.take-taken.ensures.first c.expects.ensures c.if-expects.false in
    let s = subst (λ (a : List ℕ). g.X.Replies.answers (g.X.Replies.now c.args.answerer.now) (fault c.in-Fault.fault.reason c.in-Fault.fault.bare) a
    (g.X.Replies.now c.args.answerer.now)) (sym c.fault_text-answer.ensures) (g.met.X.Replies.faults (g.X.Replies.now c.args.answerer.now) _ _) in
    let one = fault_one g.X.Replies.answers _ _ _ _ (omega arith) false expected c.in-Fault.fault (rw c.in-Fault.is at c.take-taken.ensures.first) s in
    next_closed (WithInterim g.X.Replies.answers) _ _ _ _ _ _ c.in_default.ensures.now _ _ _ _ _ _ (take c.pass.new.held c.pass.new.block) _ _
    (inl refl) nexts.Closed refl one c.in_default.ensures.passed

pub returns-in-Err-pass-clause-answered : goal.returns-in-Err-pass-clause-answered
returns-in-Err-pass-clause-answered g c =
    let expected = told_so _ _ _ false c.take-taken.ensures.first c.expects.ensures c.if-expects.false in
    let replied = λ (h : RequestHead) (body : List ℕ) (bare : Bool) (represents : RepresentsMessage h body bare c.in-Message.message).
    subst (λ (a : List ℕ). g.X.Replies.answers (g.X.Replies.now c.args.answerer.now) (message h body bare) a (g.X.Replies.now c.reply-reply.new.self))
    (sym c.as_slice.ensures) (g.met.X.Replies.replied _ _ _ _ c.reply-reply.ensures.answered h body bare represents) in
    let one = message_one g.X.Replies.answers _ _ _ _ (omega arith) false expected _ _ (rw c.in-Message.is at c.take-taken.ensures.first) replied in
    next_stops (WithInterim g.X.Replies.answers) _ _ _ _ _ _ c.in-Err-pass.ensures.now _ _ _ _ _ _
    (take c.pass-in-Message.new.held c.pass-in-Message.new.block) _ _ c.reply-reply.ensures.kept _ one.1 _ c.in-Err-pass.ensures.passed

pub returns-after-message-clause-answered : goal.returns-after-message-clause-answered
returns-after-message-clause-answered g c =
    let expected = told_so _ _ _ false c.take-taken.ensures.first c.expects.ensures c.if-expects.false in
    let first = rw c.in-Message.is at c.take-taken.ensures.first in
    let replied = λ (h : RequestHead) (body : List ℕ) (bare : Bool) (represents : RepresentsMessage h body bare c.in-Message.message).
    subst (λ (a : List ℕ). g.X.Replies.answers (g.X.Replies.now c.args.answerer.now) (message h body bare) a (g.X.Replies.now c.reply-reply.new.self))
    (sym c.as_slice.ensures) (g.met.X.Replies.replied _ _ _ _ c.reply-reply.ensures.answered h body bare represents) in
    let one = message_one g.X.Replies.answers (g.X.Replies.now c.args.answerer.now) (g.X.Replies.now c.reply-reply.new.self) c.args.text.now _ (omega arith) false expected _ _ first replied in
    elim c.if-message.branch [
      | then-message w ↦
          (next_closed (WithInterim g.X.Replies.answers) _ _ _ _ _ _ c.in_default-pass.ensures.now _ _ _ _ _ _
          (take c.pass-in-Message.new.held c.pass-in-Message.new.block) _ one.0 c.reply-reply.ensures.kept c.if-message.result w.result-is
          (subst (λ (b : Bool). One (WithInterim g.X.Replies.answers) b (g.X.Replies.now c.args.answerer.now) (g.X.Replies.now c.reply-reply.new.self)
          c.args.text.now one.0 c.as_slice.result.now) w.if-message.true one.1) c.in_default-pass.ensures.passed)
      | else-message w ↦ (next_open (WithInterim g.X.Replies.answers) _ _ _ _ _ _ c.in_default-pass.ensures.now _ _ _ _ _ _
          (take c.pass-in-Message.new.held c.pass-in-Message.new.block) _ [] c.reply-reply.ensures.kept c.if-message.result _ w.result-is
          (message_stays g.X.Replies.answers (g.X.Replies.now c.args.answerer.now) (g.X.Replies.now c.reply-reply.new.self) c.args.text.now _
          (omega arith) false expected _ _ first replied w.if-message.false) c.in_default-pass.ensures.passed)
    ]
