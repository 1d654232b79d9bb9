use Rattle.std.proofs.Common.{◌≡◌, List, [], ℕ, Bool, true, false, refl, sym, ◌∙◌, subst, arith}
use Rattle.httparse.specs.Grammar.{RequestHead}
use Rattle.st_http.specs.Message.{RepresentsMessage}
use Rattle.st_http.specs.First.{First, IsFirst, message}
use Rattle.st_connection.specs.Connection.{WithInterim}
use Rattle.st_connection.proofs.Steps.{finds_fault, waits_so, message_one, message_stays}
use Rattle.st_connection.proofs.Ahead.{told_none, told_waits, told_stops, told_closes, told_opens}
use Rattle.st_connection.proofs.expecting.answer_expecting.Goals.{then-message, else-message}
use Rattle.st_connection.proofs.expecting.answer_expecting.Goals as goal

pub returns-then-not-told-clause-answered : goal.returns-then-not-told-clause-answered
returns-then-not-told-clause-answered g c hold held before wrote counted =
    told_none (WithInterim g.X.Replies.answers) hold _ c.args.text.now held _ before _ c.args.told wrote counted c.if-not-told.true (g.X.Replies.kept c.args.answerer.now)

pub returns-in-More-clause-answered : goal.returns-in-More-clause-answered
returns-in-More-clause-answered g c hold held before wrote counted =
    told_waits (WithInterim g.X.Replies.answers) hold _ c.args.text.now held _ before _ c.args.told wrote counted c.if-not-told.false
    (waits_so _ _ true c.in-More.ensures.first (c.requires.expected c.if-not-told.false)) (g.X.Replies.kept c.args.answerer.now) false

pub unreachable-requires : goal.unreachable-requires
unreachable-requires g c =
    let e : false ≡ true = c.requires.expected c.if-not-told.false _ (finds_fault c.args.text.now _ c.in-Fault.ensures.first) in absurd (cc)

pub returns-in-Err-clause-answered : goal.returns-in-Err-clause-answered
returns-in-Err-clause-answered g c hold held before wrote counted =
    let expected = λ (item : First) (is : IsFirst c.args.text.now item). c.requires.expected c.if-not-told.false item is ∙ sym c.if-not-told.false in
    let replied = λ (h : RequestHead) (body : List ℕ) (bare : Bool) (represents : RepresentsMessage h body bare c.in-Message.message).
    subst (λ (a : List ℕ). g.X.Replies.answers (g.X.Replies.now c.args.answerer.now) (message h body bare) a (g.X.Replies.now c.reply-reply.new.self))
    (sym c.as_slice.ensures) (g.met.X.Replies.replied _ _ _ _ c.reply-reply.ensures.answered h body bare represents) in
    let one = message_one g.X.Replies.answers (g.X.Replies.now c.args.answerer.now) (g.X.Replies.now c.reply-reply.new.self) c.args.text.now
    c.as_slice.result.now (omega arith) c.args.told expected _ _ c.in-Message.ensures.first replied in
    told_stops (WithInterim g.X.Replies.answers) hold _ c.args.text.now held _ before _ c.args.told wrote counted _ _ one.0 c.as_slice.result.now one.1
    (g.X.Replies.kept c.args.answerer.now) _ c.requires.synced c.reply-reply.ensures.kept _ _ _ _ c.in-Err.ensures.now (expected one.1.item one.1.is) [] c.in-Err.why c.in-Err.ensures.passed

pub returns-after-message-clause-answered : goal.returns-after-message-clause-answered
returns-after-message-clause-answered g c hold held before wrote counted =
    let expected = λ (item : First) (is : IsFirst c.args.text.now item). c.requires.expected c.if-not-told.false item is ∙ sym c.if-not-told.false in
    let replied = λ (h : RequestHead) (body : List ℕ) (bare : Bool) (represents : RepresentsMessage h body bare c.in-Message.message).
    subst (λ (a : List ℕ). g.X.Replies.answers (g.X.Replies.now c.args.answerer.now) (message h body bare) a (g.X.Replies.now c.reply-reply.new.self))
    (sym c.as_slice.ensures) (g.met.X.Replies.replied _ _ _ _ c.reply-reply.ensures.answered h body bare represents) in
    let one = message_one g.X.Replies.answers (g.X.Replies.now c.args.answerer.now) (g.X.Replies.now c.reply-reply.new.self) c.args.text.now
    c.as_slice.result.now (omega arith) c.args.told expected _ _ c.in-Message.ensures.first replied in
    elim c.if-message.branch [
      | then-message w ↦
          (told_closes (WithInterim g.X.Replies.answers) hold _ c.args.text.now held _ before _ c.args.told wrote counted _ _ one.0 c.as_slice.result.now one.1
          (g.X.Replies.kept c.args.answerer.now) _ c.requires.synced c.reply-reply.ensures.kept _ _ _ _ c.in_default.ensures.now c.if-message.result
          w.result-is w.if-message.true c.in_default.ensures.passed)
      | else-message w ↦
          let stays = message_stays g.X.Replies.answers (g.X.Replies.now c.args.answerer.now) (g.X.Replies.now c.reply-reply.new.self) c.args.text.now
          c.as_slice.result.now (omega arith) c.args.told expected _ _ c.in-Message.ensures.first replied w.if-message.false in
          (told_opens (WithInterim g.X.Replies.answers) hold _ c.args.text.now held _ before _ c.args.told wrote counted false _ _ c.as_slice.result.now stays.2
          (g.X.Replies.kept c.args.answerer.now) _ c.requires.synced c.reply-reply.ensures.kept _ _ _ _ c.in_default.ensures.now c.if-message.result _
          w.result-is refl refl stays.0 stays.1 c.in_default.ensures.passed)
    ]
