use Rattle.std.proofs.Common.{drop, sym, ap}
use Rattle.st_hall_press.specs.Views.{Printed}
use Rattle.st_hall_press.proofs.Following.{follows_taken, publishes, published_list, published_grows}
use Rattle.st_hall_press.proofs.press.Press.publish.Goals as goal

pub replace_with-requires : goal.replace_with-requires
replace_with-requires g c =
    let q = c.in_ok-queue.ensures.queued in
    let t = follows_taken _ _ _ _ c.self.invariant.0 c.self.invariant.1 in
    rw (ap (λ d. d.shown.value) c.queue.ensures.desk, q.0) (t.0)

pub invariant_of-self-2 : goal.invariant_of-self-2
invariant_of-self-2 g c =
    let q = c.in_ok-queue.ensures.queued in
    let shown = ap (λ d. d.shown.value) c.queue.ensures.desk in
    let p = publishes g.H.HallName.start c.queue.new.writer.desk.shown.value c.replace_with.new.dest.desk.shown.value
    (drop c.queue.new.writer.behind c.queue.new.writer.log.items) (drop c.replace_with.new.dest.behind c.replace_with.new.dest.log.items)
    c.self.inside.front c.replace_with.result
    (rw shown (c.self.invariant.0)) (rw (shown, q.0) (c.self.invariant.1)) c.replace_with.ensures in
    (p.0, rw (q.1) (p.1))

pub returns-clause-published : goal.returns-clause-published
returns-clause-published g c =
    let q = c.in_ok-queue.ensures.queued in
    let shown = ap (λ d. d.shown.value) c.queue.ensures.desk in
    rw (sym (ap (λ (r : Printed). r.published) c.self.view_is), sym (ap (λ (v : _). v.list) shown))
    (published_list g.H.HallName.start c.queue.new.writer.desk.shown.value c.replace_with.new.dest.desk.shown.value
    (drop c.queue.new.writer.behind c.queue.new.writer.log.items) (drop c.replace_with.new.dest.behind c.replace_with.new.dest.log.items)
    c.self.inside.front c.replace_with.result
    (rw shown (c.self.invariant.0)) (rw (shown, q.0) (c.self.invariant.1)) c.replace_with.ensures)

pub returns-clause-grows : goal.returns-clause-grows
returns-clause-grows g c =
    let q = c.in_ok-queue.ensures.queued in
    let shown = ap (λ d. d.shown.value) c.queue.ensures.desk in
    rw (sym (ap (λ (r : Printed). r.published) c.self.view_is), sym (ap (λ (v : _). v.list) shown))
    (published_grows g.H.HallName.start c.queue.new.writer.desk.shown.value c.replace_with.new.dest.desk.shown.value
    (drop c.queue.new.writer.behind c.queue.new.writer.log.items) (drop c.replace_with.new.dest.behind c.replace_with.new.dest.log.items)
    c.self.inside.front c.replace_with.result
    (rw shown (c.self.invariant.0)) (rw (shown, q.0) (c.self.invariant.1)) c.replace_with.ensures)
