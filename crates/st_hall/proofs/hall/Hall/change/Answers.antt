use Rattle.st_hall_press.proofs.Unheard.{heard_after}
use Rattle.st_hall.proofs.Deciding.{end_ends, front_is_end}
use Rattle.st_hall.proofs.hall.Hall.change.Goals as goal

pub returns-clause-reply : goal.returns-clause-reply
returns-clause-reply g c = end_ends g.H.HallName.start c.args.desk.now.seen c.deref_mut.result.now.list _ c.args.asked (λ r. r.reply) (λ r. r.end) c.commit.result
    c.commit.ensures.after c.commit.ensures.list c.commit.ensures.reply c.commit.ensures.end

pub returns-clause-heard : goal.returns-clause-heard
returns-clause-heard g c = heard_after g.H.HallName.start c.args.desk.now.seen c.deref_mut.result.now.list c.args.asked.token c.commit.result
    c.commit.ensures.after c.commit.ensures.heard

pub returns-clause-front : goal.returns-clause-front
returns-clause-front g c = front_is_end _ _ _ (λ r. r.end) (λ r. r.front) c.commit.result c.commit.ensures.end c.commit.ensures.front
