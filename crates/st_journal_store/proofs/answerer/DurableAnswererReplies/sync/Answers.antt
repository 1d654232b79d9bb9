use Rattle.std.proofs.Common.{Option, subst}
use Rattle.std.specs.Prelude.{IfSome}
use Rattle.st_journal_store.specs.declared.pending.Pending.{Pending}
use Rattle.st_journal_store.specs.inner.Sound.{IsNoted}
use Rattle.st_journal_store.proofs.Syncing.{none_lost, is_kept, is_lost}
use Rattle.st_journal_store.proofs.answerer.DurableAnswererReplies.sync.Goals as goal

pub invariant_of-self : goal.invariant_of-self
invariant_of-self g c =
    let j = g.J.Journal in
    let had = c.self.inside in
    let sound = none_lost _ _ c.self.view_is c.requires in
    let noted = subst (λ (o : Option Pending). IfSome o (IsNoted had.store)) c.in-Some.is c.self.invariant.waits in
    is_kept j g.met.J.Journal.leaves_list g.B.Beginning.first g.B.Since.faults
    had.journal c.keep.new.journal had.store c.in-Some.pending c.keep.ensures.misreads c.keep.ensures.counts c.self.invariant.grown
    (c.self.invariant.stands sound) noted c.keep.new.store had.loss sound c.in-Ok.ensures.ready c.in-Ok.ensures.list c.in-Ok.ensures.made

pub invariant_of-self-in-Err : goal.invariant_of-self-in-Err
invariant_of-self-in-Err g c =
    let j = g.J.Journal in
    let had = c.self.inside in
    let sound = none_lost _ _ c.self.view_is c.requires in
    let noted = subst (λ (o : Option Pending). IfSome o (IsNoted had.store)) c.in-Some.is c.self.invariant.waits in
    is_lost j g.met.J.Journal.leaves_list g.B.Beginning.first g.B.Since.faults
    had.journal c.keep.new.journal had.store c.in-Some.pending c.keep.ensures.misreads c.keep.ensures.counts c.self.invariant.grown
    (c.self.invariant.stands sound) noted c.in-Err.loss c.keep.new.store had.pending c.in-Some.is c.in-Err.ensures.unmade c.keep.ensures.crash
    (λ clean disk. c.in-Err.ensures.disk clean (cc (disk)))
