use Rattle.st_ubtree.proofs.Halving.{blank_more, length_more}
use Rattle.st_ubtree.proofs.tree.blank_nodes.Goals as goal

pub loop-at-preserved : goal.loop-at-preserved
loop-at-preserved g c =
    let old = c.loop-at.blanks.items in
    let new = c.push.new.self.items in
    let made = c.in_ok-new.field-0 in
    let is = c.in_ok-push.ensures.items in
    record {
      blank = blank_more old new made c.loop-at.invariant.blank c.in_ok-new.ensures is;
      count = length_more old new made c.loop-at.at c.loop-at.invariant.count is;
    }
