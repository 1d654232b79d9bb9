use Rattle.st_ubtree.proofs.node.sums.drop_row.Goals as goal

pub returns : goal.returns
returns g c = λ rows. rw c.in-Some.is (c.take.ensures rows)
