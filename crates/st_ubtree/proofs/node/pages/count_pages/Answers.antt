use Rattle.st_ubtree.proofs.node.pages.count_pages.Goals as goal

pub tally_pages-requires-clause-lowest : goal.tally_pages-requires-clause-lowest
tally_pages-requires-clause-lowest g c = c.requires.lowest

pub tally_pages-requires-2-clause-lowest : goal.tally_pages-requires-2-clause-lowest
tally_pages-requires-2-clause-lowest g c = c.requires.lowest
