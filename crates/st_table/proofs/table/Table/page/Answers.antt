use Rattle.st_table.proofs.table.Table.page.Goals as goal

pub returns-clause-rows : goal.returns-clause-rows
returns-clause-rows g c = rw (← c.self.view_is) c.page.ensures.rows

pub returns-clause-more : goal.returns-clause-more
returns-clause-more g c = rw (← c.self.view_is) c.page.ensures.more
