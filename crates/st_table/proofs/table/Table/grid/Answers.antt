use Rattle.st_table.proofs.table.Table.grid.Goals as goal

pub returns-clause-grid : goal.returns-clause-grid
returns-clause-grid g c = rw (← c.self.view_is) c.grid.ensures.grid
