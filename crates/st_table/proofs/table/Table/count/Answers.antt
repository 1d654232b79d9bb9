use Rattle.st_table.proofs.table.Table.count.Goals as goal

pub returns : goal.returns
returns g c = rw (← c.self.view_is) c.count.ensures
